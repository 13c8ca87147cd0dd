-- The entry is read where it stands. Assumes nothing.
use Prim.Native.Nat.{◌*◌}
use mathlib.Core.Path.{ap, ◌∙◌}
use native.Mathlib.Nat.{add-sub_cancel_left}
use lib.ListN.{take, drop}
use Rattle.store.specs.Contents.{attribute_at}
use Rattle.store.proofs.Contents.{first_there}
use Rattle.store.proofs.lookup.attribute_in.Goals as goal

pub returns : goal.returns
returns c =
    let g = c.args in
    c.first.ensures
    ∙ ap (λ n. attribute_at 8 (take n (drop (g.i * 8) g.s.now)) 0) (add-sub_cancel_left (g.i * 8) 12)
    ∙ first_there g.s.now g.i
