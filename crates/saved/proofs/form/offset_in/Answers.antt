-- The third number of a row. Assumes nothing.
use mathlib.Core.Path.{sym, ap, ◌∙◌}
use mathlib.Core.List.{List}
use native.Mathlib.Omega.{arith}
use Prim.Native.Nat.{ℕ, ◌+◌}
use lib.ListN.{get_or}
use Rattle.saved.proofs.Places.{three_numbers}
use Rattle.saved.proofs.form.offset_in.Goals as goal

pub returns : goal.returns
returns c =
    let a = c.args in
    c.u16_in.ensures ∙ sym (ap (λ (ns : List ℕ). get_or ns 2 0) (three_numbers 2 2 2 a.at (a.at + 4) (omega arith) a.saved.now))
