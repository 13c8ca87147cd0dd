-- The entry is read where it stands, whole or as far as it is there. Assumes nothing.
use mathlib.Core.Path.{ap, ◌∙◌}
use Rattle.store.specs.Contents.{attribute_at}
use Rattle.store.proofs.Contents.{first_there}
use Rattle.store.proofs.lookup.attribute_at.Goals as goal

pub returns-then-s-p : goal.returns-then-s-p
returns-then-s-p c =
    let g = c.args in
    c.first.ensures ∙ ap (λ l. attribute_at 8 l 0) c.part.ensures ∙ first_there g.s.now g.i
