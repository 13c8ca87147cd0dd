-- The bytes are a number of that width, so its sign may be extended. Assumes nothing.
use mathlib.Core.Path.{ap, ◌∙◌}
use Rattle.types.specs.Number.{signed_at, signed_of}
use Rattle.types.proofs.Machine.{came_back}
use Rattle.types.proofs.Numbers.{unsigned_below}
use Rattle.types.proofs.number.signed_at.Goals as goal

pub sign_extended-requires : goal.sign_extended-requires
sign_extended-requires c = rw c.unsigned_at-n.ensures (unsigned_below _ _ _ (λ i. (c.type_inv.s i).fits))

pub returns : goal.returns
unfolding signed_at
returns c = came_back _ c.sign_extended.type_inv ∙ c.sign_extended.ensures ∙ ap (signed_of _) c.unsigned_at-n.ensures
