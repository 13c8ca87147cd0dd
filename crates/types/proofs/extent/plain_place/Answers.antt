-- A value that starts at 2 or behind ends there. Assumes nothing.
use native.Mathlib.Omega.{arith}
use mathlib.Core.Path.{sym, ◌∙◌}
use Rattle.types.proofs.Extents.{ended_end}
use Rattle.types.proofs.Ends.{plain_ends}
use Rattle.types.proofs.extent.plain_place.Goals as goal

pub returns-in-Ok : goal.returns-in-Ok
returns-in-Ok c = ended_end _ (omega (arith, plain_ends _ _ _ _ (sym c.plain_extent.ensures ∙ c.in-Ok.is))) ∙ sym c.in-Ok.is ∙ c.plain_extent.ensures
