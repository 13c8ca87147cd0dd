-- A number, or none. Assumes nothing.
use Rattle.std.specs.Prelude.{ℤ, Option, unwrap_or, pos}
use mathlib.Core.Path.{ap, ◌∙◌}
use Rattle.types.proofs.Machine.{came_back}
use Rattle.report.proofs.Passes.{value_or}
use Rattle.report.proofs.turn.value_in.Goals as goal

pub returns : goal.returns
returns c =
    came_back _ c.unwrap_or.type_inv
    ∙ c.unwrap_or.ensures
    ∙ ap (λ (o : Option ℤ). unwrap_or o (pos 0)) c.number_at.ensures
    ∙ value_or c.args.store.now c.args.a
