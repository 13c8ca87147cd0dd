-- The second test is made where the first holds. Assumes nothing.
use mathlib.Core.Path.{◌∙◌}
use borrow.Author.Tests.{eq-eqb, ne_eqb}
use Rattle.frame.proofs.Codes.{is_success}
use Rattle.server.proofs.default_response.is_silenced.Goals as goal

pub returns-then-control-eq1 : goal.returns-then-control-eq1
returns-then-control-eq1 c = simp (eq-eqb _ 1 c.if-control-eq1.true) (c.eq.ensures ∙ is_success c.args.status)

pub returns-else-control-eq1 : goal.returns-else-control-eq1
returns-else-control-eq1 c = simp (ne_eqb _ 1 c.if-control-eq1.false)
