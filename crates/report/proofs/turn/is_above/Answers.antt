-- No last id, or one that is compared. Assumes nothing.
use native.Mathlib.Omega.{arith}
use Rattle.report.proofs.Lists.{above_none, above_id}
use Rattle.report.proofs.turn.is_above.Goals as goal

pub returns-then-last-gt65535 : goal.returns-then-last-gt65535
returns-then-last-gt65535 c = above_none c.args.last c.args.a.name.0 (omega (arith, c.if-last-gt65535.true))

pub returns : goal.returns
returns c = above_id c.args.last c.args.a.name.0 (omega (arith, c.if-last-gt65535.false))
