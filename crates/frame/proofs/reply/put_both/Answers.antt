-- There is room for both, or nothing is put. Assumes nothing.
use native.Mathlib.Omega.{arith}
use Rattle.frame.proofs.Both.{both_past, both_none, both_put}
use Rattle.frame.proofs.reply.put_both.Goals as goal

pub returns-then-buffer-at : goal.returns-then-buffer-at
returns-then-buffer-at c = both_past _ _ c.args.front.now c.args.back.now (omega (arith, c.if-buffer-at.true))

pub returns-then-room-front : goal.returns-then-room-front
returns-then-room-front c = both_past _ _ c.args.front.now c.args.back.now (omega (arith, c.if-buffer-at.false, c.if-room-front.true))

pub returns-then-room-front-2 : goal.returns-then-room-front-2
returns-then-room-front-2 c = both_past _ _ c.args.front.now c.args.back.now (omega (arith, c.if-buffer-at.false, c.if-room-front.false, c.if-room-front-2.true))

pub returns-in_default : goal.returns-in_default
returns-in_default c = both_none _ _ _ c.args.back.now _ _ c.put_run.ensures c.in_default.is

pub returns : goal.returns
returns c = both_put _ _ _ c.args.back.now (omega (arith, c.if-buffer-at.false, c.if-room-front.false, c.if-room-front-2.false)) _ _ _ _ _ c.put_run.ensures c.in-Some.is c.put_run-2.ensures
