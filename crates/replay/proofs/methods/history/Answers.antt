-- Each call leaves the same to compare. Assumes nothing.
use Rattle.replay.proofs.Calls.{follow_more}
use Rattle.replay.proofs.methods.history.Goals as goal

pub loop-call-preserved : goal.loop-call-preserved
loop-call-preserved c =
    follow_more _ c.args.input.now c.args.held.now _ c.as_chunks.ensures.front _ _ _ c.loop-call.invariant c.loop-call-test.true _ c.give-next.ensures _ c.in-Some.is
