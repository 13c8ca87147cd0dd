-- After i turns the first i offsets follow on and the first i marks are 0 or 1, and the others decide. Assumes nothing.
use Rattle.saved.proofs.Forms.{FollowSoFar, MarksSoFar}
use Rattle.saved.proofs.restore.bodies_fit.Given as goal

abbrev pub invariant-loop-i : goal.invariant-loop-i
invariant-loop-i l = record { offsets : FollowSoFar l.with_marks l.saved l.n l.i; marks : MarksSoFar l.with_marks l.saved l.n l.i }
