-- What came so far is within the buffer, and each read that is not the last one brings some more.
use Rattle.std.proofs.Common.{◌≤◌, ◌-◌, length}
use Rattle.bench.proofs.read_full.Given as goal

abbrev pub invariant-loop-done : goal.invariant-loop-done
invariant-loop-done g l = l.done ≤ length l.buffer

abbrev pub decreases-loop-done : goal.decreases-loop-done
decreases-loop-done g l = length l.buffer - l.done
