-- Each line leaves the same to count. Assumes nothing.
use lib.ListN.{length}
use Rattle.replay.proofs.Counts.{Counting}
use Rattle.replay.proofs.tally.replay.Given as goal

abbrev pub invariant-loop-line : goal.invariant-loop-line
invariant-loop-line l = Counting l.list l.t l.left

abbrev pub decreases-loop-line : goal.decreases-loop-line
decreases-loop-line l = length l.left
