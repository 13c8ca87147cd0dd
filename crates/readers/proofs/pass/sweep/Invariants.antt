-- What lies behind and what lies ahead are all; each turn moves on. Assumes nothing.
use Prim.Native.Nat.{◌-◌}
use lib.ListN.{length}
use Rattle.readers.specs.Layout.{length_of}
use Rattle.readers.proofs.Sweeping.{Passed}
use Rattle.readers.proofs.pass.sweep.Given as goal

abbrev pub invariant-loop-at : goal.invariant-loop-at
invariant-loop-at l = Passed (length_of l.layout) l.frame l.k l.from l.at l.count l.kth

abbrev pub decreases-loop-at : goal.decreases-loop-at
decreases-loop-at l = length l.frame - l.at
