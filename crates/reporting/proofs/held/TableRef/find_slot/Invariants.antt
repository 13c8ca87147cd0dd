-- The loop's invariant: the scan has passed i slots, none of them the key's. Assumes nothing.
use Prim.Native.Nat.{◌-◌}
use Rattle.reporting.proofs.Lending.{Passed}
use Rattle.reporting.proofs.held.TableRef.find_slot.Given as goal

abbrev pub invariant-loop-i : goal.invariant-loop-i
invariant-loop-i l = Passed l.key l.self.bytes.now l.i

abbrev pub decreases-loop-i : goal.decreases-loop-i
decreases-loop-i l = l.n - l.i
