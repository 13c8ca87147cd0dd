-- What is left of the walk is the whole, whatever is done with a record. Assumes nothing.
use Prim.Native.Nat.{◌-◌}
use lib.ListN.{length}
use Rattle.frame.proofs.Passes.{Going}
use Rattle.write.specs.Request.{record_at}
use Rattle.write.specs.Write.{listing}
use Rattle.write.specs.Inside.{OnValue, Does, by_name}
use Rattle.write.proofs.pass.pass_records.Given as goal

abbrev pub invariant-loop-at : goal.invariant-loop-at
invariant-loop-at g l =
    (does : OnValue) → Does (goal.F-post g l.task) does
    → Going (listing (by_name does l.request)) (record_at l.body) (length l.body) l.start l.initial.store l.initial.reply l.store l.reply l.at l.out

abbrev pub decreases-loop-at : goal.decreases-loop-at
decreases-loop-at g l = length l.body - l.at
