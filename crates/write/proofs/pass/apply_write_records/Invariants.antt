-- What is left of the walk is the whole; nothing stops it but a record that cannot be read. Assumes nothing.
use Prim.Native.Nat.{◌-◌}
use lib.ListN.{length}
use Rattle.store.specs.Write.{write_of}
use Rattle.write.specs.Write.{listing}
use Rattle.write.specs.Inside.{by_name}
use Rattle.write.proofs.Turns.{Silent}
use Rattle.write.proofs.pass.apply_write_records.Given as goal

abbrev pub invariant-loop-at : goal.invariant-loop-at
invariant-loop-at l = Silent (listing (by_name (write_of 8) l.request)) l.body l.initial.store l.store l.at

abbrev pub decreases-loop-at : goal.decreases-loop-at
decreases-loop-at l = length l.body - l.at
