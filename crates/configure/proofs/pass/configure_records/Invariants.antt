-- What is left of the walk from the table's entries is the whole. Assumes nothing.
use mathlib.Core.Path.{◌≡◌}
use Prim.Native.Nat.{◌-◌}
use lib.ListN.{length}
use Rattle.configure.proofs.Turns.{Goes}
use Rattle.configure.proofs.pass.configure_records.Given as goal

abbrev pub invariant-loop-at : goal.invariant-loop-at
invariant-loop-at l =
    (l.table.bytes.ghost_name ≡ l.initial.table.bytes.ghost_name)
    × Goes l.store l.request l.body l.start l.initial.table.bytes.now l.initial.reply l.table.bytes.now l.reply l.at l.out

abbrev pub decreases-loop-at : goal.decreases-loop-at
decreases-loop-at l = length l.body - l.at
