-- After i turns the first i slots are read. Assumes nothing.
use mathlib.Core.Path.{◌≡◌}
use lib.ListN.{length}
use Rattle.reporting.specs.Table.{capacity}
use Rattle.reporting.proofs.CarriageLoops.{ReadSoFar}
use Rattle.reporting.proofs.carried.read_slots.Given as goal

abbrev pub invariant-loop-i : goal.invariant-loop-i
invariant-loop-i l = (length l.table.entries ≡ capacity) × ReadSoFar l.bytes l.table.entries l.i
