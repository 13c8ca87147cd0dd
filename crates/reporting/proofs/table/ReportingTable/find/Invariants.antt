-- `reporting::table::ReportingTable::find` meets its contract. The loop's invariant: the scan has passed i entries, none of them
use mathlib.Core.Path.{◌≡◌}
use Prim.Native.Nat.{◌+◌, ◌-◌, ◌≤◌}
use lib.ListN.{drop}
use Rattle.reporting.specs.Entries.{find_l}
use Rattle.reporting.specs.Table.{live}
use Rattle.reporting.proofs.table.ReportingTable.find.Given as goal

abbrev pub invariant-loop-i : goal.invariant-loop-i
invariant-loop-i l = (l.i ≤ l.n) × (find_l l.key (live l.self) ≡ l.i + find_l l.key (drop l.i (live l.self)))

abbrev pub decreases-loop-i : goal.decreases-loop-i
decreases-loop-i l = l.n - l.i
