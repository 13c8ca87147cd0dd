-- After i turns the first i entries are written, none of them twice. Assumes nothing.
use mathlib.Core.Path.{◌≡◌}
use mathlib.Core.Bool.{true}
use lib.ListN.{take}
use Rattle.reporting.specs.Carried.{table_in}
use Rattle.saved.specs.Saved.{is_savable}
use Rattle.saved.proofs.savable.is_savable.Given as goal

abbrev pub invariant-loop-i : goal.invariant-loop-i
invariant-loop-i l = is_savable (take l.i (table_in l.table.bytes.now)) ≡ true
