-- After i turns the rows of the first i entries stand behind the count, and their bodies behind the contents. Assumes nothing.
use mathlib.Core.Path.{◌≡◌}
use Rattle.saved.proofs.Rows.{written_to}
use Rattle.saved.proofs.save.write_entries.Given as goal

abbrev pub invariant-loop-i : goal.invariant-loop-i
invariant-loop-i l = l.saved ≡ written_to l.table.bytes.now l.i l.initial.saved
