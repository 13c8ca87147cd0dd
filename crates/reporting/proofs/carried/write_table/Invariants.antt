-- After i turns the bytes are the count, the first i slots, and zeros. Assumes nothing.
use mathlib.Core.Path.{◌≡◌}
use mathlib.Core.List.{map}
use lib.ListN.{length, take}
use Rattle.reporting.specs.Carried.{quieted, table_length}
use Rattle.reporting.specs.Claims.RoundTrip.{AllClean}
use Rattle.reporting.proofs.CarriageLoops.{filled}
use Rattle.reporting.proofs.carried.write_table.Given as goal

abbrev pub invariant-loop-i : goal.invariant-loop-i
invariant-loop-i l = (length l.bytes ≡ table_length) × ((l.bytes ≡ filled table_length l.count l.table.entries l.i) × AllClean (map quieted (take l.i l.table.entries)))
