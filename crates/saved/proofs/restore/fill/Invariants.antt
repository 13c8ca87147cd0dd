-- After i turns the table has the first i entries of the form. Assumes nothing.
use mathlib.Core.Path.{◌≡◌}
use lib.ListN.{length, take}
use Rattle.reporting.specs.Table.{capacity}
use Rattle.reporting.specs.Carried.{table_bytes, table_length}
use Rattle.reporting.specs.Claims.RoundTrip.{AllClean}
use Rattle.saved.specs.Saved.{saved_in, form_in}
use Rattle.saved.proofs.restore.fill.Given as goal

abbrev pub invariant-loop-i : goal.invariant-loop-i
invariant-loop-i l = record {
  size : length l.table ≡ table_length;
  first : l.table ≡ table_bytes capacity (take l.i (saved_in (form_in l.saved) l.saved));
  clean : AllClean (take l.i (saved_in (form_in l.saved) l.saved));
}
