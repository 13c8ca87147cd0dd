-- Claims. The saved form towards C (document 02, request 5): "Writing then reading gives the same table without its last reports, and reading then writing the same bytes". Of every call that
-- gave 0; the laws of the form itself are those of crate `saved` (specs/Claims/RoundTrip.antt).
use Rattle.std.specs.Prelude.{◌≡◌, true, List, map, ℕ, ◌≤◌, length, take}
use Rattle.types.specs.Number.{AllBytes}
use Rattle.frame.specs.Reply.{padded}
use Rattle.frame.specs.Answer.{no_state}
use Rattle.reporting.specs.Entries.{unreported}
use Rattle.reporting.specs.Table.{capacity}
use Rattle.reporting.specs.Carried.{count_in, size_ok, table_in, table_bytes}
use Rattle.saved.specs.Saved.{marked, plain, saved_size, saved_bytes, saved_in, form_in}
use Rattle.hingedrift.specs.Tables.{left, no_result}
use Rattle.hingedrift.specs.Serving.{handed}
use Rattle.hingedrift.specs.Saving.{save_left, restore_left}

-- what hd_save wrote, hd_restore reads over any bytes as long as a table's: 0, and the table without its last reports
abbrev pub HdSaveRestore : Type 0
HdSaveRestore =
    (bs : List ℕ) (room used : ℕ) (buffer was : List ℕ)
    → AllBytes bs
    → handed 0 used buffer no_state ≡ save_left bs room
    → size_ok capacity was ≡ true
    → restore_left was (take used buffer) ≡ left 0 (table_bytes capacity (map unreported (table_in bs))) no_result

-- what hd_restore read, hd_save writes into any buffer that is long enough: 0, of a form with marks the same bytes, and then zeros
abbrev pub HdRestoreSave : Type 0
HdRestoreSave =
    (was form table : List ℕ) (room : ℕ)
    → AllBytes form
    → form_in form ≡ marked
    → left 0 table no_result ≡ restore_left was form
    → length form ≤ room
    → handed 0 (length form) (padded room form) no_state ≡ save_left table room

-- of one without, its entries with marks; each is signed (crate `saved`, `OldFormBack`)
abbrev pub HdRestoreSaveOld : Type 0
HdRestoreSaveOld =
    (was form table : List ℕ) (room : ℕ)
    → AllBytes form
    → form_in form ≡ plain
    → left 0 table no_result ≡ restore_left was form
    → saved_size marked (count_in form) ≤ room
    → handed 0 (saved_size marked (count_in form)) (padded room (saved_bytes marked (saved_in plain form))) no_state ≡ save_left table room
