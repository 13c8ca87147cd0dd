-- Claims. A power cut, in what the functions towards C left: the log of specs/Claims/LogExample.antt as far as attribute 5's mark, and the table saved; then memory that is no table, the
-- saved form read in over it, asks and their mark, on a clock that began again. All that `Demand3OfRestored` supposes is met.
use Rattle.std.specs.Prelude.{◌≡◌, true, false, List, [], ◌∷◌, ℕ, ◌-◌, ◌≤◌, negsuc, Some}
use Rattle.types.specs.Number.{zeros}
use Rattle.frame.specs.Reply.{padded}
use Rattle.reporting.specs.declared.entry.Entry.{Entry}
use Rattle.reporting.specs.Entries.{lookup_l, fresh}
use Rattle.reporting.specs.Table.{capacity}
use Rattle.reporting.specs.Carried.{table_length, table_bytes, is_table}
use Rattle.reporting.specs.Claims.Events.{Event, asked, marked}
use Rattle.reporting.specs.Demand3.{Supposed}
use Rattle.saved.specs.Saved.{saved_in, form_in}
use Rattle.server.specs.Claims.Bench.{key, unmarked}
use Rattle.server.specs.Claims.ServedHistory.{g}
use Rattle.server.specs.Claims.LogExample.{reported}
use Rattle.hingedrift.specs.Claims.Log.{Made, mark, ask, handle, save, Log, all_events_of, Begins, made, read}
use Rattle.hingedrift.specs.Claims.LogExample.{was, new, fifth, at, first}

-- ---- before the cut

-- cluster fc21, attribute 5, 10 to 60 seconds, change 50, signed: 20 bytes, and no last report
abbrev pub form : List ℕ
form = 0x01 ∷ 0x21 ∷ 0xfc ∷ 0x05 ∷ 0x00 ∷ 0x07 ∷ 0x00 ∷ 0x0a ∷ 0x00 ∷ 0x3c ∷ 0x00 ∷ 0x32 ∷ 0x00 ∷ 0x00 ∷ 0x00 ∷ 0x00 ∷ 0x00 ∷ 0x00 ∷ 0x00 ∷ 0x00 ∷ []

-- configured, asked, marked; hd_save with a buffer of 32 bytes
abbrev pub lived : List Made
lived =
    handle first
    ∷ ask fifth (at 100) 0 1
    ∷ mark fifth (at 100) 0 (table_bytes capacity (reported ∷ []))
    ∷ save 32 0 20 (padded 32 form)
    ∷ []

-- ---- after it

-- a count of 255: as long as a table, and none
abbrev pub memory : List ℕ
memory = 0xff ∷ zeros (table_length - 1)

abbrev pub back : List ℕ
back = table_bytes capacity (unmarked g ∷ [])

-- attribute 5, marked at second 20 with -200
abbrev pub again : Entry
again = record { key = key; config = g; marked = true; last_time = 20; last_value = negsuc 199 }

abbrev pub after : List Made
after =
    ask fifth (at 20) 0 1
    ∷ mark fifth (at 20) 0 (table_bytes capacity (again ∷ []))
    ∷ ask fifth (at 79) 0 0
    ∷ ask fifth (at 80) 0 1
    ∷ []

abbrev pub told : List Event
told = asked key 20 (negsuc 199) true ∷ marked key 20 (negsuc 199) ∷ asked key 79 (negsuc 199) false ∷ asked key 80 (negsuc 199) true ∷ []

-- ---- the claims

-- from an empty table every call up to the cut is as its contract says
abbrev pub CutStands : Type 0
CutStands = Begins made was new × Log new lived

-- the memory is no table; hd_restore gave 0 over it, and every call from there on is as its contract says
abbrev pub RestoreStands : Type 0
RestoreStands = (is_table capacity memory ≡ false) × (Begins (read form 0) memory back × Log back after)

-- attribute 5 stands in the form, and the events are as supposed, with asks at most 59 seconds apart
abbrev pub RestoreSupposed : Type 0
RestoreSupposed =
    (lookup_l key (saved_in (form_in form) form) ≡ Some (fresh key g))
    × ((1 ≤ g.max_interval) × ((all_events_of after back ≡ told) × Supposed key 59 told))
