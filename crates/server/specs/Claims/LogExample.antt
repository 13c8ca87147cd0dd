-- Claims. A log of the server and of the table's methods that meets all that demand 3 of the server supposes (specs/Claims/Log.antt, `Demand3OfServer`):
-- bench frame 11, an ask and its mark; then a frame for the same attribute whose record is refused, with a maximum nonzero and below the minimum, so
-- that it neither configures nor clears; and asks before and at the maximum.
use Rattle.std.specs.Prelude.{◌≡◌, true, false, List, [], ◌∷◌, ◌++◌, ℕ, ◌≤◌, length, negsuc, Ok}
use Rattle.frame.specs.Reply.{padded}
use Rattle.reporting.specs.declared.entry.Entry.{Entry}
use Rattle.reporting.specs.declared.table.ReportingTable.{ReportingTable}
use Rattle.reporting.specs.Table.{table_of, holding}
use Rattle.reporting.specs.Claims.Events.{Event, configured, asked, marked}
use Rattle.reporting.specs.Demand3.{Supposed}
use Rattle.reporting.specs.Claims.Log.{ask, mark}
use Rattle.reporting.specs.Claims.LogExample.{table_with, done_with}
use Rattle.server.specs.Claims.History.{Request}
use Rattle.server.specs.Claims.Log.{Made, request, method, last, Log, events_of, later_of}
use Rattle.server.specs.Claims.Bench.{T, cluster, key, unmarked}
use Rattle.server.specs.Claims.ServedHistory.{over, g, own_record}

-- ---- the calls

-- attribute 5's entry, marked at second 100 with -200
abbrev pub reported : Entry
reported = record { key = key; config = g; marked = true; last_time = 100; last_value = negsuc 199 }

-- handle_request gave a reply of these bytes, and left a table with these entries and store T as it was
abbrev pub handled : Request → List ℕ → List Entry → Made
handled q reply l = request q (record { table = table_with l; answer = Ok (length reply) }) (padded 64 reply) (T 0x07)

abbrev pub configuring : Request
configuring = over cluster (0x00 ∷ 0x2d ∷ 0x06 ∷ own_record)

abbrev pub accepted : List ℕ
accepted = 0x18 ∷ 0x2d ∷ 0x07 ∷ 0x00 ∷ []

-- attribute 5 with minimum 60 and maximum 10, and the reply: 87 for what is reported of attribute 5
abbrev pub crossed : Request
crossed = over cluster (0x00 ∷ 0x2e ∷ 0x06 ∷ 0x00 ∷ 0x05 ∷ 0x00 ∷ 0x29 ∷ 0x3c ∷ 0x00 ∷ 0x0a ∷ 0x00 ∷ 0x32 ∷ 0x00 ∷ [])

abbrev pub failed : List ℕ
failed = 0x18 ∷ 0x2e ∷ 0x07 ∷ 0x87 ∷ 0x00 ∷ 0x05 ∷ 0x00 ∷ []

abbrev pub before : List Made
before = handled (over cluster (0x00 ∷ 0x2a ∷ 0x00 ∷ 0x09 ∷ 0x00 ∷ [])) (0x18 ∷ 0x2a ∷ 0x01 ∷ 0x09 ∷ 0x00 ∷ 0x86 ∷ []) [] ∷ []

abbrev pub after : List Made
after =
    method (ask key 100 (negsuc 199) (Ok true))
    ∷ method (mark key 100 (negsuc 199) (done_with (reported ∷ [])))
    ∷ handled crossed failed (reported ∷ [])
    ∷ method (ask key 159 (negsuc 199) (Ok false))
    ∷ method (ask key 160 (negsuc 199) (Ok true))
    ∷ []

-- the table that the accepted record leaves
abbrev pub configured_table : ReportingTable
configured_table = table_with (unmarked g ∷ [])

abbrev pub told : List Event
told = asked key 100 (negsuc 199) true ∷ marked key 100 (negsuc 199) ∷ asked key 159 (negsuc 199) false ∷ asked key 160 (negsuc 199) true ∷ []

-- ---- the claims: all that `Demand3OfServer` supposes, with asks at most 59 seconds apart

-- from an empty table every call of the log is as its contract says
abbrev pub LogStands : Type 0
LogStands = (table_of (table_with []) ≡ holding []) × Log (table_with []) (before ++ (handled configuring accepted (unmarked g ∷ []) ∷ after))

-- the events of the accepted record, and of all that comes after it: the refused record is none
abbrev pub LogEvents : Type 0
LogEvents =
    (events_of (handled configuring accepted (unmarked g ∷ [])) (last before (table_with [])) ≡ [] ++ (configured key g ∷ []))
    × (later_of [] after configured_table ≡ told)

abbrev pub LogSupposed : Type 0
LogSupposed = (1 ≤ g.max_interval) × (g.max_interval ≤ 65534) × Supposed key 59 told
