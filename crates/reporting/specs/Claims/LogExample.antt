-- Claims. A log of the table's methods that meets all that demand 3 of the code supposes (specs/Claims/Log.antt, `Demand3OfCode`): a configuration, an ask,
-- its mark, calls for another key and calls that only look, and asks before and at the maximum.
use Rattle.std.specs.Prelude.{◌≡◌, true, false, List, [], ◌∷◌, ◌++◌, ℕ, ◌-◌, length, replicate, pos, Ok, Some}
use Rattle.reporting.specs.declared.entry.Key.{Key}
use Rattle.reporting.specs.declared.entry.ReportingConfig.{ReportingConfig}
use Rattle.reporting.specs.declared.entry.Entry.{Entry}
use Rattle.reporting.specs.declared.table.ReportingTable.{ReportingTable}
use Rattle.reporting.specs.declared.table.Changed.{Changed}
use Rattle.reporting.specs.Entries.{fresh}
use Rattle.reporting.specs.Table.{capacity, table_of, holding, zero_config}
use Rattle.reporting.specs.Claims.Events.{Event, configured, cleared, asked, marked}
use Rattle.reporting.specs.Demand3.{AcceptedRecord, Supposed}
use Rattle.reporting.specs.Claims.Log.{Made, configure, clear, mark, ask, configuration, len, Log, all_events_of}

-- ---- tables

abbrev pub key_at : ℕ → ℕ → Key
key_at cluster attribute = record { cluster = record { 0 = cluster }; attribute = record { 0 = attribute } }

-- these entries, and slots of zeros behind them
abbrev pub table_with : List Entry → ReportingTable
table_with l = record { entries = l ++ replicate (capacity - length l) (fresh (key_at 0 0) zero_config); count = length l }

-- an operation was done, and left these entries
abbrev pub done_with : List Entry → Changed
done_with l = record { table = table_with l; answer = (Ok true) }

-- ---- the log

abbrev pub k : Key
k = key_at 0x402 0

abbrev pub j : Key
j = key_at 0x402 3

abbrev pub g : ReportingConfig
g = record { min_interval = 5; max_interval = 30; reportable_change = 25; unsigned = false }

-- k's entry, marked at second 1000
abbrev pub reported : Entry
reported = record { key = k; config = g; marked = true; last_time = 1000; last_value = pos 2100 }

abbrev pub log : List Made
log =
    configure j g (done_with (fresh j g ∷ []))
    ∷ configure k g (done_with (fresh j g ∷ fresh k g ∷ []))
    ∷ ask k 1000 (pos 2100) (Ok true)
    ∷ mark k 1000 (pos 2100) (done_with (fresh j g ∷ reported ∷ []))
    ∷ ask k 1029 (pos 2124) (Ok false)
    ∷ clear j (done_with (reported ∷ []))
    ∷ configuration k (Ok (Some g))
    ∷ len (Ok 1)
    ∷ ask k 1030 (pos 2124) (Ok true)
    ∷ []

abbrev pub earlier : List Event
earlier = configured j g ∷ []

abbrev pub later : List Event
later = asked k 1000 (pos 2100) true ∷ marked k 1000 (pos 2100) ∷ asked k 1029 (pos 2124) false ∷ cleared j ∷ asked k 1030 (pos 2124) true ∷ []

-- ---- the claims: all that `Demand3OfCode` supposes, with asks at most 29 seconds apart

-- from an empty table every call of the log is as its contract says
abbrev pub LogStands : Type 0
LogStands = (table_of (table_with []) ≡ holding []) × Log (table_with []) log

abbrev pub LogEvents : Type 0
LogEvents = all_events_of log ≡ earlier ++ (configured k g ∷ later)

abbrev pub LogSupposed : Type 0
LogSupposed = AcceptedRecord g × Supposed k 29 later
