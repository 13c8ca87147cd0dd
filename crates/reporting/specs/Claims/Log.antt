-- Claims. What the code of the table did: the calls of its methods one after the other, each with what it gave back; and demand 3 of these answers.
use Rattle.std.specs.Prelude.{◌≡◌, cond, List, [], ◌∷◌, ◌++◌, ℕ, eqb, ℤ, Option, Result, Bool}
use Rattle.reporting.specs.declared.entry.Key.{Key}
use Rattle.reporting.specs.declared.entry.ReportingConfig.{ReportingConfig}
use Rattle.reporting.specs.declared.table.ReportingTable.{ReportingTable}
use Rattle.reporting.specs.declared.table.Changed.{Changed}
use Rattle.frame.specs.declared.answer.Refusal.{Refusal}
use Rattle.reporting.specs.Table.{capacity, table_of, holding, ChangeTold, ReportTold, change_told, report_told, setting_told, length_told, handed_back, configure_t, clear_t, mark_t, ask_t, configuration_t, length_t}
use Rattle.reporting.specs.Claims.Events.{Event, configured, cleared, asked, marked}
use Rattle.reporting.specs.Demand3.{AcceptedRecord, Supposed, Promised, asks_of}

-- a call of a method: its arguments beside the table, and what it gave back
pub data Made : Type 0 where
  configure : Key → ReportingConfig → Changed → Made
  clear : Key → Changed → Made
  mark : Key → ℕ → ℤ → Changed → Made
  ask : Key → ℕ → ℤ → Result Bool Refusal → Made
  configuration : Key → Result (Option ReportingConfig) Refusal → Made
  len : Result ℕ Refusal → Made

-- what the method's contract says of it, for the table that it was called on: the `ensures` of src/table.rt
abbrev pub Contract : Made → ReportingTable → Type 0
Contract (configure k g r) t = handed_back r ≡ configure_t capacity k g (table_of t)
Contract (clear k r) t = handed_back r ≡ clear_t k (table_of t)
Contract (mark k now v r) t = handed_back r ≡ mark_t k now v (table_of t)
Contract (ask k now v r) t = report_told r ≡ ask_t k now v (table_of t)
Contract (configuration k r) t = setting_told r ≡ configuration_t k (table_of t)
Contract (len r) t = length_told r ≡ length_t (table_of t)

-- the table that the caller has then
abbrev pub next : Made → ReportingTable → ReportingTable
next (configure k g r) t = r.table
next (clear k r) t = r.table
next (mark k now v r) t = r.table
next (ask k now v r) t = t
next (configuration k r) t = t
next (len r) t = t

-- the calls of a log were made one after the other, each on the table that the one before it left
abbrev pub Log : ReportingTable → List Made → Type 0
Log t [] = Unit
Log t (c ∷ cs) = Contract c t × Log (next c t) cs

-- the events of a call, by what the method answered: what was not accepted, or refused with a number, is none
abbrev pub if_accepted : ChangeTold → Event → List Event
if_accepted a e = cond a.accepted (e ∷ []) []

abbrev pub if_answered : Key → ℕ → ℤ → ReportTold → List Event
if_answered k now v a = cond (eqb a.number 0) (asked k now v a.due ∷ []) []

abbrev pub events_of : Made → List Event
events_of (configure k g r) = if_accepted (change_told r.answer) (configured k g)
events_of (clear k r) = if_accepted (change_told r.answer) (cleared k)
events_of (mark k now v r) = if_accepted (change_told r.answer) (marked k now v)
events_of (ask k now v r) = if_answered k now v (report_told r)
events_of (configuration k r) = []
events_of (len r) = []

abbrev pub all_events_of : List Made → List Event
all_events_of [] = []
all_events_of (c ∷ cs) = events_of c ++ all_events_of cs

-- Demand 3 of the code: `new` gave the table t, and the calls of the log were made from it on.
abbrev pub Demand3OfCode : Type 0
Demand3OfCode =
    (t : ReportingTable) (log : List Made) (earlier : List Event) (k : Key) (g : ReportingConfig) (G : ℕ) (later : List Event)
    → table_of t ≡ holding []
    → Log t log
    → all_events_of log ≡ earlier ++ (configured k g ∷ later)
    → AcceptedRecord g
    → Supposed k G later
    → Promised g G (asks_of k later)
