-- Claims. What the code of the server and of the table did: requests and calls of the table's methods one after the other, each with what it gave
-- back; and DEMAND 3 of these answers: "Start from an empty reporting table. An accepted configuration record gives an attribute minimum m and
-- maximum M, M from 1 to 65534; nothing later configures or clears it, but any other calls may come between. .." What is supposed and promised of the
-- events is said in crate `reporting` (specs/Demand3.antt), and of the table's methods there too (specs/Claims/Log.antt).
use Rattle.std.specs.Prelude.{◌≡◌, List, [], ◌∷◌, ◌++◌, ℕ, ◌≤◌}
use Rattle.frame.specs.Answer.{seen}
use Rattle.reporting.specs.declared.entry.Key.{Key}
use Rattle.reporting.specs.declared.entry.ReportingConfig.{ReportingConfig}
use Rattle.reporting.specs.declared.table.ReportingTable.{ReportingTable}
use Rattle.reporting.specs.Table.{capacity, table_of, holding, entries_of}
use Rattle.reporting.specs.Lent.{quieted_t}
use Rattle.reporting.specs.Claims.Events.{Event, configured}
use Rattle.reporting.specs.Demand3.{Supposed, Promised, asks_of}
use Rattle.reporting.specs.Claims.Log as Method
use Rattle.server.specs.declared.serve.Served.{Served}
use Rattle.server.specs.Serve.{state, serve}
use Rattle.server.specs.Claims.History.{Request, request_events}

-- a request, with what `handle_request` gave back, the reply buffer afterwards and the store afterwards; or a call of a method of the table
pub data Made : Type 0 where
  request : Request → Served → List ℕ → List ℕ → Made
  method : Method.Made → Made

-- what the contract says of it, for the table that it was called on: the `ensures` of src/serve.rt, or that of the method
abbrev pub Contract : Made → ReportingTable → Type 0
Contract (request q r reply store) t =
    seen r.answer reply (state store (table_of r.table)) ≡ serve 8 capacity q.store (quieted_t (table_of t)) q.cluster q.unicast q.frame q.room
Contract (method c) t = Method.Contract c t

-- the table that the caller has then
abbrev pub next : Made → ReportingTable → ReportingTable
next (request q r reply store) t = r.table
next (method c) t = Method.next c t

abbrev pub last : List Made → ReportingTable → ReportingTable
last [] t = t
last (c ∷ cs) t = last cs (next c t)

-- the calls of a log were made one after the other, each on the table that the one before it left
abbrev pub Log : ReportingTable → List Made → Type 0
Log t [] = Unit
Log t (c ∷ cs) = Contract c t × Log (next c t) cs

-- the events of a request, by the table that it was called on; those of a method, by what it answered
abbrev pub events_of : Made → ReportingTable → List Event
events_of (request q r reply store) t = request_events capacity q (entries_of (table_of t))
events_of (method c) t = Method.events_of c

abbrev pub all_events_of : List Made → ReportingTable → List Event
all_events_of [] t = []
all_events_of (c ∷ cs) t = events_of c t ++ all_events_of cs (next c t)

-- what comes after the accepted record: the rest of its frame, also of one that ends in 4 or 5, and then the calls
abbrev pub later_of : List Event → List Made → ReportingTable → List Event
later_of rest after t = rest ++ all_events_of after t

-- Demand 3 of the server: `new` gave the table t, and the calls of the log were made from it on. Among them is a request q with a record that was
-- accepted, any record of its frame. That m ≤ M is no supposition: it follows from the acceptance.
abbrev pub Demand3OfServer : Type 0
Demand3OfServer =
    (t : ReportingTable) (before : List Made) (q : Request) (r : Served) (reply store : List ℕ) (after : List Made)
    (earlier : List Event) (k : Key) (g : ReportingConfig) (rest : List Event) (G : ℕ)
    → table_of t ≡ holding []
    → Log t (before ++ (request q r reply store ∷ after))
    → events_of (request q r reply store) (last before t) ≡ earlier ++ (configured k g ∷ rest)
    → 1 ≤ g.max_interval
    → g.max_interval ≤ 65534
    → Supposed k G (later_of rest after r.table)
    → Promised g G (asks_of k (later_of rest after r.table))
