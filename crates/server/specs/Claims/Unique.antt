-- Claims. No second answer fits a call. Two that meet a request's contract have the same answer, reply buffer and store, and tables that are alike
-- (the slots past the count are no part of a table).
use Rattle.std.specs.Prelude.{◌≡◌, Bool, List, ℕ, length, Result}
use Rattle.types.specs.declared.ids.ClusterId.{ClusterId}
use Rattle.frame.specs.declared.answer.Refusal.{Refusal}
use Rattle.frame.specs.declared.header.ZclHeader.{ZclHeader}
use Rattle.frame.specs.declared.status.Status.{Status}
use Rattle.frame.specs.Answer.{no_state, seen}
use Rattle.reporting.specs.declared.table.ReportingTable.{ReportingTable}
use Rattle.reporting.specs.Table.{capacity, Alike, table_of}
use Rattle.reporting.specs.Lent.{quieted_t}
use Rattle.server.specs.declared.serve.Served.{Served}
use Rattle.server.specs.DefaultResponse.{default_response}
use Rattle.server.specs.Serve.{state, serve}
use Rattle.server.specs.Lent.{lent, serve_lent}
use Rattle.server.specs.UnsupportedCluster.{unsupported_cluster}

-- src/default_response.rt
abbrev pub DefaultResponseOnce : Type 0
DefaultResponseOnce =
    (request : ZclHeader) (unicast : Bool) (status : Status) (reply : List ℕ) (r q : Result ℕ Refusal) (x y : List ℕ)
    → seen r x no_state ≡ default_response request unicast status (length reply)
    → seen q y no_state ≡ default_response request unicast status (length reply)
    → (r ≡ q) × (x ≡ y)

-- src/serve.rt
abbrev pub HandleRequestLentOnce : Type 0
HandleRequestLentOnce =
    (store table : List ℕ) (cluster : ClusterId) (unicast : Bool) (request reply : List ℕ) (r q : Result ℕ Refusal) (x y s u bs cs : List ℕ)
    → seen r x (lent s bs) ≡ serve_lent store table cluster.0 unicast request (length reply)
    → seen q y (lent u cs) ≡ serve_lent store table cluster.0 unicast request (length reply)
    → (r ≡ q) × ((x ≡ y) × ((s ≡ u) × (bs ≡ cs)))

abbrev pub HandleRequestOnce : Type 0
HandleRequestOnce =
    (store : List ℕ) (table : ReportingTable) (cluster : ClusterId) (unicast : Bool) (request reply : List ℕ) (r q : Served) (x y s u : List ℕ)
    → seen r.answer x (state s (table_of r.table)) ≡ serve 8 capacity store (quieted_t (table_of table)) cluster.0 unicast request (length reply)
    → seen q.answer y (state u (table_of q.table)) ≡ serve 8 capacity store (quieted_t (table_of table)) cluster.0 unicast request (length reply)
    → (r.answer ≡ q.answer) × ((x ≡ y) × ((s ≡ u) × Alike r.table q.table))

-- src/unsupported_cluster.rt
abbrev pub UnsupportedClusterOnce : Type 0
UnsupportedClusterOnce =
    (served : List ℕ) (cluster : ClusterId) (unicast : Bool) (request reply : List ℕ) (r q : Result ℕ Refusal) (x y : List ℕ)
    → seen r x no_state ≡ unsupported_cluster served cluster.0 unicast request (length reply)
    → seen q y no_state ≡ unsupported_cluster served cluster.0 unicast request (length reply)
    → (r ≡ q) × (x ≡ y)
