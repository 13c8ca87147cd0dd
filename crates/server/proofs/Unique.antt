-- No second answer fits a call. Two that meet a request's contract have the same answer, reply buffer and store, and tables that are alike
-- (the slots past the count are no part of a table). Assumes nothing.
use mathlib.Core.Path.{◌≡◌, ap}
use mathlib.Core.List.{List}
use Prim.Native.Nat.{ℕ}
use lib.ListN.{length}
use Rattle.frame.specs.Answer.{Outcome, seen}
use Rattle.frame.proofs.Outcome.{only_one, only_answer}
use Rattle.reporting.specs.Table.{capacity, Alike, table_of}
use Rattle.reporting.specs.Lent.{quieted_t}
use Rattle.reporting.proofs.Unique.{alike}
use Rattle.server.specs.declared.serve.Served.{Served}
use Rattle.server.specs.DefaultResponse.{default_response}
use Rattle.server.specs.Serve.{State, state, serve}
use Rattle.server.specs.Lent.{Lent, lent, serve_lent}
use Rattle.server.specs.UnsupportedCluster.{unsupported_cluster}
use Rattle.server.specs.Claims.Unique.{DefaultResponseOnce, HandleRequestLentOnce, HandleRequestOnce, UnsupportedClusterOnce}

-- ---- what is seen of a call tells all that it left

pub one_served : (o : Outcome State) (a b : Served) (d e s u : List ℕ) → seen a.answer d (state s (table_of a.table)) ≡ o → seen b.answer e (state u (table_of b.table)) ≡ o
    → (a.answer ≡ b.answer) × ((d ≡ e) × ((s ≡ u) × Alike a.table b.table))
one_served o a b d e s u p q =
    let w = only_one o a.answer b.answer d e (state s (table_of a.table)) (state u (table_of b.table)) p q in
    (w.0, (w.1.0, (ap (λ (x : State). x.store) w.1.1, alike a.table b.table (ap (λ (x : State). x.table) w.1.1))))

-- src/default_response.rt

pub default_response_once : DefaultResponseOnce
default_response_once request unicast status reply r q x y e f = only_answer (default_response request unicast status (length reply)) r q x y e f

-- src/serve.rt

pub handle_request_lent_once : HandleRequestLentOnce
handle_request_lent_once store table cluster unicast request reply r q x y s u bs cs e f =
    let w = only_one (serve_lent store table cluster.0 unicast request (length reply)) r q x y (lent s bs) (lent u cs) e f in
    (w.0, (w.1.0, (ap (λ (z : Lent). z.store) w.1.1, ap (λ (z : Lent). z.table) w.1.1)))

pub handle_request_once : HandleRequestOnce
handle_request_once store table cluster unicast request reply r q x y s u e f = one_served (serve 8 capacity store (quieted_t (table_of table)) cluster.0 unicast request (length reply)) r q x y s u e f

-- src/unsupported_cluster.rt

pub unsupported_cluster_once : UnsupportedClusterOnce
unsupported_cluster_once served cluster unicast request reply r q x y e f = only_answer (unsupported_cluster served cluster.0 unicast request (length reply)) r q x y e f
