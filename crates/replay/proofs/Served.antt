-- Laws of requests with a table by value (`specs/Requests.antt`). Assumes nothing.
use Rattle.std.specs.Prelude.{None, Option, Result, Some}
use mathlib.Core.Path.{◌≡◌, sym, ap, ◌∙◌}
use mathlib.Core.Bool.{Bool, true, false, cond}
use mathlib.Core.List.{List, [], ◌++◌, append-nil}
use Prim.Native.Nat.{ℕ, ◌+◌, ◌-◌, ◌*◌, ◌≤◌, ◌<◌}
use native.Mathlib.Omega.{arith}
use lib.ListN.{length, get_or, take, drop, length-replicate}
use lib.Seq.{sets}
use lib.Dec.{eqb}
use borrow.Author.Tests.{le-leb, lt-leb}
use Rattle.std.specs.Option.{option_eq}
use Rattle.types.specs.Number.{unsigned_at, zeros}
use Rattle.frame.specs.Answer.{Outcome, seen}
use Rattle.frame.specs.Reply.{padded}
use Rattle.frame.specs.Inside.Buffer.{putting, put}
use Rattle.frame.specs.declared.answer.Refusal.{Refusal}
use Rattle.frame.proofs.Buffer.{put_fits, sets_padded}
use Rattle.store.specs.Contents.{cluster_of}
use Rattle.reporting.specs.declared.table.ReportingTable.{ReportingTable}
use Rattle.reporting.specs.Table.{Table, table_of, holding, capacity}
use Rattle.reporting.specs.Carried.{table_in, is_table, Reading, reading, table_read, read_t, slot_bytes, table_length}
use Rattle.reporting.specs.Lent.{quieted_t}
use Rattle.reporting.proofs.CarriageTable.{table_quiet}
use Rattle.server.specs.Serve.{State, state, serve}
use Rattle.replay.specs.Ours.{agreement}
use Rattle.replay.specs.Commands.{answer_says}
use Rattle.replay.specs.Methods.{table_says}
use Rattle.replay.specs.Requests.{whole_table, table_left, request_says, of_request}
use Rattle.replay.specs.Inside.{matched}
use Rattle.replay.proofs.Matches.{same_ends}

-- ---- the table's bytes

-- what is longer than a table stays as it is
pub whole_long : (used : List ℕ) → table_length < length used → used ≡ whole_table used
unfolding padded
whole_long used h =
    let z : table_length - length used ≡ 0 = omega arith in
    sym (ap (λ (n : ℕ). used ++ zeros n) z ∙ append-nil used)

pub whole_short : (used d : List ℕ) (r : Option ℕ) (after : List ℕ) → length used ≤ table_length → d ≡ zeros table_length → putting r after ≡ put d 0 used → after ≡ whole_table used
unfolding padded
whole_short used d r after h e p =
    let l : 0 + length used ≤ length (zeros table_length) = omega (arith, length-replicate {0} {A = ℕ} table_length 0) in
    let q : putting r after ≡ putting (Some (0 + length used)) (sets (zeros table_length) 0 used) = p ∙ ap (λ (x : List ℕ). put x 0 used) e ∙ put_fits (zeros table_length) 0 used l in
    ap (λ x. x.buffer) q ∙ sets_padded table_length [] used (omega arith)

-- ---- the table that they are

module _ (r : Option ReportingTable) (bs : List ℕ) (e : reading r ≡ read_t capacity bs) where
  by_test : reading r ≡ cond (is_table capacity bs) (table_read true (table_in bs)) (table_read false [])
  unfolding read_t
  by_test = e

  table_known : is_table capacity bs ≡ (reading r).known
  table_known = go (is_table capacity bs) by_test
    where
      go : (b : Bool) → reading r ≡ cond b (table_read true (table_in bs)) (table_read false []) → b ≡ (reading r).known
      go true q = sym (ap (λ (x : Reading). x.known) q)
      go false q = sym (ap (λ (x : Reading). x.known) q)

  pub table_none : r ≡ None → is_table capacity bs ≡ false
  table_none h = table_known ∙ ap (λ (x : Option ReportingTable). (reading x).known) h

  module _ (t : ReportingTable) (h : r ≡ Some t) where
    pub table_some : is_table capacity bs ≡ true
    table_some = table_known ∙ ap (λ (x : Option ReportingTable). (reading x).known) h

    -- it has the entries of the bytes
    pub table_met : quieted_t (table_of t) ≡ holding (table_in bs)
    table_met =
        let q : reading r ≡ table_read true (table_in bs) = by_test ∙ ap (λ (b : Bool). cond b (table_read true (table_in bs)) (table_read false [])) table_some in
        ap (λ (x : Option ReportingTable). quieted_t (reading x).table) (sym h) ∙ ap (λ (x : Reading). quieted_t x.table) q ∙ ap holding (table_quiet capacity bs table_some)

-- ---- what is said and left

module _ (used s frame : List ℕ) (room : ℕ) (r : Option ReportingTable) (e : reading r ≡ read_t capacity (whole_table used)) (held : List ℕ) where
  pub request_none : r ≡ None → None ≡ agreement (cond (is_table capacity (whole_table used)) (Some (request_says used s frame room)) None) held
  request_none h = ap (λ (b : Bool). agreement (cond b (Some (request_says used s frame room)) None) held) (sym (table_none r (whole_table used) e h))

  -- `copy` is the store, and `cluster` the store's own
  module _ (t : ReportingTable) (h : r ≡ Some t) (answer : Result ℕ Refusal) (reply copy after left : List ℕ) (u : Table) (cluster : ℕ) (ec : copy ≡ s) (el : cluster ≡ cluster_of copy)
      (p : seen answer reply (state after u) ≡ serve 8 capacity copy (quieted_t (table_of t)) cluster true frame room) (q : left ≡ table_says u) where
    request_is : answer_says used (seen answer reply left) ≡ request_says used s frame room
    unfolding request_says
    request_is =
        ap (λ (l : List ℕ). answer_says used (seen answer reply l)) q
        ∙ ap (λ (o : Outcome State). answer_says used (table_left o)) (p ∙ (λ i. serve 8 capacity (ec i) (table_met r (whole_table used) e t h i) ((el ∙ ap cluster_of ec) i) true frame room))

    -- it was recorded where its bytes are found and nothing stands behind them
    pub request_found : (b : Bool) → b ≡ option_eq eqb (matched held 0 (answer_says used (seen answer reply left))) (Some (length held)) → Some b ≡ agreement (cond (is_table capacity (whole_table used)) (Some (request_says used s frame room)) None) held
    request_found b k =
        ap Some (k ∙ ap (λ (l : List ℕ). option_eq eqb (matched held 0 l) (Some (length held))) request_is ∙ same_ends (request_says used s frame room) held)
        ∙ ap (λ (x : Bool). agreement (cond x (Some (request_says used s frame room)) None) held) (sym (table_some r (whole_table used) e t h))

-- ---- the input

module _ (input held : List ℕ) (room c k : ℕ) (er : room ≡ get_or input 0 0) (en : c ≡ get_or input 1 0) (ek : k ≡ unsigned_at input (1 + (1 + slot_bytes * c)) 2) where
  the_size : k ≡ unsigned_at input (1 + (1 + slot_bytes * get_or input 1 0)) 2
  the_size = ek ∙ ap (λ (x : ℕ). unsigned_at input (1 + (1 + slot_bytes * x)) 2) en

  pub request_short : length input < 3 + (1 + slot_bytes * c) + k → None ≡ agreement (of_request input) held
  unfolding of_request
  request_short h =
      let l : length input < 3 + (1 + slot_bytes * get_or input 1 0) + unsigned_at input (1 + (1 + slot_bytes * get_or input 1 0)) 2 = omega (arith, the_size) in
      rw (lt-leb (3 + (1 + slot_bytes * get_or input 1 0) + unsigned_at input (1 + (1 + slot_bytes * get_or input 1 0)) 2) (length input) l)

  pub request_whole : 3 + (1 + slot_bytes * c) + k ≤ length input → (used s frame : List ℕ) → used ≡ take (1 + slot_bytes * c) (drop 1 input) → s ≡ take k (drop (3 + (1 + slot_bytes * c)) input) → frame ≡ drop (3 + (1 + slot_bytes * c) + k) input
      → agreement (cond (is_table capacity (whole_table used)) (Some (request_says used s frame room)) None) held ≡ agreement (of_request input) held
  unfolding of_request
  request_whole h used s frame eu es ef =
      let l : 3 + (1 + slot_bytes * get_or input 1 0) + unsigned_at input (1 + (1 + slot_bytes * get_or input 1 0)) 2 ≤ length input = omega (arith, the_size) in
      let pu : used ≡ take (1 + slot_bytes * get_or input 1 0) (drop 1 input) = eu ∙ ap (λ (x : ℕ). take (1 + slot_bytes * x) (drop 1 input)) en in
      let ps : s ≡ take (unsigned_at input (1 + (1 + slot_bytes * get_or input 1 0)) 2) (drop (3 + (1 + slot_bytes * get_or input 1 0)) input) = es ∙ (λ i. take (the_size i) (drop (3 + (1 + slot_bytes * en i)) input)) in
      let pf : frame ≡ drop (3 + (1 + slot_bytes * get_or input 1 0) + unsigned_at input (1 + (1 + slot_bytes * get_or input 1 0)) 2) input = ef ∙ (λ i. drop (3 + (1 + slot_bytes * en i) + the_size i) input) in
      rw (le-leb (3 + (1 + slot_bytes * get_or input 1 0) + unsigned_at input (1 + (1 + slot_bytes * get_or input 1 0)) 2) (length input) l)
      (λ i. agreement (cond (is_table capacity (whole_table (pu i))) (Some (request_says (pu i) (ps i) (pf i) (er i))) None) held)
