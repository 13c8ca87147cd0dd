-- A request's checks, one by one; and the same request over bytes that carry its table, and over a table by value. Assumes nothing.
use Rattle.std.proofs.Common.{rules}
use Rattle.std.specs.Prelude.{None, Option, Result, Some, IsSome}
use mathlib.Core.Path.{◌≡◌, refl, sym, ap, ◌∙◌}
use mathlib.Core.Bool.{Bool, true, false, cond, false≢true}
use mathlib.Core.List.{List, map}
use Prim.Native.Nat.{ℕ, ◌≤◌}
use lib.ListN.{length, take}
use lib.Dec.{leb}
use borrow.Author.Tests.{eq-eqb, ne_eqb, lt-ltb, leb-true, leb-false}
use Rattle.types.specs.Number.{AllBytes}
use Rattle.frame.specs.declared.header.ZclHeader.{ZclHeader}
use Rattle.frame.specs.declared.answer.Refusal.{Refusal}
use Rattle.frame.specs.declared.answer.Refusal.TheVariants.{OtherCluster, NotAStore, NotATable}
use Rattle.frame.specs.Header.{header_of}
use Rattle.frame.specs.Answer.{within, no_state, seen, refused}
use Rattle.frame.proofs.Outcome.{refused_with}
use Rattle.store.specs.Contents.{cluster_of}
use Rattle.store.specs.Layout.{is_store}
use Rattle.reporting.specs.declared.entry.Entry.{Entry}
use Rattle.reporting.specs.declared.table.ReportingTable.{ReportingTable}
use Rattle.reporting.specs.declared.table.ReportingTable.{ReportingTable}
use Rattle.reporting.specs.Table.{capacity, Table, bad, live, table_of, holding}
use Rattle.reporting.specs.Carried.{quieted, is_table, table_in, table_bytes, Reading, reading, read_t, Written, written, write_t, table_length}
use Rattle.reporting.specs.Carried as Carried
use Rattle.reporting.specs.Lent.{quieted_t}
use Rattle.reporting.proofs.CarriageTable.{bytes_back, read_own, read_is}
use Rattle.reporting.proofs.Slots.{is-table}
use Rattle.server.specs.Serve.{state, by_header, tabled, serve}
use Rattle.server.specs.Lent.{Lent, lent, carried, serve_lent}
use Rattle.server.specs.Inside.{OverBytes}

-- ---- the checks, one by one

module _ (s : List ℕ) (l : List Entry) (cluster : ℕ) (unicast : Bool) (frame : List ℕ) (n : ℕ) where
  pub serve_no_store : is_store 8 s ≡ false → refused n NotAStore (state s (holding l)) ≡ serve 8 capacity s (holding l) cluster unicast frame n
  unfolding serve
  serve_no_store e = rw e

  module _ (store : is_store 8 s ≡ true) (own : ℕ) (is : own ≡ cluster_of s) where
    pub serve_other : (own ≡ cluster → ⊥) → refused n OtherCluster (state s (holding l)) ≡ serve 8 capacity s (holding l) cluster unicast frame n
    unfolding serve tabled
    serve_other q = rw (store, ne_eqb cluster (cluster_of s) (λ p. q (is ∙ sym p)))

    pub serve_read : own ≡ cluster → (r : Option ZclHeader) → r ≡ header_of frame → by_header 8 capacity s (holding l) unicast frame n r ≡ serve 8 capacity s (holding l) cluster unicast frame n
    unfolding serve tabled
    serve_read q r e = ap (by_header 8 capacity s (holding l) unicast frame n) e ∙ rw (store, eq-eqb cluster (cluster_of s) (sym q ∙ is))

-- ---- over bytes of which it is known whether they are a table

module _ (s bs : List ℕ) (cluster : ℕ) (unicast : Bool) (frame : List ℕ) (n : ℕ) (known : Bool) (a : Result ℕ Refusal) (d : List ℕ) where
  pub over_no_store : is_store 8 s ≡ false → (known ≡ true → is_table capacity bs ≡ true) → seen a d no_state ≡ refused n NotAStore no_state
      → OverBytes known s bs cluster unicast frame n a d s bs
  over_no_store h is e =
      record {
        stays = is;
        served = λ k. refused_with a d n NotAStore (state s (holding (table_in bs))) e ∙ serve_no_store s (table_in bs) cluster unicast frame n h;
        fails = λ k. refused_with a d n NotAStore (lent s bs) e ∙ ap (λ (b : Bool). refused n (cond b NotATable NotAStore) (lent s bs)) (sym h);
      }

  pub over_no_table : is_store 8 s ≡ true → known ≡ false → seen a d no_state ≡ refused n NotATable no_state → OverBytes known s bs cluster unicast frame n a d s bs
  over_no_table h none e =
      record {
        stays = λ k. absurd (false≢true (sym none ∙ k));
        served = λ k. absurd (false≢true (sym none ∙ k));
        fails = λ k. refused_with a d n NotATable (lent s bs) e ∙ ap (λ (b : Bool). refused n (cond b NotATable NotAStore) (lent s bs)) (sym h);
      }

  pub over_table : known ≡ true → (s' bs' : List ℕ) → is_table capacity bs' ≡ true
      → seen a d (state s' (holding (table_in bs'))) ≡ serve 8 capacity s (holding (table_in bs)) cluster unicast frame n → OverBytes known s bs cluster unicast frame n a d s' bs'
  over_table one s' bs' is e = record { stays = λ k. is; served = λ k. e; fails = λ k. absurd (false≢true (sym k ∙ one)) }

-- ---- over bytes

module _ (s bs : List ℕ) (cluster : ℕ) (unicast : Bool) (frame : List ℕ) (n : ℕ) (a : Result ℕ Refusal) (d : List ℕ) where
  -- that are no table
  lent_refused : is_table capacity bs ≡ false → refused n (cond (is_store 8 s) NotATable NotAStore) (lent s bs) ≡ serve_lent s bs cluster unicast frame n
  unfolding serve_lent
  lent_refused is = rw is

  -- that are one: they are one still, and these are its bytes
  lent_served : is_table capacity bs ≡ true → (s' bs' : List ℕ) → AllBytes bs' → is_table capacity bs' ≡ true
      → seen a d (state s' (holding (table_in bs'))) ≡ serve 8 capacity s (holding (table_in bs)) cluster unicast frame n → seen a d (lent s' bs') ≡ serve_lent s bs cluster unicast frame n
  unfolding serve_lent
  lent_served is s' bs' b is' e =
      ap (λ (x : List ℕ). seen a d (lent s' x)) (sym (bytes_back capacity bs' b is')) ∙ ap (within (carried bs)) e ∙ rw is

  pub lent_over : (known : Bool) → known ≡ is_table capacity bs → (s' bs' : List ℕ) → AllBytes bs' → OverBytes known s bs cluster unicast frame n a d s' bs'
      → seen a d (lent s' bs') ≡ serve_lent s bs cluster unicast frame n
  lent_over true is s' bs' b o = lent_served (sym is) s' bs' b (o.stays refl) (o.served refl)
  lent_over false is s' bs' b o = o.fails refl ∙ lent_refused (sym is)

-- ---- over a value

-- bytes that are a table are read as one
pub read_is_some : (bs : List ℕ) (r : Option ReportingTable) → is_table capacity bs ≡ true → reading r ≡ read_t capacity bs → IsSome r
read_is_some bs (Some t) h e = search rules
read_is_some bs None h e = absurd (false≢true (ap (λ (x : Reading). x.known) (e ∙ read_own capacity bs h)))

-- what `write_table` says to bytes of its size
module _ (t : ReportingTable) (bs : List ℕ) (size : length bs ≡ table_length) (w : Bool) (bs' : List ℕ) (e : written w bs' ≡ write_t capacity t bs) where
  by_count : written w bs' ≡ cond (leb t.count capacity) (written true (table_bytes capacity (take t.count t.entries))) (written false bs)
  unfolding write_t
  by_count = e ∙ rw (eq-eqb (length bs) table_length size)

  is_written : w ≡ leb t.count capacity
  is_written = go (leb t.count capacity) (ap (λ (x : Written). x.done) by_count)
    where
      go : (b : Bool) → w ≡ (cond b (written true (table_bytes capacity (take t.count t.entries))) (written false bs)).done → w ≡ b
      go true p = p
      go false p = p

  -- a count above the limit
  pub not_written : w ≡ false → table_of t ≡ bad t
  not_written q = rw (lt-ltb capacity t.count (leb-false t.count capacity (sym is_written ∙ q)))

  pub was_written : w ≡ true → t.count ≤ capacity
  was_written q = leb-true t.count capacity (sym is_written ∙ q)

module _ (s : List ℕ) (t : ReportingTable) (cluster : ℕ) (unicast : Bool) (frame : List ℕ) (n : ℕ) (a : Result ℕ Refusal) (d : List ℕ) where
  refused_bad : (u : ReportingTable) → refused n (cond (is_store 8 s) NotATable NotAStore) (state s (bad u)) ≡ serve 8 capacity s (bad u) cluster unicast frame n
  unfolding serve tabled
  refused_bad u = go (is_store 8 s)
    where
      go : (b : Bool) → refused n (cond b NotATable NotAStore) (state s (bad u)) ≡ cond b (refused n NotATable (state s (bad u))) (refused n NotAStore (state s (bad u)))
      go true = refl
      go false = refl

  -- that is no table
  pub value_refused : table_of t ≡ bad t → (bs s' bs' : List ℕ) → seen a d (lent s' bs') ≡ refused n (cond (is_store 8 s) NotATable NotAStore) (lent s bs)
      → seen a d (state s' (table_of t)) ≡ serve 8 capacity s (quieted_t (table_of t)) cluster unicast frame n
  value_refused h bs s' bs' e =
      ap (within (λ (x : Lent). state x.store (table_of t))) e
      ∙ ap (λ (x : Table). refused n (cond (is_store 8 s) NotATable NotAStore) (state s x)) h
      ∙ refused_bad t
      ∙ sym (ap (λ (x : Table). serve 8 capacity s (quieted_t x) cluster unicast frame n) h)

  -- that is one: as its bytes, and the table read from them afterwards
  pub value_served : t.count ≤ capacity → (bs : List ℕ) → read_t capacity bs ≡ Carried.table_read true (map quieted (live t))
      → (s' bs' : List ℕ) → is_table capacity bs' ≡ true → seen a d (state s' (holding (table_in bs'))) ≡ serve 8 capacity s (holding (table_in bs)) cluster unicast frame n
      → (u : ReportingTable) → reading (Some u) ≡ read_t capacity bs' → seen a d (state s' (table_of u)) ≡ serve 8 capacity s (quieted_t (table_of t)) cluster unicast frame n
  value_served small bs c s' bs' is' e u g =
      ap (λ (x : Reading). seen a d (state s' x.table)) (g ∙ read_own capacity bs' is')
      ∙ e
      ∙ ap (λ (l : List Entry). serve 8 capacity s (holding l) cluster unicast frame n) (read_is capacity bs (map quieted (live t)) c).1
      ∙ sym (ap (λ (x : Table). serve 8 capacity s (quieted_t x) cluster unicast frame n) (is-table t small))
