-- What the functions towards C left, by their contracts, is what the uses of the table that were made leave and tell: the bytes are always those of the
-- table. So demand 3 holds of it. Assumes nothing.
use Rattle.std.specs.Prelude.{Err, Ok}
use mathlib.Core.Path.{◌≡◌, refl, sym, ap, ◌∙◌, subst}
use mathlib.Core.Bool.{Bool, true, false, cond}
use mathlib.Core.List.{List, [], ◌∷◌, ◌++◌, map}
use Prim.Native.Nat.{ℕ}
use native.Mathlib.Omega.{arith}
use lib.ListN.{length}
use lib.Dec.{ltb, eqb}
use borrow.Author.Tests.{eq-eqb}
use Rattle.types.specs.Number.{AllBytes}
use Rattle.frame.specs.declared.answer.Refusal.TheVariants.{NotAStore, NotATable, NotASavedForm}
use Rattle.frame.specs.Answer.{Outcome, within, refusal_number, refused}
use Rattle.store.specs.Layout.{is_store}
use Rattle.reporting.specs.declared.entry.Entry.{Entry}
use Rattle.reporting.specs.Entries.{accepts_l}
use Rattle.reporting.specs.Table.{capacity, holding, ReportTold}
use Rattle.reporting.specs.Carried.{size_ok, is_table, table_in, table_bytes, Written}
use Rattle.reporting.specs.Lent.{on_lent, ask_lent, mark_lent, clear_lent, ChangeLeft, left_as, configure_lent, bytes_after, table_number}
use Rattle.reporting.specs.Claims.RoundTrip.{AllClean}
use Rattle.reporting.specs.Claims.Events.{Event, configured, cleared, asked, marked, clearings, settings}
use Rattle.reporting.specs.Claims.Events as Event
use Rattle.reporting.specs.Demand3.{Supposed, Promised, asks_of}
use Rattle.reporting.proofs.CarriageTable.{length_table, table-bytes, table_is, table_back}
use Rattle.reporting.proofs.Kept.{Kept}
use Rattle.reporting.proofs.Lending.{fresh_clean}
use Rattle.report.specs.Turn.{After}
use Rattle.report.specs.Claims.Turns.{frame_of, turned}
use Rattle.report.specs.Claims.History.{marking}
use Rattle.report.proofs.Moves.{turn_leaves}
use Rattle.saved.specs.Saved.{saved_in, is_saved, form_in}
use Rattle.saved.specs.Lent.{restore_lent}
use Rattle.saved.specs.Claims.Demand3.{taken}
use Rattle.saved.proofs.Demand3.{read_is_call}
use Rattle.saved.proofs.Widths.{own_clean}
use Rattle.server.specs.Serve.{serve}
use Rattle.server.specs.Claims.History.{requested, request_events, Use, direct, used, use_events, uses, uses_events}
use Rattle.server.specs.Claims.History as History
use Rattle.server.proofs.Fitting.{AllFit, fit_append, fit_either, request_fits, marking_fits}
use Rattle.server.proofs.Frames.{demand_3_of_frames, demand_3_of_frames_restored}
use Rattle.server.proofs.Histories.{use_is, request_holds}
use Rattle.hingedrift.proofs.Bridge.{configure_by}
use Rattle.hingedrift.specs.Tables.{bit, Left, left, no_result, new_left}
use Rattle.server.specs.Lent.{Lent, lent, carried, serve_lent}
use Rattle.hingedrift.specs.Serving.{is_unicast, handle_left}
use Rattle.hingedrift.specs.Saving.{restore_left}
use Rattle.hingedrift.specs.Claims.Log.{Handled, Made, configure, clear, mark, ask, configuration, handle, save, restore, turn, turn_as, key_at, config_as, Contract, Typed, next, last, Log, request_of, events_of, all_events_of, Begin, made, read, Begins, Demand3OfBytes, Demand3OfRestored}
use Rattle.hingedrift.proofs.Kept.{run_keeps}

-- ---- bytes that are those of a table with these entries

pub record Held (bs : List ℕ) (l : List Entry) : Type 0 where
  pub bytes : bs ≡ table_bytes capacity l
  pub kept : Kept capacity l

module _ (bs : List ℕ) (l : List Entry) (h : Held bs l) where
  pub is_one : is_table capacity bs ≡ true
  is_one = ap (is_table capacity) h.bytes ∙ table_is capacity l h.kept.small h.kept.clean

  pub are_back : table_in bs ≡ l
  are_back = ap table_in h.bytes ∙ table_back capacity l h.kept.small h.kept.clean

  on-lent : {R : Type 0} (refusal : R) (rest : List Entry → R) → on_lent bs refusal rest ≡ rest l
  unfolding on_lent
  on-lent refusal rest = ap (λ (b : Bool). cond b (rest (table_in bs)) refusal) is_one ∙ ap rest are_back

  on_request : (q : Handled)
      → handle_left q.store bs q.cluster q.unicast q.frame q.size
      ≡ within (carried bs) (serve 8 capacity q.store (holding l) q.cluster (is_unicast q.unicast) q.frame q.size)
  unfolding serve_lent
  on_request q =
      ap
      (λ (b : Bool).
      cond b (within (carried bs) (serve 8 capacity q.store (holding (table_in bs)) q.cluster (is_unicast q.unicast) q.frame q.size))
      (refused q.size (cond (is_store 8 q.store) NotATable NotAStore) (lent q.store bs)))
      is_one
      ∙ ap (λ (m : List Entry). within (carried bs) (serve 8 capacity q.store (holding m) q.cluster (is_unicast q.unicast) q.frame q.size)) are_back

  -- and bytes
  pub are_bytes : AllBytes bs
  are_bytes = subst AllBytes (sym h.bytes) (table-bytes capacity l h.kept.small (omega arith))

  -- they are as long as a table's
  are_sized : size_ok capacity bs ≡ true
  are_sized = eq-eqb _ _ (ap length h.bytes ∙ length_table capacity l h.kept.small)

bit_back : (b : Bool) → eqb (bit b) 1 ≡ b
bit_back true = refl
bit_back false = refl

-- ---- what hd_restore says and leaves

-- of bytes that are a saved form, or not, over bytes as long as a table's
record ReadIn (form : List ℕ) (is : Bool) (number : ℕ) (table : List ℕ) : Type 0 where
  saved : is ≡ eqb number 0
  bytes : table ≡ table_bytes capacity (cond is (saved_in (form_in form) form) [])

module _ (was form : List ℕ) (number : ℕ) (table : List ℕ) (p : left number table no_result ≡ restore_left was form) where
  -- by the two tests of the definition
  abbrev Said : Bool → Bool → ChangeLeft
  Said size is =
      cond size
      (cond is (left_as (Ok true) (table_bytes capacity (saved_in (form_in form) form))) (left_as (Err NotASavedForm) (table_bytes capacity [])))
      (left_as (Err NotATable) was)

  abbrev IsSaid : Bool → Bool → Type 0
  IsSaid size is = left number table no_result ≡ left (Said size is).told.number (Said size is).bytes no_result

  is_said : IsSaid (size_ok capacity was) (is_saved (form_in form) capacity form)
  unfolding restore_lent
  is_said = p

  read-in : size_ok capacity was ≡ true → ReadIn form (is_saved (form_in form) capacity form) number table
  read-in size = go (is_saved (form_in form) capacity form) (subst (λ (b : Bool). IsSaid b (is_saved (form_in form) capacity form)) size is_said)
    where
      go : (is : Bool) → IsSaid true is → ReadIn form is number table
      go true q = record { saved = ap (λ (x : Left (Unit {0})). eqb x.number 0) (sym q); bytes = ap (λ (x : Left (Unit {0})). x.table) q }
      go false q = record { saved = ap (λ (x : Left (Unit {0})). eqb x.number 0) (sym q); bytes = ap (λ (x : Left (Unit {0})). x.table) q }

  -- with a number other than 8 the bytes were as long
  read_sized : (number ≡ 8 → ⊥) → size_ok capacity was ≡ true
  read_sized h = go (size_ok capacity was) is_said
    where
      go : (size : Bool) → IsSaid size (is_saved (form_in form) capacity form) → size ≡ true
      go true q = refl
      go false q = absurd (h (ap (λ (x : Left (Unit {0})). x.number) q))

-- ---- a call is a use

unfoldable pub use_of : Made → Use
use_of (configure a g number accepted table) = direct (cond (ltb 1 g.mark) Event.len (Event.configure (key_at a) (config_as g)))
use_of (clear a number table) = direct (Event.clear (key_at a))
use_of (mark a x number table) = direct (Event.mark (key_at a) x.now x.value)
use_of (ask a x number due) = direct (Event.ask (key_at a) x.now x.value)
use_of (configuration a number found) = direct (Event.configuration (key_at a))
use_of (handle h) = History.request (request_of h)
use_of (save size number used buffer) = direct Event.len
use_of (restore form number table) = direct (Event.restore (taken capacity form))
use_of (turn t) = History.turn (turn_as t)

-- what a read clears and configures fits the bytes
clearings_fit : (l : List Entry) → AllFit (clearings l)
clearings_fit [] = tt
clearings_fit (e ∷ l) = fit_append (clearings l) (cleared e.key ∷ []) (clearings_fit l) (tt, tt)

settings_fit : (l : List Entry) → AllClean l → AllFit (settings l)
settings_fit [] h = tt
settings_fit (e ∷ l) h = (fresh_clean e.key e.config h.0.cluster h.0.attribute h.0.minimum h.0.maximum h.0.change, settings_fit l h.1)

-- what a read takes from bytes is within the widths
taken_clean : (form : List ℕ) → AllBytes form → AllClean (taken capacity form)
taken_clean form h = go (is_saved (form_in form) capacity form)
  where
    go : (b : Bool) → AllClean (cond b (saved_in (form_in form) form) [])
    go true = own_clean form h
    go false = tt

read_fits : (form : List ℕ) (l : List Entry) → AllBytes form → AllFit (use_events capacity (direct (Event.restore (taken capacity form))) l)
read_fits form l h =
    subst (λ (m : List Entry). AllFit (clearings l ++ settings m)) (sym (read_is_call capacity form l))
    (fit_append (clearings l) (settings (taken capacity form)) (clearings_fit l) (settings_fit (taken capacity form) (taken_clean form h)))

-- what it puts into the table fits the bytes
use_fits : (c : Made) (l : List Entry) → Typed c → AllFit (use_events capacity (use_of c) l)
unfolding use_of
use_fits (configure a g number accepted table) l d = go (ltb 1 g.mark)
  where
    go : (b : Bool) → AllFit (use_events capacity (direct (cond b Event.len (Event.configure (key_at a) (config_as g)))) l)
    go true = tt
    go false = fit_either (accepts_l capacity (key_at a) l) (configured (key_at a) (config_as g) ∷ []) (fresh_clean (key_at a) (config_as g) d.0 d.1 d.2 d.3 d.4, tt)
use_fits (clear a number table) l d = (tt, tt)
use_fits (mark a x number table) l d = (d, tt)
use_fits (ask a x number due) l d = (tt, tt)
use_fits (configuration a number found) l d = tt
use_fits (handle h) l d = request_fits capacity (request_of h) l d.0 d.1
use_fits (save size number used buffer) l d = tt
use_fits (restore form number table) l d = read_fits form l d
use_fits (turn t) l d = marking_fits t.store t.now (frame_of 8 (turn_as t) l) d.0 d.1

used_keeps : (u : Use) (l : List Entry) → AllFit (use_events capacity u l) → Kept capacity l → Kept capacity (used capacity u l)
used_keeps u l f h = subst (Kept capacity) (use_is capacity u l).table (run_keeps capacity (use_events capacity u l) l f h)

pub record Is (u : Use) (l : List Entry) (es : List Event) (bs : List ℕ) : Type 0 where
  pub events : es ≡ use_events capacity u l
  pub table : bs ≡ table_bytes capacity (used capacity u l)

pub call_is : (c : Made) (bs : List ℕ) (l : List Entry) → Held bs l → Contract c bs → Is (use_of c) l (events_of c bs) (next c bs)
unfolding use_of configure_lent clear_lent mark_lent ask_lent requested
call_is (configure a g number accepted table) bs l h p = go (ltb 1 g.mark) (p ∙ ap (λ (t : Bool). configure_by bs t (ltb 1 g.mark) (configure_lent (key_at a) (config_as g) bs)) (is_one bs l h))
  where
    -- by whether the bytes are a table, and the mark: with any above 1 nothing is changed
    go : (b : Bool) → left number table accepted ≡ configure_by bs true b (configure_lent (key_at a) (config_as g) bs)
        → Is (direct (cond b Event.len (Event.configure (key_at a) (config_as g)))) l (cond (eqb accepted 1) (configured (key_at a) (config_as g) ∷ []) []) table
    go true p =
        record { events = ap (λ (x : Left ℕ). cond (eqb x.result 1) (configured (key_at a) (config_as g) ∷ []) []) p; table = ap (λ (x : Left ℕ). x.table) p ∙ h.bytes }
    go false p =
        let o = p ∙ ap (λ (x : ChangeLeft). left x.told.number x.bytes (bit x.told.accepted)) (on-lent bs l h _ _) in
        record {
          events =
              ap (λ (x : Left ℕ). cond (eqb x.result 1) (configured (key_at a) (config_as g) ∷ []) []) o
              ∙ ap (λ (b : Bool). cond b (configured (key_at a) (config_as g) ∷ []) []) (bit_back _);
          table = ap (λ (x : Left ℕ). x.table) o;
        }
call_is (clear a number table) bs l h p =
    let o = p ∙ ap (λ (x : Written). left (table_number x.done) x.bytes no_result) (on-lent bs l h _ _) in
    record {
      events = ap (λ (x : Left (Unit {0})). cond (eqb x.number 0) (cleared (key_at a) ∷ []) []) o;
      table = ap (λ (x : Left (Unit {0})). x.table) o;
    }
call_is (mark a x number table) bs l h p =
    let o = p ∙ ap (λ (y : Written). left (table_number y.done) y.bytes no_result) (on-lent bs l h _ _) in
    record {
      events = ap (λ (y : Left (Unit {0})). cond (eqb y.number 0) (marked (key_at a) x.now x.value ∷ []) []) o;
      table = ap (λ (y : Left (Unit {0})). y.table) o;
    }
call_is (ask a x number due) bs l h p =
    let o = p ∙ ap (λ (y : ReportTold). left y.number bs (bit y.due)) (on-lent bs l h _ _) in
    record {
      events =
          ap (λ (y : Left ℕ). cond (eqb y.number 0) (asked (key_at a) x.now x.value (eqb y.result 1) ∷ []) []) o
          ∙ ap (λ (b : Bool). asked (key_at a) x.now x.value b ∷ []) (bit_back _);
      table = h.bytes;
    }
call_is (configuration a number found) bs l h p = record { events = refl; table = h.bytes }
call_is (handle q) bs l h p =
    record {
      events = ap (request_events capacity (request_of q)) (are_back bs l h);
      table =
          ap (λ (x : Outcome Lent). x.state.table) (p ∙ on_request bs l h q)
          ∙ ap (bytes_after bs) (request_holds capacity (request_of q) l);
    }
call_is (save size number used buffer) bs l h p = record { events = refl; table = h.bytes }
call_is (restore form number table) bs l h p =
    let r = read-in bs form number table p (are_sized bs l h) in
    let back : taken capacity form ≡ Event.read_in capacity (taken capacity form) = sym (read_is_call capacity form l) in
    record {
      events = λ i. clearings (are_back bs l h i) ++ settings ((ap (λ (b : Bool). cond b (saved_in (form_in form) form) []) (sym r.saved) ∙ back) i);
      table = r.bytes ∙ ap (table_bytes capacity) back;
    }
call_is (turn t) bs l h p =
    record {
      events = ap (λ (m : List Entry). marking t.store t.now (frame_of 8 (turn_as t) m)) (are_back bs l h);
      table =
          ap (λ (x : Outcome After). x.state.table) p
          ∙ ap (λ (x : After). x.table) (turn_leaves 8 (turn_as t) bs (are_bytes bs l h) (is_one bs l h))
          ∙ ap (λ (m : List Entry). table_bytes capacity (turned 8 (turn_as t) m)) (are_back bs l h);
    }

pub call_held : (c : Made) (bs : List ℕ) (l : List Entry) → Held bs l → Typed c → Contract c bs → Held (next c bs) (used capacity (use_of c) l)
call_held c bs l h d p = record { bytes = (call_is c bs l h p).table; kept = used_keeps (use_of c) l (use_fits c l d) h.kept }

-- ---- and so a log is uses

record AllIs (us : List Use) (l : List Entry) (es : List Event) (bs : List ℕ) : Type 0 where
  events : es ≡ uses_events capacity us l
  held : Held bs (uses capacity us l)

log_is : (log : List Made) (bs : List ℕ) (l : List Entry) → Held bs l → Log bs log → AllIs (map use_of log) l (all_events_of log bs) (last log bs)
log_is [] bs l h p = record { events = refl; held = h }
log_is (c ∷ log) bs l h p =
    let one = call_is c bs l h p.1 in
    let more = log_is log (next c bs) (used capacity (use_of c) l) (call_held c bs l h p.0 p.1) p.2 in
    record { events = λ i. one.events i ++ more.events i; held = more.held }

-- a log cut in two
pub log_cut : (before after : List Made) (bs : List ℕ) → Log bs (before ++ after) → Log bs before × Log (last before bs) after
log_cut [] after bs p = (tt, p)
log_cut (c ∷ before) after bs p = let w = log_cut before after (next c bs) p.2 in ((p.0, p.1, w.0), w.1)

-- ---- how a log begins

empty_kept : Kept capacity []
empty_kept = record { small = omega arith; clean = tt }

-- the bytes that hd_table_new left, where it gave 0
new_held : (was bs : List ℕ) → Begins made was bs → Held bs []
unfolding new_left
new_held was bs p = record { bytes = go (size_ok capacity was) p; kept = empty_kept }
  where
    go : (b : Bool) → left 0 bs no_result ≡ cond b (left 0 (table_bytes capacity []) no_result) (left (refusal_number NotATable) was no_result) → bs ≡ table_bytes capacity []
    go true q = ap (λ (x : Left (Unit {0})). x.table) q
    go false q = let z : ◌≡◌ {A = ℕ} 0 8 = ap (λ (x : Left (Unit {0})). x.number) q in absurd (omega (arith, z))

-- those that hd_restore left, where it gave 0 or 13
begun_read : (form : List ℕ) (number : ℕ) (was bs : List ℕ) → Begins (read form number) was bs → ReadIn form (is_saved (form_in form) capacity form) number bs
begun_read form number was bs p = read-in was form number bs p.1.1 (read_sized was form number bs p.1.1 p.1.0)

-- as after a read over an empty table
read_held : (form : List ℕ) (number : ℕ) (was bs : List ℕ) → Begins (read form number) was bs → Held bs (used capacity (direct (Event.restore (taken capacity form))) [])
read_held form number was bs p = record {
  bytes = (begun_read form number was bs p).bytes ∙ ap (table_bytes capacity) (sym (read_is_call capacity form []));
  kept = used_keeps (direct (Event.restore (taken capacity form))) [] (read_fits form [] p.0) empty_kept;
}

-- a log's uses from an empty table on: a read with which it began is the first of them
unfoldable pub uses_of : Begin → List Made → List Use
uses_of made log = map use_of log
uses_of (read form number) log = direct (Event.restore (taken capacity form)) ∷ map use_of log

pub begun_held : (how : Begin) (was bs : List ℕ) (log : List Made) → Begins how was bs → Log bs log → Held (last log bs) (uses capacity (uses_of how log) [])
unfolding uses_of
begun_held made was bs log b p = (log_is log bs [] (new_held was bs b) p).held
begun_held (read form number) was bs log b p = (log_is log bs _ (read_held form number was bs b) p).held

-- ---- demand 3

pub demand_3_of_bytes : Demand3OfBytes
unfolding use_of
demand_3_of_bytes how was bs before h after earlier k g rest G begin p q low high s =
    let cut = log_cut before (handle h ∷ after) bs p in
    let l : List Entry = uses capacity (uses_of how before) [] in
    let held : Held (last before bs) l = begun_held how was bs before begin cut.0 in
    let this = call_is (handle h) (last before bs) l held cut.1.1 in
    let more = log_is after h.table_after (requested capacity (request_of h) l) (call_held (handle h) (last before bs) l held cut.1.0 cut.1.1) cut.1.2 in
    subst (λ (es : List Event). Promised g G (asks_of k (rest ++ es))) (sym more.events)
    (demand_3_of_frames capacity (uses_of how before) (request_of h) k g earlier rest G (map use_of after) (sym this.events ∙ q) low high
    (subst (λ (es : List Event). Supposed k G (rest ++ es)) more.events s))

-- from a table just read in: the number 0 says that the bytes were a saved form
pub demand_3_of_restored : Demand3OfRestored
demand_3_of_restored was form bs after k g G begin p entry low s =
    let is = (begun_read form 0 was bs begin).saved in
    let own = read_is_call capacity form [] ∙ ap (λ (b : Bool). cond b (saved_in (form_in form) form) []) is in
    let all = log_is after bs (saved_in (form_in form) form) (subst (Held bs) own (read_held form 0 was bs begin)) p in
    subst (λ (es : List Event). Promised g G (asks_of k es)) (sym all.events)
    (demand_3_of_frames_restored capacity form k g G (map use_of after) (record { saved = is; entry = entry; maximum = low })
    (subst (Supposed k G) all.events s))
