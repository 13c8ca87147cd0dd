-- The number that is read of what was served is the store's (`specs/Claims/Numbers.antt`): from crate `readers`, where the same is proved of a served reply and of
-- a report. Assumes nothing.
use Rattle.frame.specs.declared.answer.Refusal.{Refusal}
use Rattle.std.specs.Prelude.{None, Ok, Option, Some, Err, Result}
use mathlib.Core.Path.{◌≡◌, refl, sym, ap, ◌∙◌}
use mathlib.Core.Bool.{Bool, true, false, cond}
use mathlib.Core.List.{List, [], ◌∷◌}
use mathlib.Core.Logic.{⊎_elim}
use Prim.Native.Nat.{ℕ, ◌<◌, ◌^◌}
use native.Mathlib.Omega.{arith}
use lib.ListN.{take}
use lib.IntN.{ℤ}
use Rattle.frame.specs.declared.answer.Refusal.TheVariants.{NotAStore, NotATable}
use Rattle.frame.specs.Answer.{Outcome, within, seen, refused}
use Rattle.frame.specs.Walk.{All}
use Rattle.frame.proofs.Codes.{refusal_nonzero}
use Rattle.store.specs.Layout.{is_store}
use Rattle.store.specs.Value.{telling, numbered_by}
use Rattle.reporting.specs.declared.entry.Entry.{Entry}
use Rattle.reporting.specs.Table.{capacity, holding}
use Rattle.reporting.specs.Carried.{is_table, table_in}
use Rattle.reporting.specs.Claims.RoundTrip.{AllClean}
use Rattle.reporting.proofs.CarriageTable.{table_clean}
use Rattle.read.specs.Read.{ReadRecord}
use Rattle.server.specs.Serve.{State, serve}
use Rattle.report.specs.Report.{ReportRecord}
use Rattle.readers.specs.declared.value.ValueIn.{ValueIn}
use Rattle.readers.specs.Reading.{kth}
use Rattle.readers.specs.Values.{Held, held, read_reply_held, report_frame_held}
use Rattle.readers.specs.Claims.Served.{Typed}
use Rattle.readers.proofs.Through.{Valued, Failed, read_number, report_number, read_ways, report-held}
use Rattle.server.specs.Lent.{Lent, lent, carried, serve_lent}
use Rattle.hingedrift.specs.Serving.{handed, is_unicast, number_left, handle_left}
use Rattle.readers.specs.Told.{told, record_told, ValueFields, value_as, no_value, number_fields, value_fields, value_or, ReadFields, read_as, read_fields, ReportFields, report_as, report_fields}
use Rattle.hingedrift.specs.Claims.Numbers.{number_said, HdReadNumber, HdReportNumber}

-- ---- an answer with number 0 was served

-- what C has is what is seen of a reply
seen_of : {S T : Type 0} (f : S → T) (o : Outcome S) (size : ℕ) (reply : List ℕ) (after : T) → handed 0 size reply after ≡ within f o
    → seen (Ok size) reply o.state ≡ o
seen_of f o size reply after e =
    λ i. record {
      number = ap (λ x. x.number) e i;
      size = ap (λ x. x.size) e i;
      reply = ap (λ x. x.reply) e i;
      state = o.state;
    }

module _ (s bs : List ℕ) (cluster unicast : ℕ) (frame : List ℕ) (room size : ℕ) (reply : List ℕ) (after : Lent)
    (e : handed 0 size reply after ≡ handle_left s bs cluster unicast frame room) where
  abbrev served : Outcome State
  served = serve 8 capacity s (holding (table_in bs)) cluster (is_unicast unicast) frame room

  -- the bytes were a table
  was_served : (is_table capacity bs ≡ true) × (seen (Ok size) reply served.state ≡ served)
  unfolding serve_lent
  was_served = go (is_table capacity bs) refl e
    where
      go : (b : Bool) → is_table capacity bs ≡ b → handed 0 size reply after ≡ cond b (within (carried bs) served) (refused room (cond (is_store 8 s) NotATable NotAStore) (lent s bs))
          → (is_table capacity bs ≡ true) × (seen (Ok size) reply served.state ≡ served)
      go true t g = (t, seen_of (carried bs) served size reply after g)
      go false t g = absurd (omega (arith, refusal_nonzero (cond (is_store 8 s) NotATable NotAStore), ap (λ x. x.number) g))

-- entries that fit a table's bytes have intervals of sixteen bits
intervals : (l : List Entry) → AllClean l → All (λ (e : Entry). (e.config.min_interval < 2 ^ 16) × (e.config.max_interval < 2 ^ 16)) l
intervals [] h = tt
intervals (e ∷ l) h = ((h.0.minimum, h.0.maximum), intervals l h.1)

-- ---- a record that was found

found_one : {A R : Type 0} (zeros : R) (says : A → R) (found : R → ℕ) (x : Result (Option A) Refusal) (r : R) → found zeros ≡ 0 → found r ≡ 1
    → told 0 r ≡ record_told zeros says x → (y : A) × (x ≡ Ok (Some y)) × (r ≡ says y)
found_one zeros says found (Err why) r z o e = absurd (omega (arith, refusal_nonzero why, ap (λ q. q.number) e))
found_one zeros says found (Ok None) r z o e = absurd (omega (arith, z, o, ap (λ q. found q.result) e))
found_one zeros says found (Ok (Some y)) r z o e = (y, refl, ap (λ q. q.result) e)

-- what is handed over of a value says its number, or that it has none
said : (w : ValueIn) (t start len n : ℕ) (z : ℤ) → value_as t start len n z ≡ value_fields w → number_said n z ≡ telling (numbered_by w.number)
said w t start len n z e = go w.number e
  where
    go : (m : Option ℤ) → value_as t start len n z ≡ number_fields m (value_as w.type_id.0 w.start w.len) → number_said n z ≡ telling (numbered_by m)
    go (Some y) e = ap (λ (v : ValueFields). number_said v.numbered v.number) e
    go None e = ap (λ (v : ValueFields). number_said v.numbered v.number) e

-- ---- a read reply

pub hd_read_number : HdReadNumber
hd_read_number s bs cluster unicast frame room h sb tb fb asks size reply after e k id t start len n z g =
    let y = found_one (read_as 0 0 0 no_value) read_fields (λ (r : ReadFields). r.found) (kth k (read_reply_held f)) (read_as 1 id 0 (value_as t start len n z)) refl refl g in
    ⊎_elim (λ v. valued y.0 y.1 y.2 v) (λ v. failed y.0 y.2 v) (read_ways f k y.0 y.1)
  where
    f : List ℕ
    f = take size reply

    failed : (y : Held ReadRecord) → read_as 1 id 0 (value_as t start len n z) ≡ read_fields y → Failed y → number_said n z ≡ number_left s id
    failed y r v = absurd (v.3 (sym (ap (λ (q : ReadFields). q.status) (r ∙ ap read_fields v.2))))

    valued : (y : Held ReadRecord) → kth k (read_reply_held f) ≡ Ok (Some y) → read_as 1 id 0 (value_as t start len n z) ≡ read_fields y → Valued y
        → number_said n z ≡ number_left s id
    valued y p r v =
        let was = was_served s bs cluster unicast frame room size reply after e in
        let typed : Typed s frame (table_in bs) = (sb, fb, intervals (table_in bs) (table_clean capacity bs tb was.0)) in
        let same : read_as 1 id 0 (value_as t start len n z) ≡ read_as 1 v.0 0 (value_fields v.3) = r ∙ ap read_fields v.4 in
        said v.3 t start len n z (ap (λ (q : ReadFields). q.value) same)
        ∙ ap telling (read_number 8 capacity s (table_in bs) cluster (is_unicast unicast) frame room h typed asks size reply _ was.1 k v.0 v.1 v.2 v.3 (p ∙ ap (λ (q : Held ReadRecord). Ok (Some q)) v.4))
        ∙ ap (λ (i : ℕ). number_left s i) (sym (ap (λ (q : ReadFields). q.id) same))

-- ---- a report

pub hd_report_number : HdReportNumber
hd_report_number s sequence ids room short size frame e k id t start len n z g =
    let f : List ℕ = take size frame in
    let y = found_one (report_as 0 0 no_value) report_fields (λ (r : ReportFields). r.found) (kth k (report_frame_held f)) (report_as 1 id (value_as t start len n z)) refl refl g in
    let r : ReportRecord = y.0.is in
    let v = report-held f k y.0 y.1 in
    let p = y.1 ∙ ap (λ (o : Option ValueIn). Ok (Some (held r o))) v.1 in
    said v.0 t start len n z (ap (λ (q : ReportFields). q.value) y.2 ∙ ap value_or v.1)
    ∙ ap telling (report_number 8 s sequence ids room short size frame e k r.id r.type r.value v.0 p)
    ∙ ap (λ (i : ℕ). number_left s i) (sym (ap (λ (q : ReportFields). q.id) y.2))
