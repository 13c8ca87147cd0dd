-- The number that is read from a frame is the number of the attribute in the store: both are the number of the value's bytes. Assumes
-- nothing.
use Rattle.frame.specs.declared.answer.Refusal.{Refusal}
use Rattle.std.specs.Prelude.{slice_get, None, Some, Err, Ok, Result}
use mathlib.Core.Path.{◌≡◌, refl, sym, ap, ◌∙◌, subst}
use mathlib.Core.Bool.{Bool, true, false, cond}
use mathlib.Core.List.{List, [], ◌∷◌, map}
use mathlib.Core.Logic.{◌⊎◌, inl, inr}
use Prim.Native.Nat.{ℕ, zero, suc, ◌+◌, ◌-◌, ◌<◌, ◌^◌}
use native.Mathlib.Omega.{arith}
use lib.ListN.{take, drop, get_or}
use lib.Dec.{eqb}
use borrow.Author.Tests.{eqb-false}
use Rattle.types.specs.Number.{unsigned_at}
use Rattle.types.specs.Value.{number_at}
use Rattle.frame.specs.declared.header.ZclHeader.{ZclHeader}
use Rattle.frame.specs.declared.command_identifier.CommandIdentifier.TheVariants.{ReadAttributes, ReadAttributesResponse, ReportAttributes}
use Rattle.frame.specs.declared.answer.Refusal.TheVariants.{NotAStore}
use Rattle.frame.specs.Answer.{no_state}
use Rattle.frame.specs.Walk.{All}
use Rattle.frame.proofs.Walks.{any}
use Rattle.store.specs.declared.lookup.Attribute.{Attribute}
use Rattle.store.specs.Contents.{name_of, find_of}
use Rattle.store.specs.Layout.{is_store}
use Rattle.store.specs.Value.{value_of, numbered_by, number_of}
use Rattle.reporting.specs.declared.entry.Entry.{Entry}
use Rattle.read.specs.Read.{ReadRecord, value, failure, encode, ids_from, record_for}
use Rattle.report.specs.Report.{ReportRecord, report_record, all, report_from, report_of}
use Rattle.readers.specs.declared.layout.Layout.TheVariants.{ReadStatus, Report}
use Rattle.readers.specs.declared.value.ValueIn.{ValueIn}
use Rattle.readers.specs.declared.pass.Span.{Span}
use Rattle.readers.specs.Reading.{mapped, kth, cut_out, records_of}
use Rattle.readers.specs.Replies.{spans_of, read_record, read_reply_of, reported_record, report_frame_of}
use Rattle.readers.specs.Values.{value_in, Held, held, read_held, read_reply_held, report_held, report_frame_held}
use Rattle.readers.specs.Claims.Sendable.{Whole}
use Rattle.readers.specs.Claims.Served.{read_made}
use Rattle.readers.specs.Claims.Numbers.{ReadNumber, ReportNumber}
use Rattle.readers.proofs.Values.{behind}
use Rattle.readers.proofs.Wholes.{found_whole}
use Rattle.readers.proofs.Numbered.{number_alone, found_number}
use Rattle.readers.proofs.Finding.{Reports, made_read, made_report}
use Rattle.readers.proofs.Keeping.{keeps_shortened}
use Rattle.readers.proofs.Reaching.{passed, by_command}
use Rattle.readers.proofs.Answers.{seen_zero}
use Rattle.readers.proofs.ServesBack.{read_served, report_sent}

-- ---- one span, read in two ways: what holds of every record holds of record k with its value

module _ {A B : Type 0} (g : Span → A) (h : Span → B) (Good : A → Type 0) where
  in_list : (l : List Span) → All Good (map g l) → (k : ℕ) (y : B) → slice_get (map h l) k ≡ Some y → (x : Span) × (h x ≡ y) × Good (g x)
  in_list [] a k y e = absurd cc
  in_list (x ∷ l) a zero y e = (x, cc, a.0)
  in_list (x ∷ l) a (suc k) y e = in_list l a.1 k y e

  in_reply : (spans : Result (List Span) Refusal) (rs : List A) → mapped (map g) spans ≡ Ok rs → All Good rs
      → (k : ℕ) (y : B) → kth k (mapped (map h) spans) ≡ Ok (Some y) → (x : Span) × (h x ≡ y) × Good (g x)
  in_reply (Ok l) rs e a k y i =
      let same : rs ≡ map g l = cc in
      let there : slice_get (map h l) k ≡ Some y = cc in
      in_list l (subst (All Good) same a) k y there
  in_reply (Err why) rs e a k y i = absurd cc

-- ---- a value that says the number of a name: whole, of this type

module _ (form : ℕ) (s : List ℕ) where
  abbrev Tells : ℕ → ℕ → List ℕ → Type 0
  Tells name t v = Whole t v × (numbered_by (number_at v 0 t) ≡ number_of form s name)

  -- the value of an attribute that is found
  found_tells : is_store form s ≡ true → (name : ℕ) (a : Attribute) → find_of form s name ≡ Some a → Tells name a.type_id.0 (value_of s a)
  found_tells store name a e = (found_whole form s name a store e, found_number form s name a store e)

  -- the value behind the type at p of a record says it at its place in the frame
  value_tells : (f : List ℕ) (x : Span) (p name : ℕ) → Tells name (get_or (cut_out f x) p 0) (drop (p + 1) (cut_out f x))
      → numbered_by (value_in f x p).number ≡ number_of form s name
  unfolding value_in
  value_tells f x p name k =
      let t : ℕ = get_or (cut_out f x) p 0 in
      let e : take (x.size - (p + 1)) (drop (x.at + (p + 1)) f) ≡ drop (p + 1) (cut_out f x) = behind f x (p + 1) in
      ap numbered_by (number_alone f (x.at + (p + 1)) (x.size - (p + 1)) t (subst (Whole t) (sym e) k.0) ∙ ap (λ (v : List ℕ). number_at v 0 t) e) ∙ k.1

  -- ---- a read

  module _ (code : ℕ) where
    abbrev ReadTells : ReadRecord → Type 0
    ReadTells (value id t v) = Tells (name_of code id) t v
    ReadTells (failure id status) = Unit {0}

    -- record k with its value: it has one only where it is one
    read_tells : (f : List ℕ) (x : Span) (id t : ℕ) (v : List ℕ) (w : ValueIn) → read_held f x ≡ held (value id t v) (Some w)
        → ReadTells (read_record (cut_out f x)) → numbered_by w.number ≡ number_of form s (name_of code id)
    unfolding read_record
    read_tells f x id t v w e g = go (eqb (get_or (cut_out f x) 2 0) 0) e g
      where
        there : ReadRecord
        there = value (unsigned_at (cut_out f x) 0 2) (get_or (cut_out f x) 3 0) (drop 4 (cut_out f x))

        gone : ReadRecord
        gone = failure (unsigned_at (cut_out f x) 0 2) (get_or (cut_out f x) 2 0)

        go : (c : Bool) → held (cond c there gone) (cond c (Some (value_in f x 3)) None) ≡ held (value id t v) (Some w) → ReadTells (cond c there gone)
            → numbered_by w.number ≡ number_of form s (name_of code id)
        go true e g =
            let r : there ≡ value id t v = ap (λ (y : Held ReadRecord). y.is) e in
            let i : unsigned_at (cut_out f x) 0 2 ≡ id = cc in
            let o : Some (value_in f x 3) ≡ Some w = ap (λ (y : Held ReadRecord). y.value) e in
            let u : w ≡ value_in f x 3 = cc in
            ap (λ (y : ValueIn). numbered_by y.number) u
            ∙ value_tells f x 3 (name_of code (unsigned_at (cut_out f x) 0 2)) g
            ∙ ap (λ (j : ℕ). number_of form s (name_of code j)) i
        go false e g =
            let o : None ≡ Some w = ap (λ (y : Held ReadRecord). y.value) e in
            let z : ◌≡◌ {A = ℕ} 0 1 = cc in
            absurd (omega arith)

  -- ---- a report

  abbrev ReportTells : ReportRecord → Type 0
  ReportTells r = Tells (name_of 0 r.id) r.type r.value

  report_tells : (f : List ℕ) (x : Span) (id t : ℕ) (v : List ℕ) (w : ValueIn) → report_held f x ≡ held (report_record id t v) (Some w)
      → ReportTells (reported_record (cut_out f x)) → numbered_by w.number ≡ number_of form s (name_of 0 id)
  unfolding reported_record
  report_tells f x id t v w e g =
      let i : unsigned_at (cut_out f x) 0 2 ≡ id = ap (λ (y : Held ReportRecord). y.is.id) e in
      let o : Some (value_in f x 2) ≡ Some w = ap (λ (y : Held ReportRecord). y.value) e in
      let u : w ≡ value_in f x 2 = cc in
      ap (λ (y : ValueIn). numbered_by y.number) u
      ∙ value_tells f x 2 (name_of 0 (unsigned_at (cut_out f x) 0 2)) g
      ∙ ap (λ (j : ℕ). number_of form s (name_of 0 j)) i

-- ---- THE THEOREMS

-- every value that a read is answered with was found
read_made_tells : (form limit : ℕ) (s : List ℕ) (l : List Entry) (h : ZclHeader) (body : List ℕ) (room : ℕ) → is_store form s ≡ true
    → All (ReadTells form s h.manufacturer_code.0) (read_made form limit s l h body room)
read_made_tells form limit s l h body room store =
    keeps_shortened encode (record_for form s h) room 3 (ReadTells form s h.manufacturer_code.0) (λ id. Unit {0})
    (λ fit id u. made_read form s h (ReadTells form s h.manufacturer_code.0) id
    (found_tells form s store (name_of h.manufacturer_code.0 id)) (λ status k. tt) fit)
    (ids_from body 0)
    (any (ids_from body 0).list)

pub read_number : ReadNumber
unfolding read_reply_of records_of read_reply_held
read_number form limit s l cluster unicast frame room h typed asks size reply after e k id t v w i =
    let f : List ℕ = take size reply in
    let code : ℕ = h.manufacturer_code.0 in
    let made = read_served form limit s l cluster unicast frame room h typed asks size reply after e in
    let reached = by_command form limit s l cluster unicast frame room h ReadAttributes asks (seen_zero _ size reply after e) in
    let good = read_made_tells form limit s l h (drop h.body frame) room reached.store in
    let y = in_reply (λ (x : Span). read_record (cut_out f x)) (read_held f) (ReadTells form s code) (spans_of ReadAttributesResponse ReadStatus f) _ made good k _ i in
    read_tells form s code f y.0 id t v w y.1 y.2

-- every value of a report was found
report_made_tells : (form : ℕ) (s : List ℕ) (ids : List ℕ) (room : ℕ) → is_store form s ≡ true → All (λ (id : ℕ). id < 2 ^ 16) ids
    → (rs : List ReportRecord) → report_from form s room 3 [] ids ≡ all rs → All (ReportTells form s) rs
report_made_tells form s ids room store short rs e =
    subst (Reports (ReportTells form s)) e
    (made_report form s room 3 (ReportTells form s) (λ id. id < 2 ^ 16) (λ id b. found_tells form s store (name_of 0 id)) ids short)

pub report_number : ReportNumber
unfolding report_frame_of records_of report_frame_held report_of
report_number form s sequence ids room short size reply e k id t v w i =
    let f : List ℕ = take size reply in
    let sent = report_sent form s sequence ids room short size reply e in
    let store = (passed room (is_store form s) _ NotAStore no_state (seen_zero _ size reply no_state e)).0 in
    let good = report_made_tells form s ids room store short sent.0 sent.1 in
    let y = in_reply (λ (x : Span). reported_record (cut_out f x)) (report_held f) (ReportTells form s) (spans_of ReportAttributes Report f) _ sent.2 good k _ i in
    report_tells form s f y.0 id t v w y.1 y.2

-- ---- record k

module _ {B : Type 0} (h : Span → B) where
  from_list : (l : List Span) (k : ℕ) (y : B) → slice_get (map h l) k ≡ Some y → (x : Span) × (h x ≡ y)
  from_list [] k y e = absurd cc
  from_list (x ∷ l) zero y e = (x, cc)
  from_list (x ∷ l) (suc k) y e = from_list l k y e

  from_reply : (spans : Result (List Span) Refusal) (k : ℕ) (y : B) → kth k (mapped (map h) spans) ≡ Ok (Some y) → (x : Span) × (h x ≡ y)
  from_reply (Ok l) k y e = let there : slice_get (map h l) k ≡ Some y = cc in from_list l k y there
  from_reply (Err why) k y e = absurd cc

-- a value, with where it lies and its number; or a failure, whose status is not 0
abbrev pub Valued : Held ReadRecord → Type 0
Valued y = (id : ℕ) × (t : ℕ) × (v : List ℕ) × (w : ValueIn) × (y ≡ held (value id t v) (Some w))

abbrev pub Failed : Held ReadRecord → Type 0
Failed y = (id : ℕ) × (status : ℕ) × (y ≡ held (failure id status) None) × (status ≡ 0 → ⊥)

pub read_ways : (f : List ℕ) (k : ℕ) (y : Held ReadRecord) → kth k (read_reply_held f) ≡ Ok (Some y) → Valued y ⊎ Failed y
unfolding read_reply_held read_record
read_ways f k y e =
    let x = from_reply (read_held f) (spans_of ReadAttributesResponse ReadStatus f) k y e in
    go x.0 (eqb (get_or (cut_out f x.0) 2 0) 0) refl (sym x.1)
  where
    go : (x : Span) (c : Bool) → eqb (get_or (cut_out f x) 2 0) 0 ≡ c
        → y ≡ held (cond c (value (unsigned_at (cut_out f x) 0 2) (get_or (cut_out f x) 3 0) (drop 4 (cut_out f x))) (failure (unsigned_at (cut_out f x) 0 2) (get_or (cut_out f x) 2 0))) (cond c (Some (value_in f x 3)) None)
        → Valued y ⊎ Failed y
    go x true b e = inl (unsigned_at (cut_out f x) 0 2, get_or (cut_out f x) 3 0, drop 4 (cut_out f x), value_in f x 3, e)
    go x false b e = inr (unsigned_at (cut_out f x) 0 2, get_or (cut_out f x) 2 0, e, eqb-false (get_or (cut_out f x) 2 0) 0 b)

-- every record of a report has a value
pub report-held : (f : List ℕ) (k : ℕ) (y : Held ReportRecord) → kth k (report_frame_held f) ≡ Ok (Some y) → (w : ValueIn) × (y.value ≡ Some w)
unfolding report_frame_held
report-held f k y e =
    let x = from_reply (report_held f) (spans_of ReportAttributes Report f) k y e in
    (value_in f x.0 2, sym (ap (λ (q : Held ReportRecord). q.value) x.1))
