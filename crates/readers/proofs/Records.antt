-- A pass over a reply's spans gives its records: how many they are, and record k. Over the record and what reads it. Assumes nothing.
use Rattle.std.specs.Prelude.{option_map, Option, None, Some, Err, Ok, Result}
use Rattle.std.proofs.lemmas.Option.{slice_get-map}
use mathlib.Core.Path.{◌≡◌, refl, sym, ap, ◌∙◌}
use mathlib.Core.List.{List, map}
use Prim.Native.Nat.{ℕ}
use lib.ListN.{length-map}
use Rattle.frame.specs.declared.answer.Refusal.{Refusal}
use Rattle.readers.specs.declared.pass.Span.{Span}
use Rattle.readers.specs.declared.pass.Swept.{Swept}
use Rattle.readers.specs.Reading.{mapped, counted, kth, cut_out, records_of}
use Rattle.readers.specs.Inside.{swept}

-- ---- the records, by what reads a span

module _ {R : Type 0} (g : Span → R) (k : ℕ) where
  counts-swept : (x : Result (List Span) Refusal) → mapped (λ s. s.count) (swept k x) ≡ counted (mapped (map g) x)
  counts-swept (Ok l) = ap Ok (sym (length-map l g))
  counts-swept (Err why) = refl

  finds-swept : (x : Result (List Span) Refusal) → mapped (λ s. option_map g s.kth) (swept k x) ≡ kth k (mapped (map g) x)
  finds-swept (Ok l) = ap Ok (sym (slice_get-map g l k))
  finds-swept (Err why) = refl

module _ {R : Type 0} (g : Span → R) (k : ℕ) (x : Result (List Span) Refusal) where
  -- record k is read from its span, if it has one
  finds : {s : Swept} {o : Option Span} → Ok s ≡ swept k x → s.kth ≡ o → Ok (option_map g o) ≡ kth k (mapped (map g) x)
  finds e i = ap (λ (p : Option Span). Ok (option_map g p)) (sym i) ∙ ap (mapped (λ s. option_map g s.kth)) e ∙ finds-swept g k x

  pub past : {s : Swept} → Ok s ≡ swept k x → s.kth ≡ None → Ok None ≡ kth k (mapped (map g) x)
  past e i = finds e i

  pub there : {s : Swept} {y : Span} → Ok s ≡ swept k x → s.kth ≡ Some y → {r : R} → r ≡ g y → Ok (Some r) ≡ kth k (mapped (map g) x)
  there e i h = ap (λ r. Ok (Some r)) h ∙ finds e i

  -- nothing is found in a reply that cannot be read
  pub lost : {why : Refusal} → Err why ≡ swept k x → Err why ≡ kth k (mapped (map g) x)
  lost e = ap (mapped (λ s. option_map g s.kth)) e ∙ finds-swept g k x

-- ---- the records, by what decodes their bytes

module _ {R : Type 0} (decode : List ℕ → R) (f : List ℕ) (k : ℕ) (x : Result (List Span) Refusal) where
  abbrev read_from : Span → R
  read_from y = decode (cut_out f y)

  pub record_counts : {s : Swept} → Ok s ≡ swept k x → Ok s.count ≡ counted (records_of decode f x)
  unfolding records_of
  record_counts e = ap (mapped (λ s. s.count)) e ∙ counts-swept read_from k x

  pub record_uncounted : {why : Refusal} → Err why ≡ swept k x → Err why ≡ counted (records_of decode f x)
  unfolding records_of
  record_uncounted e = ap (mapped (λ s. s.count)) e ∙ counts-swept read_from k x

  pub record_past : {s : Swept} → Ok s ≡ swept k x → s.kth ≡ None → Ok None ≡ kth k (records_of decode f x)
  unfolding records_of
  record_past e i = past read_from k x e i

  pub record_there : {s : Swept} {y : Span} → Ok s ≡ swept k x → s.kth ≡ Some y → {r : R} → r ≡ decode (cut_out f y) → Ok (Some r) ≡ kth k (records_of decode f x)
  unfolding records_of
  record_there e i h = there read_from k x e i h

  pub record_lost : {why : Refusal} → Err why ≡ swept k x → Err why ≡ kth k (records_of decode f x)
  unfolding records_of
  record_lost e = lost read_from k x e

-- what a pass says of the records, for the functions
pub ruleset told_records = (record_counts, record_uncounted, record_past, record_there, record_lost)
