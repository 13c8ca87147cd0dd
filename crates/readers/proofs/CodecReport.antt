-- A record of a report: id, type and value. Assumes nothing.
use Rattle.std.specs.Prelude.{Ok}
use mathlib.Core.Path.{◌≡◌, refl, sym, ap, ◌∙◌, subst}
use mathlib.Core.List.{List, [], ◌∷◌, ◌++◌}
use Prim.Native.Nat.{ℕ}
use native.Mathlib.Omega.{arith}
use lib.ListN.{length, take}
use lib.Seq.{take-append-add}
use Rattle.types.specs.Number.{bytes_of, AllBytes}
use Rattle.report.specs.Report.{ReportRecord, report_record, encode}
use Rattle.readers.specs.declared.layout.Layout.TheVariants.{Report}
use Rattle.readers.specs.Layout.{valued, length_of}
use Rattle.readers.specs.Replies.{reported_record}
use Rattle.readers.specs.Claims.Sendable.{Whole, ReportSendable}
use Rattle.readers.proofs.Lengths.{advancing}
use Rattle.readers.proofs.Codec.{Codec, Wrote}
use Rattle.readers.proofs.Fields.{two_back, two_below, two_there, behind, by_firsts}
use Rattle.readers.proofs.Valued.{valued_forth, valued_there, valued_long}

report_forth : (r : ReportRecord) (rest : List ℕ) → ReportSendable r → length_of Report (encode r ++ rest) ≡ Ok (length (encode r))
unfolding length_of encode bytes_of
report_forth r rest h = valued_forth (bytes_of 2 r.id ++ r.type ∷ []) 2 refl r.value rest h.1 ∙ ap Ok (omega arith)

report_back : (r : ReportRecord) → ReportSendable r → reported_record (encode r) ≡ r
unfolding reported_record encode bytes_of
report_back r h = let n = two_back r.id (r.type ∷ r.value) h.0 in λ i. report_record (n i) r.type r.value

abbrev Is : List ℕ → Type 0
Is = Wrote reported_record encode ReportSendable

abbrev There : ℕ → List ℕ → Type 0
There m l = AllBytes l → valued 2 l ≡ Ok m → Is (take m l)

module _ (a b t : ℕ) (rest : List ℕ) where
  there_at : (n : ℕ) → AllBytes (a ∷ b ∷ t ∷ rest) → Whole t (take n rest)
      → Is (a ∷ b ∷ t ∷ take n rest)
  unfolding reported_record encode
  there_at n h v =
      let more : List ℕ = t ∷ take n rest in
      ((two_below a b more (h 0) (h 1), v), ap (λ (l : List ℕ). l ++ more) (two_there a b more (h 0) (h 1)))

  there_of : (m : ℕ) → There m (a ∷ b ∷ t ∷ rest)
  there_of m h e =
      let head : List ℕ = a ∷ b ∷ t ∷ [] in
      let w = valued_there head 2 refl rest m e in
      let s : take m (head ++ rest) ≡ head ++ take w.0 rest = ap (λ (k : ℕ). take k (head ++ rest)) w.1 ∙ take-append-add head rest w.0 in
      subst Is (sym s) (there_at w.0 h w.2)

report_there : (l : List ℕ) (m : ℕ) → AllBytes l → length_of Report l ≡ Ok m → Is (take m l)
unfolding length_of
report_there l m h e = subst (There m) (by_firsts 3 l (valued_long 2 l m e)) (there_of _ _ _ (behind 3 l) m) h e

pub report_codec : Codec (length_of Report) reported_record encode ReportSendable
report_codec = record { moves = advancing Report; forth = report_forth; back = report_back; there = report_there }
