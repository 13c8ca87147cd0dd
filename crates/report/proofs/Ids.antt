-- One id of a report: the ways that it goes. Assumes nothing.
use Rattle.std.specs.Prelude.{Err, None, Ok, Option, Result, Some}
use mathlib.Core.Path.{◌≡◌, refl, sym, ap, ◌∙◌, subst}
use mathlib.Core.Bool.{Bool, true, false, cond}
use mathlib.Core.List.{List, [], ◌∷◌, ◌++◌}
use Prim.Native.Nat.{ℕ}
use lib.ListN.{length}
use Rattle.types.specs.Number.{zeros}
use Rattle.frame.specs.Inside.Buffer.{putting, put, Shows, Longer, Stays}
use Rattle.frame.specs.Answer.{no_state, seen, refused}
use Rattle.frame.specs.Encoded.{encode_all, fits}
use Rattle.frame.specs.declared.answer.Refusal.{Refusal}
use Rattle.frame.specs.declared.answer.Refusal.TheVariants.{ReplyTooLong, NotReportable}
use Rattle.frame.proofs.Encoded.{put_record}
use Rattle.frame.proofs.Outcome.{seen_same}
use Rattle.store.specs.declared.lookup.Attribute.{Attribute}
use Rattle.store.specs.Contents.{name_of, find_of, reportable}
use Rattle.report.specs.Report.{ReportRecord, encode, record_of, all, trouble, added, report_by, report_one}
use Rattle.report.specs.Inside.Report.{Shown, Reports}

-- an id that ends the report: the buffer was cleared
module _ (s : List ℕ) (id : ℕ) (d : List ℕ) (out : ℕ) (why : Refusal) (r : Result ℕ Refusal) (room : ℕ) (after : List ℕ) (g : seen r after no_state ≡ refused room why no_state)
    (same : room ≡ length d) where
  ends_with : ((head : List ℕ) (rs : List ReportRecord) → Shows d out (head ++ encode_all encode rs) → report_one 8 s (length d) (length head) (all rs) id ≡ trouble why)
      → Reports s id d out r after
  ends_with e head rs w =
      let q = seen_same r (Err why) after (zeros room) no_state no_state g in
      subst (λ (x : Result ℕ Refusal). Shown head (length d) (report_one 8 s (length d) (length head) (all rs) id) x after) (sym q.0)
      (record { is = e head rs w; cleared = q.1.0 ∙ ap zeros same })

module _ (s : List ℕ) (id : ℕ) (d : List ℕ) (out : ℕ) where
  -- nothing found
  pub turn_nothing : find_of 8 s (name_of 0 id) ≡ None → (r : Result ℕ Refusal) (after : List ℕ) → seen r after no_state ≡ refused (length d) NotReportable no_state → Reports s id d out r after
  turn_nothing f r after g = ends_with s id d out NotReportable r (length d) after g refl (λ head rs w. ap (report_by s (length d) (length head) rs id) f)

  module _ (a : Attribute) (f : find_of 8 s (name_of 0 id) ≡ Some a) where
    -- not reportable
    pub turn_unreportable : reportable a ≡ false → (r : Result ℕ Refusal) (after : List ℕ) → seen r after no_state ≡ refused (length d) NotReportable no_state → Reports s id d out r after
    turn_unreportable q r after g =
        ends_with s id d out NotReportable r (length d) after g refl (λ head rs w. ap (report_by s (length d) (length head) rs id) f ∙ rw q refl)

    module _ (q : reportable a ≡ true) (p : Option ℕ) (d₁ : List ℕ) (g : putting p d₁ ≡ put d out (encode (record_of s id a))) where
      -- the turn, by whether there is room
      by_room : (room head : ℕ) (rs : List ReportRecord) (b : Bool) → fits encode room head (rs ++ (record_of s id a ∷ [])) ≡ b
          → report_one 8 s room head (all rs) id ≡ cond b (all (rs ++ (record_of s id a ∷ []))) (trouble ReplyTooLong)
      by_room room head rs b e =
          ap (report_by s room head rs id) f
          ∙ ap (λ (x : Bool). cond x (added room head rs (record_of s id a)) (trouble NotReportable)) q
          ∙ ap (λ (x : Bool). cond x (all (rs ++ (record_of s id a ∷ []))) (trouble ReplyTooLong)) e

      -- its record fits
      pub turn_more : (o : ℕ) → p ≡ Some o → Reports s id d out (Ok o) d₁
      turn_more o e head rs w =
          let x : Longer encode head (rs ++ (record_of s id a ∷ [])) (length d) o d₁ = put_record encode head rs (record_of s id a) d out (Some o) d₁ w (ap (λ (k : Option ℕ). putting k d₁) (sym e) ∙ g) in
          record { records = rs ++ (record_of s id a ∷ []); is = by_room (length d) (length head) rs true x.fit; longer = x }

      -- it does not
      pub turn_full : p ≡ None → (r : Result ℕ Refusal) (after : List ℕ) → seen r after no_state ≡ refused (length d₁) ReplyTooLong no_state → length d₁ ≡ length d → Reports s id d out r after
      turn_full e r after k same = ends_with s id d out ReplyTooLong r (length d₁) after k same too_long
        where
          too_long : (head : List ℕ) (rs : List ReportRecord) → Shows d out (head ++ encode_all encode rs) → report_one 8 s (length d) (length head) (all rs) id ≡ trouble ReplyTooLong
          too_long head rs w =
              let x : Stays encode head (rs ++ (record_of s id a ∷ [])) (length d) d d₁ = put_record encode head rs (record_of s id a) d out None d₁ w (ap (λ (k : Option ℕ). putting k d₁) (sym e) ∙ g) in
              by_room (length d) (length head) rs false x.unfit
