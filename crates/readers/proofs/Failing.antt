-- Replies that list failures, none of which begins with 00: one byte 00 if there are none. Both ways, over the record. Assumes nothing.
use Rattle.frame.specs.declared.answer.Refusal.{Refusal}
use Rattle.std.specs.Prelude.{Err, Ok, Result}
use mathlib.Core.Path.{◌≡◌, refl, sym, ap, ◌∙◌, subst}
use mathlib.Core.Bool.{Bool, true, false, cond, ◌&&◌}
use mathlib.Core.List.{List, [], ◌∷◌, ◌++◌}
use Prim.Native.Nat.{ℕ, suc, ◌+◌, ◌-◌, ◌≤◌, ◌<◌}
use native.Mathlib.Omega.{arith}
use lib.ListN.{length, get_or, drop, length-drop, drop_of_length-le}
use lib.Seq.{drop-cons}
use lib.Dec.{leb, eqb}
use borrow.Author.Tests.{lt-leb, leb-false, eq-eqb, ne_eqb, eqb-true}
use Rattle.types.specs.Number.{AllBytes}
use Rattle.frame.specs.Walk.{All}
use Rattle.frame.specs.declared.answer.Refusal.TheVariants.{RecordCut}
use Rattle.frame.specs.declared.command_identifier.CommandIdentifier.{CommandIdentifier}
use Rattle.frame.specs.declared.header.ZclHeader.{ZclHeader}
use Rattle.frame.specs.Header.{reply_head}
use Rattle.frame.specs.Encoded.{encode_all}
use Rattle.frame.specs.Failures.{encode_failures}
use Rattle.readers.specs.declared.layout.Layout.{Layout}
use Rattle.readers.specs.Layout.{length_of}
use Rattle.readers.specs.Reading.{and_then, body_of, spans_from, records_of}
use Rattle.readers.specs.Replies.{failures_from, failures_of}
use Rattle.readers.specs.Claims.Sendable.{Failed}
use Rattle.readers.specs.Claims.Back.{BothWays}
use Rattle.readers.proofs.Codec.{Codec, records_back, records_only}
use Rattle.readers.proofs.Spans.{read_is, unread_not}
use Rattle.readers.proofs.Fields.{first_at}
use Rattle.readers.proofs.Plain.{records-from}
use Rattle.readers.proofs.Heads.{body_at, body_is, from_body}

and_false : (b : Bool) → b && false ≡ false
and_false true = refl
and_false false = refl

module _ {R : Type 0} (command : CommandIdentifier) (layout : Layout) (decode : List ℕ → R) (encode : R → List ℕ) (Good : R → Type 0)
    (codec : Codec (length_of layout) decode encode Good)
    (begins : (r : R) (rest : List ℕ) → Good r → Failed (get_or (encode r ++ rest) 0 0)) where
  from_back : (f : List ℕ) (p : ℕ) (rs : List R) → All Good rs → drop p f ≡ encode_failures encode rs
      → records_of decode f (failures_from layout f p) ≡ Ok rs
  unfolding failures_from encode_failures encode_all records_of
  from_back f p [] h e =
      let n : length f - p ≡ 1 = sym (length-drop p f) ∙ ap length e in
      let z : get_or f p 0 ≡ 0 = first_at f p ∙ ap (λ (l : List ℕ). get_or l 0 0) e in
      rw (lt-leb (length f) p (omega arith), eq-eqb (length f) (p + 1) (omega arith), z)
  from_back f p (r ∷ rs) h e =
      let o = codec.forth r (encode_all encode rs) h.0 in
      let w = codec.moves (encode r ++ encode_all encode rs) (length (encode r)) o in
      let n : length f - p ≡ length (encode r ++ encode_all encode rs) = sym (length-drop p f) ∙ ap length e in
      let z : get_or f p 0 ≡ get_or (encode r ++ encode_all encode rs) 0 0 = first_at f p ∙ ap (λ (l : List ℕ). get_or l 0 0) e in
      rw (lt-leb (length f) p (omega arith), ne_eqb (get_or f p 0) 0 (λ k. begins r (encode_all encode rs) h.0 (sym z ∙ k)), and_false (eqb (length f) (p + 1)))
      (records_back (length_of layout) decode encode Good codec f (r ∷ rs) p h e)

  -- records that are there are a list of failures
  some : (f : List ℕ) (p : ℕ) (rs : List R) → p < length f → drop p f ≡ encode_all encode rs → drop p f ≡ encode_failures encode rs
  unfolding encode_failures encode_all
  some f p [] h e = let n : length f - p ≡ 0 = sym (length-drop p f) ∙ ap length e in absurd (omega arith)
  some f p (r ∷ rs) h e = e

  from_only : (f : List ℕ) → AllBytes f → (p : ℕ) (rs : List R) → records_of decode f (failures_from layout f p) ≡ Ok rs
      → All Good rs × (drop p f ≡ encode_failures encode rs)
  unfolding failures_from encode_failures records_of
  from_only f bytes p rs e = go (leb (length f) p) refl (eqb (length f) (p + 1)) refl (eqb (get_or f p 0) 0) refl e
    where
      listed : leb (length f) p ≡ false → records_of decode f (spans_from (length_of layout) f p) ≡ Ok rs → All Good rs × (drop p f ≡ encode_failures encode rs)
      listed a e =
          let u = records_only (length_of layout) decode encode Good codec f bytes p rs e in
          (u.0, some f p rs (leb-false (length f) p a) u.1)

      go : (a : Bool) → leb (length f) p ≡ a → (b : Bool) → eqb (length f) (p + 1) ≡ b → (c : Bool) → eqb (get_or f p 0) 0 ≡ c
          → records_of decode f (cond a (Err RecordCut) (cond (b && c) (Ok []) (spans_from (length_of layout) f p))) ≡ Ok rs
          → All Good rs × (drop p f ≡ encode_failures encode rs)
      go true a b i c j e = unread_not RecordCut rs e
      go false a true i true j e =
          let n : length f ≡ p + 1 = eqb-true (length f) (p + 1) i in
          let l : length f ≤ suc p = omega arith in
          let d : drop (suc p) f ≡ [] = drop_of_length-le f l in
          let one : drop p f ≡ 0 ∷ [] = drop-cons f p 0 (omega arith) ∙ (λ k. eqb-true (get_or f p 0) 0 j k ∷ d k) in
          subst (λ (xs : List R). All Good xs × (drop p f ≡ encode_failures encode xs)) (read_is [] rs e) (tt, one)
      go false a true i false j e = listed a e
      go false a false i c j e = listed a e

  failing_back : (request : ZclHeader) (rs : List R) → All Good rs
      → (let f = reply_head request command ++ encode_failures encode rs in records_of decode f (failures_of command layout f) ≡ Ok rs)
  unfolding failures_of
  failing_back request rs h =
      let f : List ℕ = reply_head request command ++ encode_failures encode rs in
      ap (λ (b : Result ℕ Refusal). records_of decode f (and_then b (failures_from layout f))) (body_at request command (encode_failures encode rs))
      ∙ from_back f 3 rs h (body_is request command (encode_failures encode rs))

  failing_only : (f : List ℕ) (rs : List R) → AllBytes f → records_of decode f (failures_of command layout f) ≡ Ok rs
      → All Good rs × ((p : ℕ) × (body_of command f ≡ Ok p) × (drop p f ≡ encode_failures encode rs))
  unfolding failures_of
  failing_only f rs bytes e =
      let w = from_body (body_of command f) (λ p. records_of decode f (failures_from layout f p)) rs
      (sym (records-from decode f (body_of command f) (failures_from layout f)) ∙ e) in
      let u = from_only f bytes w.0 rs w.2 in
      (u.0, (w.0, w.1, u.1))

  pub failing_both : BothWays (λ f. records_of decode f (failures_of command layout f)) command (encode_failures encode) (All Good)
  failing_both = (failing_back, failing_only)
