-- Records that are written and read one by one are so in any number, one behind the other. Assumes nothing.
use Rattle.std.specs.Prelude.{Err, Ok, Result}
use mathlib.Core.Path.{◌≡◌, refl, sym, ap, ◌∙◌, subst}
use mathlib.Core.Bool.{Bool, true, false, cond}
use mathlib.Core.List.{List, [], ◌∷◌, ◌++◌, map}
use Prim.Native.Nat.{ℕ, zero, suc, ◌+◌, ◌-◌, ◌<◌}
use native.Mathlib.Omega.{arith}
use lib.ListN.{length, take, drop, length-drop, drop_of_length-le, take-append-drop}
use lib.Seq.{take-append_seam, drop-append_seam, drop-drop}
use lib.Dec.{leb}
use borrow.Author.Tests.{leb-true}
use Rattle.types.specs.Number.{AllBytes}
use Rattle.frame.specs.Walk.{All}
use Rattle.types.proofs.Numbers.{bytes_drop}
use Rattle.frame.specs.Encoded.{encode_all}
use Rattle.frame.specs.declared.answer.Refusal.{Refusal}
use Rattle.frame.specs.declared.answer.Refusal.TheVariants.{RecordCut}
use Rattle.readers.specs.declared.pass.Span.{Span}
use Rattle.readers.specs.Reading.{mapped, span, first_of, spans_in, spans_from, records_of}
use Rattle.readers.proofs.Spans.{read_is, unread_not, Advancing, spans_done, spans_step}

-- these bytes were written of what they say
abbrev pub Wrote : {R : Type 0} → (List ℕ → R) → (R → List ℕ) → (R → Type 0) → List ℕ → Type 0
Wrote decode encode Good x = Good (decode x) × (encode (decode x) ≡ x)

-- ONE RECORD, both ways: what was written has the length that its bytes say and is read back, and what is read was so written
pub record Codec {R : Type 0} (one : List ℕ → Result ℕ Refusal) (decode : List ℕ → R) (encode : R → List ℕ) (Good : R → Type 0) : Type 0 where
  pub moves : Advancing one
  pub forth : (r : R) (rest : List ℕ) → Good r → one (encode r ++ rest) ≡ Ok (length (encode r))
  pub back : (r : R) → Good r → decode (encode r) ≡ r
  pub there : (l : List ℕ) (m : ℕ) → AllBytes l → one l ≡ Ok m → Wrote decode encode Good (take m l)

module _ {R : Type 0} (one : List ℕ → Result ℕ Refusal) (decode : List ℕ → R) (encode : R → List ℕ) (Good : R → Type 0)
    (codec : Codec one decode encode Good) (f : List ℕ) where
  -- the first span's record stands before the others
  first_record : (p n : ℕ) (x : Result (List Span) Refusal)
      → records_of decode f (mapped (λ xs. span p n ∷ xs) x) ≡ mapped (λ rs. decode (take n (drop p f)) ∷ rs) (records_of decode f x)
  unfolding records_of
  first_record p n (Ok xs) = refl
  first_record p n (Err why) = refl

  -- WHAT WAS WRITTEN from p on is read back
  pub records_back : (rs : List R) (p : ℕ) → All Good rs → drop p f ≡ encode_all encode rs → records_of decode f (spans_from one f p) ≡ Ok rs
  unfolding encode_all records_of
  records_back [] p h e =
      let n : length f - p ≡ 0 = sym (length-drop p f) ∙ ap length e in
      ap (records_of decode f) (spans_done one f p (omega arith))
  records_back (r ∷ rs) p h e =
      let n : ℕ = length (encode r) in
      let o : one (drop p f) ≡ Ok n = ap one e ∙ codec.forth r (encode_all encode rs) h.0 in
      let w = codec.moves (drop p f) n o in
      let b : p < length f = omega (arith, length-drop p f) in
      let s : take n (drop p f) ≡ encode r = ap (take n) e ∙ take-append_seam (encode r) (encode_all encode rs) in
      let t : decode (take n (drop p f)) ≡ r = ap decode s ∙ codec.back r h.0 in
      let d : drop (p + n) f ≡ encode_all encode rs = sym (drop-drop n p f) ∙ ap (drop n) e ∙ drop-append_seam (encode r) (encode_all encode rs) in
      ap (records_of decode f) (spans_step one f codec.moves p n b o)
      ∙ first_record p n (spans_from one f (p + n))
      ∙ ap (mapped (λ more. decode (take n (drop p f)) ∷ more)) (records_back rs (p + n) h.1 d)
      ∙ ap (λ x. Ok (x ∷ rs)) t

  -- what is said of the records from p on
  abbrev Written : ℕ → List R → Type 0
  Written p rs = All Good rs × (drop p f ≡ encode_all encode rs)

  -- a record and the written ones behind it
  written_first : AllBytes f → (p m : ℕ) (rs : List R) → one (drop p f) ≡ Ok m → Written (p + m) rs → Written p (decode (take m (drop p f)) ∷ rs)
  unfolding encode_all
  written_first bytes p m rs o w =
      let t = codec.there (drop p f) m (bytes_drop f p bytes) o in
      let d : drop m (drop p f) ≡ encode_all encode rs = drop-drop m p f ∙ w.1 in
      ((t.0, w.0), sym (take-append-drop m (drop p f)) ∙ (λ i. sym t.1 i ++ d i))

  only_in : AllBytes f → (n p : ℕ) (rs : List R) → records_of decode f (spans_in one f n p) ≡ Ok rs → Written p rs
  unfolding spans_in records_of encode_all
  only_in bytes zero p rs e = unread_not RecordCut rs e
  only_in bytes (suc n) p rs e = go (λ q. only_in bytes n q) (leb (length f) p) refl (one (drop p f)) refl e
    where
      more : ((q : ℕ) (xs : List R) → records_of decode f (spans_in one f n q) ≡ Ok xs → Written q xs)
          → (m : ℕ) → one (drop p f) ≡ Ok m → (x : Result (List Span) Refusal) → spans_in one f n (p + m) ≡ x
          → records_of decode f (mapped (λ xs. span p m ∷ xs) x) ≡ Ok rs → Written p rs
      more rec m o (Ok xs) g e =
          let ys : List R = map (λ (y : Span). decode (take y.size (drop y.at f))) xs in
          subst (Written p) (read_is (decode (take m (drop p f)) ∷ ys) rs e) (written_first bytes p m ys o (rec (p + m) ys (ap (records_of decode f) g)))
      more rec m o (Err why) g e = unread_not why rs e

      go : ((q : ℕ) (xs : List R) → records_of decode f (spans_in one f n q) ≡ Ok xs → Written q xs)
          → (b : Bool) → leb (length f) p ≡ b → (x : Result ℕ Refusal) → one (drop p f) ≡ x
          → records_of decode f (cond b (Ok []) (first_of p (spans_in one f n) x)) ≡ Ok rs → Written p rs
      go rec true b x o e = subst (Written p) (read_is [] rs e) (tt, drop_of_length-le f (leb-true (length f) p b))
      go rec false b (Ok m) o e = more rec m o (spans_in one f n (p + m)) refl e
      go rec false b (Err why) o e = unread_not why rs e

  -- WHAT IS READ from p on was so written
  pub records_only : AllBytes f → (p : ℕ) (rs : List R) → records_of decode f (spans_from one f p) ≡ Ok rs → All Good rs × (drop p f ≡ encode_all encode rs)
  unfolding spans_from
  records_only bytes p rs e = only_in bytes (suc (length f - p)) p rs e
