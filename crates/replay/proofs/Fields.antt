-- Laws of a line and its fields (`specs/Verdict.antt`). Assumes nothing.
use Rattle.std.specs.Prelude.{None, Option, Some}
use mathlib.Core.Path.{◌≡◌, refl, sym, ap, ◌∙◌, subst}
use mathlib.Core.Bool.{Bool, true, false, cond, ◌||◌, not}
use mathlib.Core.List.{List, [], ◌∷◌}
use Prim.Native.Nat.{ℕ, ◌≤◌}
use native.Mathlib.Omega.{arith}
use lib.ListN.{length, get_or, take, length-take}
use lib.Dec.{eqb}
use borrow.Author.Tests.{eq-eqb, ne_eqb}
use Rattle.std.specs.List.{list_any}
use Rattle.types.specs.Number.{le, unsigned_at}
use Rattle.replay.specs.Bytes.{same}
use Rattle.replay.specs.Line.{split, space, hex, field}
use Rattle.replay.specs.Ours.{agreement}
use Rattle.replay.specs.declared.verdict.Verdict.{Verdict}
use Rattle.replay.specs.declared.verdict.Verdict.TheVariants.{Last}
use Rattle.replay.specs.Verdict.{ours, agreed, recorded, case_of, besides, listed, difference_of, last_of, by_letter, worded, judged}
use Rattle.replay.specs.Inside.{Within, cut, told}
use Rattle.replay.proofs.Words.{split_one, split_next, split_whole, split_two, Two}

-- ---- a field

-- digits were read to the first n bytes of a buffer
pub record Got (most : ℕ) (digits d : List ℕ) (n : ℕ) : Type 0 where
  pub is : hex most digits ≡ Some (take n d)
  pub within : n ≤ length d

-- what a decoding into a buffer of `most` bytes says
module _ (most room : ℕ) (long : most ≡ room) (digits d : List ℕ) (r : Option ℕ) (decoded : (told r d ≡ hex room digits) × Within r d) where
  whole : told r d ≡ hex most digits
  whole = decoded.0 ∙ ap (λ (k : ℕ). hex k digits) (sym long)

  pub field_lost : r ≡ None → hex most digits ≡ None
  field_lost e = sym whole ∙ ap (λ (x : Option ℕ). told x d) e

  pub field_got : (n : ℕ) → r ≡ Some n → Got most digits d n
  field_got n e = record { is = sym whole ∙ ap (λ (x : Option ℕ). told x d) e; within = subst (λ (x : Option ℕ). Within x d) e decoded.1 }

-- ---- a case

module _ (letter : ℕ) (a b : List ℕ) where
  pub recorded_first : field a ≡ None → None ≡ recorded letter a b
  unfolding recorded
  recorded_first e = rw e

  pub recorded_second : (input : List ℕ) → field a ≡ Some input → field b ≡ None → None ≡ recorded letter a b
  unfolding recorded
  recorded_second input e f = rw (e, f)

  pub recorded_by : (input held : List ℕ) (x : Option Bool) → field a ≡ Some input → field b ≡ Some held → x ≡ agreement (ours letter input) held → agreed letter x ≡ recorded letter a b
  unfolding recorded
  recorded_by input held x e f g = rw (e, f) (ap (agreed letter) g)

  module _ (c : List ℕ) where
    pub listed_second : field b ≡ None → None ≡ listed letter a b c
    unfolding listed
    listed_second e = rw e

    pub listed_third : (held : List ℕ) → field b ≡ Some held → field c ≡ None → None ≡ listed letter a b c
    unfolding listed
    listed_third held e f = rw (e, f)

    pub listed_by : (held other : List ℕ) (x : Option Bool) → field b ≡ Some held → field c ≡ Some other → agreed letter x ≡ recorded letter a b → besides (agreed letter x) (not (same held other)) ≡ listed letter a b c
    unfolding listed
    listed_by held other x e f g = rw (e, f) (ap (λ (v : Option Verdict). besides v (not (same held other))) g)

-- ---- the words of a line

three : (letter : ℕ) (a : List ℕ) (ws : List (List ℕ)) → Two ws → None ≡ case_of letter (a ∷ ws)
three letter a ws w = ap (λ (x : List (List ℕ)). case_of letter (a ∷ x)) (sym w.is)

four : (letter : ℕ) (a b : List ℕ) (ws : List (List ℕ)) → Two ws → None ≡ difference_of letter (a ∷ b ∷ ws)
four letter a b ws w = ap (λ (x : List (List ℕ)). difference_of letter (a ∷ b ∷ x)) (sym w.is)

module _ (letter : ℕ) (fields : List ℕ) where
  pub case_one : cut space fields ≡ None → None ≡ case_of letter (split space fields)
  case_one h = ap (case_of letter) (split_whole space fields h)

  pub difference_one : cut space fields ≡ None → None ≡ difference_of letter (split space fields)
  difference_one h = ap (difference_of letter) (split_whole space fields h)

  module _ (first second : List ℕ) (e : cut space fields ≡ Some (first, second)) where
    pub case_more : list_any (λ b. eqb b space) second ≡ true → None ≡ case_of letter (split space fields)
    case_more h = three letter first (split space second) (split_two space second h) ∙ ap (case_of letter) (split_next space fields first second e)

    pub case_two : list_any (λ b. eqb b space) second ≡ false → recorded letter first second ≡ case_of letter (split space fields)
    case_two h =
        ap (λ (x : List (List ℕ)). case_of letter (first ∷ x)) (split_one space second h) ∙ ap (case_of letter) (split_next space fields first second e)

    pub difference_two : cut space second ≡ None → None ≡ difference_of letter (split space fields)
    difference_two h =
        ap (λ (x : List (List ℕ)). difference_of letter (first ∷ x)) (split_whole space second h) ∙ ap (difference_of letter) (split_next space fields first second e)

    module _ (word third : List ℕ) (f : cut space second ≡ Some (word, third)) where
      here : difference_of letter (first ∷ word ∷ split space third) ≡ difference_of letter (split space fields)
      here =
          ap (λ (x : List (List ℕ)). difference_of letter (first ∷ x)) (split_next space second word third f)
          ∙ ap (difference_of letter) (split_next space fields first second e)

      pub difference_more : list_any (λ b. eqb b space) third ≡ true → None ≡ difference_of letter (split space fields)
      difference_more h = four letter first word (split space third) (split_two space third h) ∙ here

      pub difference_three : list_any (λ b. eqb b space) third ≡ false → listed letter first word third ≡ difference_of letter (split space fields)
      difference_three h = ap (λ (x : List (List ℕ)). difference_of letter (first ∷ word ∷ x)) (split_one space third h) ∙ here

-- ---- the last line

module _ (fields : List ℕ) where
  pub last_more : list_any (λ b. eqb b space) fields ≡ true → None ≡ last_of (split space fields)
  last_more h = let w = split_two space fields h in ap last_of (sym w.is)

  module _ (f : list_any (λ b. eqb b space) fields ≡ false) where
    pub last_bad : hex 4 fields ≡ None → None ≡ last_of (split space fields)
    last_bad h = rw (sym (split_one space fields f), h)

    pub last_other : (d : List ℕ) (k : ℕ) → Got 4 fields d k → (k ≡ 4 → ⊥) → None ≡ last_of (split space fields)
    last_other d k g m =
        let l = g.within in
        let q : length (take k d) ≡ k = simp length-take (omega arith) in
        rw (sym (split_one space fields f), g.is, ne_eqb (length (take k d)) 4 (λ z. m (sym q ∙ z)))

    pub last_is : (d : List ℕ) (k count : ℕ) → Got 4 fields d k → k ≡ 4 → count ≡ unsigned_at d 0 4 → Some (Last count) ≡ last_of (split space fields)
    unfolding unsigned_at
    last_is d k count g m z =
        let l = g.within in
        let q : length (take k d) ≡ 4 = simp length-take (omega arith) in
        rw (sym (split_one space fields f), g.is, eq-eqb (length (take k d)) 4 q) (ap (λ (n : ℕ). Some (Last n)) (z ∙ ap (λ (i : ℕ). le (take i d)) (sym m)))

-- ---- the letter

not_letter : (w : List ℕ) (ws : List (List ℕ)) → (length w ≡ 1 → ⊥) → None ≡ worded (w ∷ ws)
not_letter [] ws h = refl
not_letter (x ∷ []) ws h = absurd (h refl)
not_letter (x ∷ y ∷ w) ws h = refl

letter_word : (w : List ℕ) (ws : List (List ℕ)) → length w ≡ 1 → by_letter (get_or w 0 0) ws ≡ worded (w ∷ ws)
letter_word [] ws h = absurd (omega (arith, h))
letter_word (x ∷ []) ws h = refl
letter_word (x ∷ y ∷ w) ws h = absurd (omega (arith, h))

no_fields : (w : List ℕ) → None ≡ worded (w ∷ [])
unfolding by_letter
no_fields [] = refl
no_fields (letter ∷ []) = go (eqb letter 110) (eqb letter 100 || eqb letter 120 || eqb letter 121)
  where
    go : (a b : Bool) → None ≡ cond a (last_of []) (cond b (difference_of letter []) (case_of letter []))
    go true b = refl
    go false true = refl
    go false false = refl
no_fields (x ∷ y ∷ w) = refl

module _ (line : List ℕ) where
  -- it is one word
  pub judged_short : cut space line ≡ None → None ≡ judged line
  unfolding judged
  judged_short h = no_fields line ∙ ap worded (split_whole space line h)

  module _ (word fields : List ℕ) (e : cut space line ≡ Some (word, fields)) where
    -- the first word has another length than 1
    pub judged_other : (length word ≡ 1 → ⊥) → None ≡ judged line
    unfolding judged
    judged_other h = not_letter word (split space fields) h ∙ ap worded (split_next space line word fields e)

    -- it is a letter
    pub judged_letter : length word ≡ 1 → by_letter (get_or word 0 0) (split space fields) ≡ judged line
    unfolding judged
    judged_letter h = letter_word word (split space fields) h ∙ ap worded (split_next space line word fields e)
