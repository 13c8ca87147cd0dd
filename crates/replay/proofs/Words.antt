-- Laws of a text and its words (`specs/Line.antt`). Assumes nothing.
use Rattle.std.specs.Prelude.{None, Option, Some}
use mathlib.Core.Path.{◌≡◌, refl, sym, ap, ◌∙◌}
use mathlib.Core.Bool.{Bool, true, false, not, cond, ◌||◌, true≢false, false≢true}
use mathlib.Core.List.{List, [], ◌∷◌}
use Prim.Native.Nat.{ℕ, suc, ◌+◌, ◌<◌}
use native.Mathlib.Omega.{arith}
use native.Mathlib.Numerals.{one-add}
use lib.ListN.{length, take, drop}
use lib.Dec.{ltb, eqb}
use borrow.Author.Tests.{lt-ltb}
use Rattle.std.proofs.lemmas.Bool.Decides.{nat_tests}
use Rattle.std.specs.Option.{option_map}
use Rattle.std.specs.List.{list_any, position, position_or_len}
use Rattle.replay.specs.Line.{onto, split}
use Rattle.replay.specs.Inside.{before, cut}

-- ---- a text in two parts

-- the parts round a place
abbrev pub round : List ℕ → ℕ → List ℕ × List ℕ
round s n = (take n s, drop (suc n) s)

cut_is : (m : ℕ) (s : List ℕ) → cond (ltb (position_or_len (λ b. eqb b m) s) (length s)) (Some (round s (position_or_len (λ b. eqb b m) s))) None ≡ cut m s
unfolding cut
cut_is m [] = refl
cut_is m (b ∷ s) = go (eqb b m) (position_or_len (λ b. eqb b m) s) (cut_is m s)
  where
    later : (n : ℕ) (e : Bool) → cond e (Some (round (b ∷ s) (suc n))) None ≡ before b (cond e (Some (round s n)) None)
    later n true = refl
    later n false = refl

    shift : (n k : ℕ) → ltb (suc n) (suc k) ≡ ltb n k
    shift n k = grind (arith, nat_tests)

    go : (e : Bool) (n : ℕ) → cond (ltb n (length s)) (Some (round s n)) None ≡ cut m s
        → cond (ltb (cond (not e) (1 + n) 0) (suc (length s))) (Some (round (b ∷ s) (cond (not e) (1 + n) 0))) None ≡ cond e (Some ([], s)) (before b (cut m s))
    go true n rec = rw (lt-ltb 0 (suc (length s)) (omega arith)) refl
    go false n rec = rw (one-add n, shift n (length s)) (later n (ltb n (length s)) ∙ ap (before b) rec)

-- as a search tells the place
pub cut_found : (m : ℕ) (s : List ℕ) (r : Option ℕ) → r ≡ position (λ b. eqb b m) s → option_map (round s) r ≡ cut m s
cut_found m s r e = ap (option_map (round s)) e ∙ go (ltb n (length s)) ∙ cut_is m s
  where
    n : ℕ
    n = position_or_len (λ b. eqb b m) s

    go : (b : Bool) → option_map (round s) (cond b (Some n) None) ≡ cond b (Some (round s n)) None
    go true = refl
    go false = refl

-- what stands behind the mark is shorter than the text
pub cut_less : (m : ℕ) (s word rest : List ℕ) → cut m s ≡ Some (word, rest) → length rest < length s
unfolding cut
cut_less m [] word rest h = let z : ◌≡◌ {A = ℕ} 0 1 = cc in absurd (omega arith)
cut_less m (b ∷ s) word rest h = go (eqb b m) (cut m s) (λ w k. cut_less m s w rest k) h
  where
    behind : Option (List ℕ × List ℕ) → List ℕ
    behind None = []
    behind (Some p) = p.1

    go : (e : Bool) (o : Option (List ℕ × List ℕ)) → ((w : List ℕ) → o ≡ Some (w, rest) → length rest < length s) → cond e (Some ([], s)) (before b o) ≡ Some (word, rest) → length rest < suc (length s)
    go true o rec k = let q : s ≡ rest = ap behind k in let l = ap length q in omega (arith, l)
    go false None rec k = let z : ◌≡◌ {A = ℕ} 0 1 = cc in absurd (omega arith)
    go false (Some p) rec k = let q : p.1 ≡ rest = ap behind k in let l = rec p.0 (ap (λ (r : List ℕ). Some (p.0, r)) q) in omega (arith, l)

-- ---- its words

-- the words by the two parts
abbrev words : ℕ → List ℕ → Option (List ℕ × List ℕ) → List (List ℕ)
words m s None = s ∷ []
words m s (Some p) = p.0 ∷ split m p.1

split_cut : (m : ℕ) (s : List ℕ) → words m s (cut m s) ≡ split m s
unfolding cut split
split_cut m [] = refl
split_cut m (b ∷ s) = go (eqb b m) (split_cut m s)
  where
    later : (o : Option (List ℕ × List ℕ)) → words m (b ∷ s) (before b o) ≡ onto b (words m s o)
    later None = refl
    later (Some p) = refl

    go : (e : Bool) → words m s (cut m s) ≡ split m s → words m (b ∷ s) (cond e (Some ([], s)) (before b (cut m s))) ≡ cond e ([] ∷ split m s) (onto b (split m s))
    go true rec = refl
    go false rec = later (cut m s) ∙ ap (onto b) rec

-- a text without a mark is one word
pub split_whole : (m : ℕ) (s : List ℕ) → cut m s ≡ None → s ∷ [] ≡ split m s
split_whole m s e = ap (words m s) (sym e) ∙ split_cut m s

-- the words are the first one and those of what stands behind it
pub split_next : (m : ℕ) (s word rest : List ℕ) → cut m s ≡ Some (word, rest) → word ∷ split m rest ≡ split m s
split_next m s word rest e = ap (words m s) (sym e) ∙ split_cut m s

-- there is always a word
pub record Word (ws : List (List ℕ)) : Type 0 where
  pub first : List ℕ
  pub others : List (List ℕ)
  pub is : ws ≡ first ∷ others

pub split_some : (m : ℕ) (s : List ℕ) → Word (split m s)
unfolding split
split_some m [] = record { first = []; others = []; is = refl }
split_some m (b ∷ s) = go (eqb b m) (split_some m s)
  where
    go : (e : Bool) → Word (split m s) → Word (cond e ([] ∷ split m s) (onto b (split m s)))
    go true w = record { first = []; others = split m s; is = refl }
    go false w = record { first = b ∷ w.first; others = w.others; is = ap (onto b) w.is }

-- a word and at least one more
pub record Two (ws : List (List ℕ)) : Type 0 where
  pub first : List ℕ
  pub second : List ℕ
  pub others : List (List ℕ)
  pub is : ws ≡ first ∷ second ∷ others

-- what it says whether a mark stands in a text
pub split_one : (m : ℕ) (s : List ℕ) → list_any (λ b. eqb b m) s ≡ false → s ∷ [] ≡ split m s
unfolding split
split_one m [] h = refl
split_one m (b ∷ s) h = go (eqb b m) h (λ k. split_one m s k)
  where
    go : (e : Bool) → (e || list_any (λ b. eqb b m) s) ≡ false → (list_any (λ b. eqb b m) s ≡ false → s ∷ [] ≡ split m s) → (b ∷ s) ∷ [] ≡ cond e ([] ∷ split m s) (onto b (split m s))
    go true k rec = absurd (true≢false k)
    go false k rec = ap (onto b) (rec k)

pub split_two : (m : ℕ) (s : List ℕ) → list_any (λ b. eqb b m) s ≡ true → Two (split m s)
unfolding split
split_two m [] h = absurd (false≢true h)
split_two m (b ∷ s) h = go (eqb b m) h (λ k. split_two m s k)
  where
    go : (e : Bool) → (e || list_any (λ b. eqb b m) s) ≡ true → (list_any (λ b. eqb b m) s ≡ true → Two (split m s)) → Two (cond e ([] ∷ split m s) (onto b (split m s)))
    go true k rec = let w = split_some m s in record { first = []; second = w.first; others = w.others; is = ap (λ (ws : List (List ℕ)). [] ∷ ws) w.is }
    go false k rec = let w = rec k in record { first = b ∷ w.first; second = w.second; others = w.others; is = ap (onto b) w.is }
