-- Whether entries are written, one entry after the other. Assumes nothing.
use Prim.Native.Nat.{ℕ, zero, suc, ◌+◌, ◌≤◌, ◌<◌}
use mathlib.Core.Path.{◌≡◌, refl, sym, ap, ◌∙◌}
use mathlib.Core.Bool.{Bool, true, false, cond, ◌&&◌, and-false}
use mathlib.Core.List.{List, [], ◌∷◌, ◌++◌}
use native.Mathlib.Omega.{arith}
use native.Mathlib.Numerals.{add-one}
use lib.ListN.{length, get_or, take, drop}
use lib.Seq.{take-suc, take_all, split_at, length-take-le}
use lib.Dec.{eqb}
use borrow.Author.Tests.{eqb-true, eq-eqb}
use Rattle.reporting.specs.declared.entry.Key.{Key}
use Rattle.reporting.specs.declared.entry.Entry.{Entry}
use Rattle.reporting.specs.Entries.{matches, find_l, distinct}
use Rattle.reporting.specs.Wish.{wish}
use Rattle.reporting.proofs.Carriage.{both}
use Rattle.reporting.proofs.Restored.{same_own, same_other, absent}
use Rattle.saved.specs.Saved.{is_set, all_set, is_savable}

-- ---- finding a key among the first entries

-- a key that is found first at i is not among the i before
find_take : (k : Key) (l : List Entry) (i : ℕ) → i ≤ length l → find_l k l ≡ i → find_l k (take i l) ≡ i
find_take k l zero h f = refl
find_take k [] (suc i) h f = absurd (omega arith)
find_take k (e ∷ l) (suc i) h f = go (matches k e) f (find_take k l i (omega arith))
  where
    go : (b : Bool) → cond b 0 (suc (find_l k l)) ≡ suc i → (find_l k l ≡ i → find_l k (take i l) ≡ i) → cond b 0 (suc (find_l k (take i l))) ≡ suc i
    go true g rec = absurd (omega arith)
    go false g rec = ap suc (rec (omega arith))

-- an entry's key that is not before it is found at its place
find_own : (p : List Entry) (e : Entry) (es : List Entry) → find_l e.key p ≡ length p → find_l e.key (p ++ (e ∷ es)) ≡ length p
find_own [] e es f = ap (λ (b : Bool). cond b 0 (suc (find_l e.key es))) (same_own e.key)
find_own (q ∷ p) e es f = go (matches e.key q) f (find_own p e es)
  where
    go : (b : Bool) → cond b 0 (suc (find_l e.key p)) ≡ suc (length p) → (find_l e.key p ≡ length p → find_l e.key (p ++ (e ∷ es)) ≡ length p) → cond b 0 (suc (find_l e.key (p ++ (e ∷ es)))) ≡ suc (length p)
    go true g rec = absurd (omega arith)
    go false g rec = ap suc (rec (omega arith))

-- a key that is neither before the last entry nor its own
find_none : (k : Key) (p : List Entry) (e : Entry) → find_l k p ≡ length p → matches k e ≡ false → find_l k (p ++ (e ∷ [])) ≡ length (p ++ (e ∷ []))
find_none k [] e f m = ap (λ (b : Bool). cond b 0 1) m
find_none k (q ∷ p) e f m = go (matches k q) f (λ g. find_none k p e g m)
  where
    go : (b : Bool) → cond b 0 (suc (find_l k p)) ≡ suc (length p) → (find_l k p ≡ length p → find_l k (p ++ (e ∷ [])) ≡ length (p ++ (e ∷ []))) → cond b 0 (suc (find_l k (p ++ (e ∷ [])))) ≡ suc (length (p ++ (e ∷ [])))
    go true g rec = absurd (omega arith)
    go false g rec = ap suc (rec (omega arith))

-- ---- one entry more

distinct_more : (p : List Entry) (e : Entry) → distinct p ≡ true → find_l e.key p ≡ length p → distinct (p ++ (e ∷ [])) ≡ true
unfolding distinct
distinct_more [] e d f = refl
distinct_more (q ∷ p) e d f =
    let b = both (eqb (find_l q.key p) (length p)) (distinct p) d in
    go (matches e.key q) refl f b.0 (distinct_more p e b.1)
  where
    go : (b : Bool) → matches e.key q ≡ b → cond b 0 (suc (find_l e.key p)) ≡ suc (length p) → eqb (find_l q.key p) (length p) ≡ true
        → (find_l e.key p ≡ length p → distinct (p ++ (e ∷ [])) ≡ true) → (eqb (find_l q.key (p ++ (e ∷ []))) (length (p ++ (e ∷ []))) && distinct (p ++ (e ∷ []))) ≡ true
    go true m g a rec = absurd (omega arith)
    go false m g a rec =
        let n : find_l q.key (p ++ (e ∷ [])) ≡ length (p ++ (e ∷ [])) = find_none q.key p e (eqb-true _ _ a) (same_other q.key e.key m) in
        λ i. eq-eqb _ _ n i && rec (omega arith) i

set_more : (p : List Entry) (e : Entry) → all_set p ≡ true → is_set (wish e.config) ≡ true → all_set (p ++ (e ∷ [])) ≡ true
unfolding all_set
set_more [] e a s = λ i. s i && true
set_more (q ∷ p) e a s =
    let b = both (is_set (wish q.config)) (all_set p) a in
    λ i. b.0 i && set_more p e b.1 s i

-- an entry that no record sets, anywhere
not_set : (p : List Entry) (e : Entry) (es : List Entry) → is_set (wish e.config) ≡ false → all_set (p ++ (e ∷ es)) ≡ false
unfolding all_set
not_set [] e es s = λ i. s i && all_set es
not_set (q ∷ p) e es s = ap (λ (b : Bool). is_set (wish q.config) && b) (not_set p e es s) ∙ and-false (is_set (wish q.config))

-- an entry whose key stands before it
not_first : (p : List Entry) (e : Entry) (es : List Entry) → (find_l e.key (p ++ (e ∷ es)) ≡ length p → ⊥) → distinct (p ++ (e ∷ es)) ≡ false
not_first p e es h = go (distinct (p ++ (e ∷ es))) refl
  where
    go : (b : Bool) → distinct (p ++ (e ∷ es)) ≡ b → b ≡ false
    go false d = refl
    go true d = absurd (h (find_own p e es (absent p e es d)))

-- ---- what the loop holds: the first i entries are written

module _ (l : List Entry) (i : ℕ) (d e : Entry) (h : i < length l) (is : e ≡ get_or l i d) where
  pub here : take (i + 1) l ≡ take i l ++ (e ∷ [])
  here = ap (λ (j : ℕ). take j l) (add-one i) ∙ take-suc l i d h ∙ ap (λ (x : Entry). take i l ++ (x ∷ [])) (sym is)

  whole : l ≡ take i l ++ (e ∷ drop (suc i) l)
  whole = split_at l i d h ∙ ap (λ (x : Entry). take i l ++ (x ∷ drop (suc i) l)) (sym is)

  before : length (take i l) ≡ i
  before = length-take-le i l (omega arith)

  pub savable_more : is_savable (take i l) ≡ true → is_set (wish e.config) ≡ true → find_l e.key l ≡ i → is_savable (take (i + 1) l) ≡ true
  savable_more s a f =
      let b = both (distinct (take i l)) (all_set (take i l)) s in
      let n : find_l e.key (take i l) ≡ length (take i l) = find_take e.key l i (omega arith) f ∙ sym before in
      ap is_savable here ∙ (λ j. distinct_more (take i l) e b.0 n j && set_more (take i l) e b.1 a j)

  pub savable_not_set : is_set (wish e.config) ≡ false → false ≡ is_savable l
  savable_not_set a = sym (ap is_savable whole ∙ ap (λ (b : Bool). distinct (take i l ++ (e ∷ drop (suc i) l)) && b) (not_set (take i l) e (drop (suc i) l) a) ∙ and-false (distinct (take i l ++ (e ∷ drop (suc i) l))))

  pub savable_twice : (find_l e.key l ≡ i → ⊥) → false ≡ is_savable l
  savable_twice f =
      let n : find_l e.key (take i l ++ (e ∷ drop (suc i) l)) ≡ length (take i l) → ⊥ = λ q. f (ap (find_l e.key) whole ∙ q ∙ before) in
      sym (ap is_savable whole ∙ ap (λ (b : Bool). b && all_set (take i l ++ (e ∷ drop (suc i) l))) (not_first (take i l) e (drop (suc i) l) n))

pub savable_none : (l : List Entry) → is_savable (take 0 l) ≡ true
unfolding distinct all_set
savable_none l = refl

pub savable_all : (l : List Entry) (i : ℕ) → length l ≤ i → is_savable (take i l) ≡ true → true ≡ is_savable l
savable_all l i h s = sym (sym (ap is_savable (take_all i l h)) ∙ s)
