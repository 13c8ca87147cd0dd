-- Laws of bytes that are compared (`specs/Bytes.antt`). Assumes nothing.
use Rattle.std.specs.Prelude.{None, Some}
use mathlib.Core.Path.{◌≡◌, refl, sym, ap, ◌∙◌}
use mathlib.Core.Bool.{Bool, true, false, cond, ◌&&◌, and_assoc, and-false}
use mathlib.Core.List.{List, [], ◌∷◌, ◌++◌}
use Prim.Native.Nat.{ℕ, zero, suc, ◌+◌, ◌≤◌}
use native.Mathlib.Omega.{arith}
use lib.ListN.{length, take, drop, length-append}
use lib.Seq.{take-length, drop-drop}
use lib.Pointwise.{pointwise}
use lib.Dec.{eqb, eqb-zero-suc, eqb-suc-zero, eqb-suc-suc}
use borrow.Author.Tests.{eq-eqb, eqb-true}
use Rattle.std.specs.Option.{option_eq}
use Rattle.replay.specs.Bytes.{same}
use Rattle.replay.specs.Inside.{starts, matched}

-- ---- what the library's tests say

pub pointwise_same : (xs ys : List ℕ) → pointwise eqb xs ys ≡ same xs ys
unfolding same
pointwise_same [] [] = refl
pointwise_same [] (y ∷ ys) = refl
pointwise_same (x ∷ xs) [] = refl
pointwise_same (x ∷ xs) (y ∷ ys) = ap (λ (b : Bool). eqb x y && b) (pointwise_same xs ys)

pointwise_starts : (xs ys : List ℕ) → pointwise eqb xs (take (length xs) ys) ≡ starts xs ys
unfolding starts
pointwise_starts [] ys = refl
pointwise_starts (x ∷ xs) [] = refl
pointwise_starts (x ∷ xs) (y ∷ ys) = ap (λ (b : Bool). eqb x y && b) (pointwise_starts xs ys)

-- ---- lists

-- a start of two lists joined
pub starts_append : (xs zs ys : List ℕ) → starts (xs ++ zs) ys ≡ (starts xs ys && starts zs (drop (length xs) ys))
unfolding starts
starts_append [] zs ys = refl
starts_append (x ∷ xs) zs [] = refl
starts_append (x ∷ xs) zs (y ∷ ys) = ap (λ (b : Bool). eqb x y && b) (starts_append xs zs ys) ∙ sym (and_assoc (eqb x y) (starts xs ys) (starts zs (drop (length xs) ys)))

-- two lists joined are the same as one that starts with the first, and of which the rest is the second
pub same_append : (xs zs ys : List ℕ) → same (xs ++ zs) ys ≡ (starts xs ys && same zs (drop (length xs) ys))
unfolding starts same
same_append [] zs ys = refl
same_append (x ∷ xs) zs [] = refl
same_append (x ∷ xs) zs (y ∷ ys) = ap (λ (b : Bool). eqb x y && b) (same_append xs zs ys) ∙ sym (and_assoc (eqb x y) (starts xs ys) (same zs (drop (length xs) ys)))

-- the same as the first n bytes of a list
pub same_take : (xs : List ℕ) (n : ℕ) (ys : List ℕ) → n ≤ length ys → same xs (take n ys) ≡ (starts xs ys && eqb (length xs) n)
unfolding starts same
same_take [] zero ys h = refl
same_take [] (suc n) [] h = absurd (omega arith)
same_take [] (suc n) (y ∷ ys) h = sym (eqb-zero-suc n)
same_take (x ∷ xs) zero ys h = sym (rw (eqb-suc-zero (length xs)) (and-false (starts (x ∷ xs) ys)))
same_take (x ∷ xs) (suc n) [] h = absurd (omega arith)
same_take (x ∷ xs) (suc n) (y ∷ ys) h =
    rw (eqb-suc-suc (length xs) n)
    (ap (λ (b : Bool). eqb x y && b) (same_take xs n ys (omega arith)) ∙ sym (and_assoc (eqb x y) (starts xs ys) (eqb (length xs) n)))

pub same_starts : (xs ys : List ℕ) → same xs ys ≡ (starts xs ys && eqb (length xs) (length ys))
same_starts xs ys = ap (same xs) (sym (take-length ys)) ∙ same_take xs (length ys) ys (omega arith)

-- bytes that a list starts with are its first ones
pub starts_take : (xs ys : List ℕ) → starts xs ys ≡ true → (take (length xs) ys ≡ xs) × (length xs ≤ length ys)
unfolding starts
starts_take [] ys h = (refl, omega arith)
starts_take (x ∷ xs) [] h = let z : ◌≡◌ {A = ℕ} 0 1 = cc in absurd (omega arith)
starts_take (x ∷ xs) (y ∷ ys) h = go (eqb x y) refl h (λ k. starts_take xs ys k)
  where
    go : (b : Bool) → eqb x y ≡ b → (b && starts xs ys) ≡ true → (starts xs ys ≡ true → (take (length xs) ys ≡ xs) × (length xs ≤ length ys))
        → (◌≡◌ {A = List ℕ} (y ∷ take (length xs) ys) (x ∷ xs)) × (suc (length xs) ≤ suc (length ys))
    go true e k rec =
        let r = rec k in
        (ap (λ (a : ℕ). a ∷ take (length xs) ys) (sym (eqb-true x y e)) ∙ ap (λ (l : List ℕ). x ∷ l) r.0, omega (arith, r.1))
    go false e k rec = let z : ◌≡◌ {A = ℕ} 0 1 = cc in absurd (omega arith)

-- what `same` says is that the lists are equal
pub same_refl : (xs : List ℕ) → same xs xs ≡ true
unfolding same
same_refl [] = refl
same_refl (x ∷ xs) = rw (eq-eqb x x refl) (same_refl xs)

pub same_is : (xs ys : List ℕ) → same xs ys ≡ true → xs ≡ ys
unfolding same
same_is [] [] h = refl
same_is [] (y ∷ ys) h = let z : ◌≡◌ {A = ℕ} 0 1 = cc in absurd (omega arith)
same_is (x ∷ xs) [] h = let z : ◌≡◌ {A = ℕ} 0 1 = cc in absurd (omega arith)
same_is (x ∷ xs) (y ∷ ys) h = go (eqb x y) refl h (λ k. same_is xs ys k)
  where
    go : (b : Bool) → eqb x y ≡ b → (b && same xs ys) ≡ true → (same xs ys ≡ true → xs ≡ ys) → ◌≡◌ {A = List ℕ} (x ∷ xs) (y ∷ ys)
    go true e k rec = ap (λ (a : ℕ). a ∷ xs) (eqb-true x y e) ∙ ap (λ (l : List ℕ). y ∷ l) (rec k)
    go false e k rec = let z : ◌≡◌ {A = ℕ} 0 1 = cc in absurd (omega arith)

-- ---- a match at a place

-- by what `starts_with` says of what stands there
pub matched_is : (s : List ℕ) (at : ℕ) (bytes there : List ℕ) (b : Bool) → there ≡ drop at s → b ≡ pointwise eqb bytes (take (length bytes) there)
    → matched s at bytes ≡ cond b (Some (at + length bytes)) None
unfolding matched
matched_is s at bytes there b h e =
    let f : b ≡ starts bytes (drop at s) = e ∙ ap (λ (l : List ℕ). pointwise eqb bytes (take (length bytes) l)) h ∙ pointwise_starts bytes (drop at s) in
    ap (λ (x : Bool). cond x (Some (at + length bytes)) None) (sym f)

-- the answer of a match
pub matched_at : (s : List ℕ) (at : ℕ) (bytes : List ℕ) (o : ℕ) → matched s at bytes ≡ Some o → (starts bytes (drop at s) ≡ true) × (o ≡ at + length bytes)
unfolding matched
matched_at s at bytes o h = go (starts bytes (drop at s)) refl h
  where
    go : (b : Bool) → starts bytes (drop at s) ≡ b → cond b (Some (at + length bytes)) None ≡ Some o → (starts bytes (drop at s) ≡ true) × (o ≡ at + length bytes)
    go true e k = (e, cc)
    go false e k = let z : ◌≡◌ {A = ℕ} 0 1 = cc in absurd (omega arith)

pub matched_full : (s : List ℕ) (at : ℕ) (bytes : List ℕ) → matched s at bytes ≡ None → starts bytes (drop at s) ≡ false
unfolding matched
matched_full s at bytes h = go (starts bytes (drop at s)) refl h
  where
    go : (b : Bool) → starts bytes (drop at s) ≡ b → cond b (Some (at + length bytes)) None ≡ None → starts bytes (drop at s) ≡ false
    go true e k = let z : ◌≡◌ {A = ℕ} 0 1 = cc in absurd (omega arith)
    go false e k = e

-- bytes behind bytes that were matched
pub matched_on : (s : List ℕ) (at : ℕ) (a b : List ℕ) (o : ℕ) → matched s at a ≡ Some o → matched s at (a ++ b) ≡ matched s o b
unfolding matched
matched_on s at a b o h =
    let r = matched_at s at a o h in
    rw (starts_append a b (drop at s), r.0, drop-drop (length a) at s, r.1, length-append a b)
    (ap (λ (n : ℕ). cond (starts b (drop (at + length a) s)) (Some n) None) (omega arith))

pub matched_off : (s : List ℕ) (at : ℕ) (a b : List ℕ) → matched s at a ≡ None → matched s at (a ++ b) ≡ None
unfolding matched
matched_off s at a b h = rw (starts_append a b (drop at s), matched_full s at a h)

-- whether a match ends at a place
pub matched_ends : (s : List ℕ) (at : ℕ) (bytes : List ℕ) (n : ℕ) → option_eq eqb (matched s at bytes) (Some n) ≡ (starts bytes (drop at s) && eqb (at + length bytes) n)
unfolding matched
matched_ends s at bytes n = go (starts bytes (drop at s))
  where
    go : (b : Bool) → option_eq eqb (cond b (Some (at + length bytes)) None) (Some n) ≡ (b && eqb (at + length bytes) n)
    go true = refl
    go false = refl

-- a match of the whole
pub same_ends : (a b : List ℕ) → option_eq eqb (matched b 0 a) (Some (length b)) ≡ same a b
same_ends a b = matched_ends b 0 a (length b) ∙ ap (λ (n : ℕ). starts a b && eqb n (length b)) (omega arith) ∙ sym (same_starts a b)

-- bytes behind bytes that were matched, to the end
pub same_on : (s : List ℕ) (at : ℕ) (a b : List ℕ) (o : ℕ) → matched s at a ≡ Some o → same (a ++ b) (drop at s) ≡ same b (drop o s)
same_on s at a b o h = let r = matched_at s at a o h in rw (same_append a b (drop at s), r.0, drop-drop (length a) at s, r.1)

pub same_none : (s : List ℕ) (at : ℕ) (a b : List ℕ) → matched s at a ≡ None → same (a ++ b) (drop at s) ≡ false
same_none s at a b h = rw (same_append a b (drop at s), matched_full s at a h)

-- nothing is the same as nothing
pub same_nil : (ys : List ℕ) → same [] ys ≡ eqb (length ys) 0
unfolding same
same_nil [] = refl
same_nil (y ∷ ys) = sym (eqb-suc-zero (length ys))
