-- Laws of the scan for a name: one attribute after the other. Assumes nothing.
use Rattle.std.specs.Prelude.{Option, Some, None}
use Prim.Native.Nat.{ℕ, zero, suc, ◌+◌, ◌-◌, ◌≤◌, ◌<◌}
use mathlib.Core.Path.{◌≡◌, refl, ap, sym, ◌∙◌}
use mathlib.Core.List.{List, [], ◌∷◌}
use native.Mathlib.Omega.{arith}
use native.Mathlib.Numerals.{add-one}
use borrow.Author.Tests.{eq-eqb, ne_eqb}
use Rattle.store.specs.declared.lookup.Attribute.{Attribute}
use Rattle.store.specs.Contents.{count_of, attribute_at, attributes_from, attributes_of, find_in, find_of}

-- the attributes from number i on: the next one and those behind it, or none
pub from_next : (form : ℕ) (s : List ℕ) (n i : ℕ) → i < n → attributes_from form s (n - i) i ≡ attribute_at form s i ∷ attributes_from form s (n - (i + 1)) (i + 1)
unfolding attributes_from
from_next form s n i h =
    let e : n - i ≡ suc (n - (i + 1)) = omega arith in
    rw (e, add-one i) refl

pub from_end : (form : ℕ) (s : List ℕ) (n i : ℕ) → n ≤ i → attributes_from form s (n - i) i ≡ []
unfolding attributes_from
from_end form s n i h =
    let e : n - i ≡ 0 = omega arith in
    rw e refl

-- the scan from number i on
abbrev pub scan : ℕ → List ℕ → ℕ → ℕ → ℕ → Option Attribute
scan form s n i name = find_in (attributes_from form s (n - i) i) name

module _ (form : ℕ) (s : List ℕ) (n i name : ℕ) where
  pub scan_hit : i < n → (attribute_at form s i).name.0 ≡ name → scan form s n i name ≡ Some (attribute_at form s i)
  unfolding find_in
  scan_hit h e = rw (from_next form s n i h, eq-eqb (attribute_at form s i).name.0 name e) refl

  pub scan_miss : i < n → ((attribute_at form s i).name.0 ≡ name → ⊥) → scan form s n i name ≡ scan form s n (i + 1) name
  unfolding find_in
  scan_miss h e = rw (from_next form s n i h, ne_eqb (attribute_at form s i).name.0 name e) refl

  pub scan_end : n ≤ i → scan form s n i name ≡ None
  unfolding find_in
  scan_end h = rw (from_end form s n i h) refl

-- the scan from the start is the lookup
pub scan_all : (form : ℕ) (s : List ℕ) (n name : ℕ) → n ≡ count_of s → scan form s n 0 name ≡ find_of form s name
unfolding find_of attributes_of
scan_all form s n name e = let z : n - 0 ≡ count_of s = omega arith in ap (λ k. find_in (attributes_from form s k 0) name) z

-- the first of a name among n attributes, or n
module _ (s : List ℕ) (n name : ℕ) (e : n ≡ count_of s) where
  -- what does not have the name is passed
  passed : (i : ℕ) → i ≤ n → ((k : ℕ) → k < i → (attribute_at 8 s k).name.0 ≡ name → ⊥) → find_of 8 s name ≡ scan 8 s n i name
  passed zero h none = sym (scan_all 8 s n name e)
  passed (suc i) h none = passed i (omega arith) (λ k l. none k (omega arith)) ∙ scan_miss 8 s n i name h (none i (omega arith)) ∙ ap (λ k. scan 8 s n k name) (add-one i)

  module _ (i : ℕ) (within : i ≤ n) (none : (k : ℕ) → k < i → (attribute_at 8 s k).name.0 ≡ name → ⊥) where
    pub none_there : n ≤ i → None ≡ find_of 8 s name
    none_there h = sym (passed i within none ∙ scan_end 8 s n i name h)

    pub one_there : (a : Attribute) → i < n → (attribute_at 8 s i).name.0 ≡ name → a ≡ attribute_at 8 s i → Some a ≡ find_of 8 s name
    one_there a h m q = ap Some q ∙ sym (passed i within none ∙ scan_hit 8 s n i name h m)
