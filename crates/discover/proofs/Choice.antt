-- Which attributes are listed, and when these are all. Assumes nothing.
use mathlib.Core.Path.{◌≡◌, refl, sym, ap, ◌∙◌}
use mathlib.Core.Logic.{◌↔◌}
use mathlib.Core.Bool.{Bool, true, false, cond}
use mathlib.Core.List.{List, [], ◌∷◌}
use Prim.Native.Nat.{ℕ, suc, ◌+◌, ◌-◌, ◌*◌, ◌/◌, ◌≤◌, ◌<◌, min}
use native.Mathlib.Omega.{arith}
use lib.ListN.{length, take, length-take}
use lib.Seq.{take_all}
use lib.Dec.{eqb}
use borrow.Author.Tests.{le-leb, lt-leb, eqb-true, eq-eqb, ne_eqb}
use Rattle.types.specs.Number.{bytes_of}
use Rattle.frame.specs.Encoded.{encode_all}
use Rattle.store.specs.declared.lookup.Attribute.{Attribute}
use Rattle.store.specs.Contents.{count_of, attribute_at, attributes_from, attributes_of}
use Rattle.store.proofs.Scan.{from_next, from_end}
use Rattle.discover.specs.Discover.{Discovered, encode, at_or_after, listed, complete_byte, discovered_all}
use Rattle.discover.specs.Inside.{records_of}

-- ---- the scan from number i on

module _ (start : ℕ) (a : Attribute) (more : List Attribute) where
  after_take : start ≤ a.name.0 → at_or_after start (a ∷ more) ≡ a ∷ at_or_after start more
  unfolding at_or_after
  after_take h = ap (λ (b : Bool). cond b (a ∷ at_or_after start more) (at_or_after start more)) (le-leb start a.name.0 h)

  after_skip : a.name.0 < start → at_or_after start (a ∷ more) ≡ at_or_after start more
  unfolding at_or_after
  after_skip h = ap (λ (b : Bool). cond b (a ∷ at_or_after start more) (at_or_after start more)) (lt-leb start a.name.0 h)

abbrev pub onward : List ℕ → ℕ → ℕ → ℕ → List Attribute
onward s n start i = at_or_after start (attributes_from 8 s (n - i) i)

module _ (s : List ℕ) (n start : ℕ) where
  -- the scan from the start is the definition's
  pub onward_all : n ≡ count_of s → onward s n start 0 ≡ at_or_after start (attributes_of 8 s)
  unfolding attributes_of
  onward_all e = let z : n - 0 ≡ count_of s = omega arith in ap (λ (k : ℕ). at_or_after start (attributes_from 8 s k 0)) z

  module _ (i : ℕ) where
    -- none is left
    pub onward_end : n ≤ i → onward s n start i ≡ []
    unfolding at_or_after
    onward_end h = ap (at_or_after start) (from_end 8 s n i h)

    module _ (a : Attribute) (h : i < n) (is : a ≡ attribute_at 8 s i) where
      next : onward s n start i ≡ at_or_after start (a ∷ attributes_from 8 s (n - (i + 1)) (i + 1))
      next = ap (at_or_after start) (from_next 8 s n i h ∙ ap (λ (x : Attribute). x ∷ attributes_from 8 s (n - (i + 1)) (i + 1)) (sym is))

      -- the next one is at or after the start
      pub onward_take : start ≤ a.name.0 → onward s n start i ≡ a ∷ onward s n start (i + 1)
      onward_take k = next ∙ after_take start a (attributes_from 8 s (n - (i + 1)) (i + 1)) k

      -- or it is before it
      pub onward_skip : a.name.0 < start → onward s n start i ≡ onward s n start (i + 1)
      onward_skip k = next ∙ after_skip start a (attributes_from 8 s (n - (i + 1)) (i + 1)) k

-- ---- how many

length_discovered : (l : List Attribute) → length (discovered_all l) ≡ length l
unfolding discovered_all
length_discovered [] = refl
length_discovered (a ∷ l) = ap suc (length_discovered l)

-- a record takes three bytes
pub encode_all_length : (rs : List Discovered) → length (encode_all encode rs) ≡ 3 * length rs
unfolding encode_all encode bytes_of
encode_all_length [] = refl
encode_all_length (r ∷ rs) = let h : length (encode_all encode rs) ≡ 3 * length rs = encode_all_length rs in omega arith

pub records_length : (l : List Attribute) → length (records_of l) ≡ 3 * length l
records_length l = encode_all_length (discovered_all l) ∙ ap (λ (k : ℕ). 3 * k) (length_discovered l)

-- what is listed fits the room
pub listed_within : (room maximum : ℕ) (all : List Attribute) → length (records_of (listed 3 room maximum all)) ≤ room
unfolding listed
listed_within room maximum all =
    let k : ℕ = min maximum (room / 3) in
    let n : length (take k all) ≡ min k (length all) = length-take k all in
    omega (arith, records_length (take k all))

-- ---- the complete byte

module _ (all some : List Attribute) where
  pub complete_one : length some ≡ length all → 1 ≡ complete_byte all some
  unfolding complete_byte
  complete_one e = ap (λ (b : Bool). cond b 1 0) (sym (eq-eqb (length some) (length all) e))

  pub complete_zero : (length some ≡ length all → ⊥) → 0 ≡ complete_byte all some
  unfolding complete_byte
  complete_zero e = ap (λ (b : Bool). cond b 1 0) (sym (ne_eqb (length some) (length all) e))

  complete_is : complete_byte all some ≡ 1 → length some ≡ length all
  unfolding complete_byte
  complete_is e = go (eqb (length some) (length all)) refl e
    where
      go : (b : Bool) → eqb (length some) (length all) ≡ b → ◌≡◌ {A = ℕ} (cond b 1 0) 1 → length some ≡ length all
      go true q k = eqb-true (length some) (length all) q
      go false q k = absurd (omega arith)

take_whole : (n : ℕ) (l : List Attribute) → length (take n l) ≡ length l → take n l ≡ l
take_whole n l e = let m : length (take n l) ≡ min n (length l) = length-take n l in take_all n l (omega arith)

-- the byte is 1 exactly when none at or after the start is left out
pub complete_exact : (size room maximum : ℕ) (all : List Attribute) → (complete_byte all (listed size room maximum all) ≡ 1) ↔ (listed size room maximum all ≡ all)
unfolding listed
complete_exact size room maximum all =
    let some : List Attribute = take (min maximum (room / size)) all in
    (λ e. take_whole (min maximum (room / size)) all (complete_is all some e), λ e. sym (complete_one all some (ap length e)))
