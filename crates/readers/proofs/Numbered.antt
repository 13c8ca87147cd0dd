-- The number of a whole value is that of its bytes alone, wherever they stand; so the number of an attribute of a store is that of its
-- value as it is sent. Assumes nothing.
use Rattle.std.specs.Prelude.{None, Option, Some}
use mathlib.Core.Path.{◌≡◌, refl, sym, ap, ◌∙◌}
use mathlib.Core.Bool.{Bool, true, false, cond}
use mathlib.Core.List.{List}
use Prim.Native.Nat.{ℕ, ◌≤◌, min}
use native.Mathlib.Omega.{arith}
use lib.ListN.{length, take, drop, length-take}
use lib.Seq.{take-take}
use lib.Dec.{leb}
use lib.IntN.{pos}
use borrow.Author.Tests.{leb-true, leb-false}
use Rattle.types.specs.Number.{le, unsigned_at, signed_of, signed_at}
use Rattle.types.specs.Ids.{size_of, is_signed}
use Rattle.types.specs.Value.{plain_at, number_by, number_at}
use Rattle.types.proofs.Extents.{extent_fixed, upto_end}
use Rattle.store.specs.declared.lookup.Attribute.{Attribute}
use Rattle.store.specs.Contents.{find_of}
use Rattle.store.specs.Layout.{is_store}
use Rattle.store.specs.Value.{used_of, value_of, numbered_by, number_in, number_of}
use Rattle.readers.specs.Claims.Sendable.{Whole}
use Rattle.readers.proofs.Wholes.{found_whole}

-- n bytes at a place, and what they say alone
module _ (s : List ℕ) (p n : ℕ) where
  abbrev own : List ℕ
  own = take n (drop p s)

  -- no more bytes count than there are of a fixed size
  unsigned_alone : (w : ℕ) → w ≤ n → unsigned_at s p w ≡ unsigned_at own 0 w
  unfolding unsigned_at
  unsigned_alone w h = ap le (sym (take-take w n (drop p s) h))

  signed_alone : (w : ℕ) → w ≤ n → signed_at s p w ≡ signed_at own 0 w
  unfolding signed_at
  signed_alone w h = ap (signed_of w) (unsigned_alone w h)

  -- 8 bytes keep their pattern
  plain_alone : (w : ℕ) → w ≤ n → w ≤ 8 → plain_at s p w ≡ plain_at own 0 w
  plain_alone w h k = go (leb w 7) refl
    where
      go : (b : Bool) → leb w 7 ≡ b → cond b (pos (unsigned_at s p w)) (signed_at s p 8) ≡ cond b (pos (unsigned_at own 0 w)) (signed_at own 0 8)
      go true e = ap pos (unsigned_alone w h)
      go false e = signed_alone 8 (omega (arith, leb-false w 7 e))

  by_width : (signed : Bool) (w : ℕ) → w ≤ n → number_by (Some w) signed s p ≡ number_by (Some w) signed own 0
  by_width signed w h = go (leb w 8) refl signed
    where
      go : (b : Bool) → leb w 8 ≡ b → (signed : Bool)
          → cond b (Some (cond signed (signed_at s p w) (plain_at s p w))) None ≡ cond b (Some (cond signed (signed_at own 0 w) (plain_at own 0 w))) None
      go true e true = ap Some (signed_alone w h)
      go true e false = ap Some (plain_alone w h (leb-true w 8 e))
      go false e signed = refl

  -- a whole value of a fixed size has that many bytes
  width_there : (t w : ℕ) → size_of t ≡ Some w → Whole t own → w ≤ n
  width_there t w k h =
      let e = upto_end own 0 w (length own) (sym (extent_fixed own 0 t w k) ∙ h) in
      let m : length own ≡ min n (length (drop p s)) = length-take n (drop p s) in
      omega (arith, e)

  pub number_alone : (t : ℕ) → Whole t own → number_at s p t ≡ number_at own 0 t
  unfolding number_at
  number_alone t h = go (size_of t) refl
    where
      go : (z : Option ℕ) → size_of t ≡ z → number_by z (is_signed t) s p ≡ number_by z (is_signed t) own 0
      go (Some w) e = by_width (is_signed t) w (width_there t w e h)
      go None e = refl

-- ---- an attribute of a store

pub found_number : (form : ℕ) (s : List ℕ) (name : ℕ) (a : Attribute) → is_store form s ≡ true → find_of form s name ≡ Some a
    → numbered_by (number_at (value_of s a) 0 a.type_id.0) ≡ number_of form s name
unfolding number_of value_of
found_number form s name a h e =
    sym (ap numbered_by (number_alone s a.offset (used_of s a) a.type_id.0 (found_whole form s name a h e)))
    ∙ sym (ap (λ (f : Option Attribute). number_in s f) e)
    ∙ sym (simp h)
