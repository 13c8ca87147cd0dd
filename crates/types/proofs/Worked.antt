-- Worked values, as two lists under one claim each: antt computes both sides. Assumes nothing.
use Rattle.std.specs.Prelude.{Err, None, Ok, Option, Result, Some}
use Prim.Native.Nat.{ℕ}
use mathlib.Core.Path.{◌≡◌, refl}
use mathlib.Core.List.{List, [], ◌∷◌, ◌++◌}
use lib.IntN.{ℤ, pos, neg_ℤ, nat_abs}
use Rattle.types.specs.Number.{le, unsigned_at, signed_at, signed_of}
use Rattle.types.specs.Ids.{size_of, shape_of, is_signed}
use Rattle.types.specs.Value.{number_at}
use Rattle.types.specs.Extent.{upto, times, by_shape, value_at, series, structure, member, count, text, extent_of}
use Rattle.types.specs.declared.extent.NoExtent.{NoExtent}
use Rattle.types.specs.declared.extent.NoExtent.TheVariants.{Cut, Without}

-- a value: its type, its bytes, and what is said of it
pub record Case (A : Type 0) : Type 0 where
  pub type : ℕ
  pub bytes : List ℕ
  pub said : A

abbrev case : {A : Type 0} → ℕ → List ℕ → A → Case A
case t bs a = record { type = t; bytes = bs; said = a }

abbrev AllSay : {A : Type 0} → (List ℕ → ℕ → A) → List (Case A) → Type 0
AllSay f [] = Unit {0}
AllSay f (c ∷ cs) = (f c.bytes c.type ≡ c.said) × AllSay f cs

abbrev numbers : List (Case (Option ℤ))
numbers =
    case 0x23 (0xff ∷ 0xff ∷ 0xff ∷ 0xff ∷ []) (Some (pos 4294967295))  -- an unsigned counter is never negative
    ∷ case 0x2b (0xff ∷ 0xff ∷ 0xff ∷ 0xff ∷ []) (Some (neg_ℤ (pos 1)))  -- the same bytes of an Int32
    ∷ case 0x28 (0x80 ∷ []) (Some (neg_ℤ (pos 128)))
    ∷ case 0x2a (0x00 ∷ 0x00 ∷ 0x80 ∷ []) (Some (neg_ℤ (pos 8388608)))
    ∷ case 0x1b (0x00 ∷ 0x00 ∷ 0x00 ∷ 0x80 ∷ []) (Some (pos 2147483648))  -- a bitmap is unsigned
    ∷ case 0x39 (0x00 ∷ 0x00 ∷ 0x80 ∷ 0xbf ∷ []) (Some (pos 3212836864))  -- a float by its bits
    ∷ case 0x27 (0x01 ∷ 0x00 ∷ 0x00 ∷ 0x00 ∷ 0x00 ∷ 0x00 ∷ 0x00 ∷ 0x80 ∷ []) (Some (neg_ℤ (pos 9223372036854775807)))  -- 8 bytes keep their pattern
    ∷ case 0x42 (0x01 ∷ 0x41 ∷ []) None
    ∷ []

numbers_right : AllSay (λ s t. number_at s 0 t) numbers
unfolding number_at size_of is_signed unsigned_at signed_at signed_of le
numbers_right = (refl, (refl, (refl, (refl, (refl, (refl, (refl, (refl, tt))))))))

-- without its sign, Int64's least is 2^63
least_int64 : nat_abs (signed_at (0x00 ∷ 0x00 ∷ 0x00 ∷ 0x00 ∷ 0x00 ∷ 0x00 ∷ 0x00 ∷ 0x80 ∷ []) 0 8) ≡ 9223372036854775808
unfolding signed_at signed_of unsigned_at le
least_int64 = refl

-- the head of an array of one array
abbrev one_array : List ℕ
one_array = 0x48 ∷ 0x01 ∷ 0x00 ∷ []

-- seven of them, one in the other
abbrev seven : List ℕ
seven = one_array ++ one_array ++ one_array ++ one_array ++ one_array ++ one_array ++ one_array

abbrev extents : List (Case (Result ℕ NoExtent))
extents =
    case 0x21 (0x34 ∷ 0x12 ∷ 0xff ∷ []) (Ok 2)
    ∷ case 0x21 (0x34 ∷ []) (Err Cut)
    ∷ case 0x00 [] (Ok 0)
    ∷ case 0x42 (0x02 ∷ 0x61 ∷ 0x62 ∷ 0x09 ∷ []) (Ok 3)
    ∷ case 0x42 (0xff ∷ 0x01 ∷ []) (Ok 1)
    ∷ case 0x43 (0xff ∷ 0xff ∷ []) (Ok 2)
    ∷ case 0x48 (0x21 ∷ 0x02 ∷ 0x00 ∷ 0x01 ∷ 0x00 ∷ 0x02 ∷ 0x00 ∷ []) (Ok 7)
    ∷ case 0x48 (0x99 ∷ 0xff ∷ 0xff ∷ []) (Ok 3)  -- count ffff has no elements
    ∷ case 0x50 (0x99 ∷ 0x00 ∷ 0x00 ∷ []) (Ok 3)  -- with no elements their type is not examined
    ∷ case 0x48 (0x99 ∷ 0x01 ∷ 0x00 ∷ 0x00 ∷ []) (Err Without)
    ∷ case 0x48 (0x99 ∷ 0x01 ∷ []) (Err Cut)  -- the cut head is met before the unknown type
    ∷ case 0x48 (0x00 ∷ 0xfe ∷ 0xff ∷ []) (Ok 3)  -- 65534 elements without a byte
    ∷ case 0x4c (0x02 ∷ 0x00 ∷ 0x20 ∷ 0x05 ∷ 0x48 ∷ 0x4c ∷ 0x01 ∷ 0x00 ∷ 0x01 ∷ 0x00 ∷ 0x10 ∷ 0x01 ∷ []) (Ok 12)  -- a member that is an array of structures
    ∷ case 0x4c (0x02 ∷ 0x00 ∷ 0x21 ∷ 0x05 ∷ []) (Err Cut)
    ∷ case 0xff (0x01 ∷ []) (Err Without)
    ∷ case 0x48 (seven ++ seven ++ 0x20 ∷ 0x00 ∷ 0x00 ∷ []) (Ok 45)  -- 15 levels
    ∷ case 0x48 (seven ++ seven ++ one_array ++ 0x20 ∷ 0x00 ∷ 0x00 ∷ []) (Err Without)  -- 16 levels
    ∷ []

extents_right : AllSay (λ s t. extent_of s 0 t) extents
unfolding upto times by_shape value_at series structure member count text shape_of size_of unsigned_at le
extents_right = (refl, (refl, (refl, (refl, (refl, (refl, (refl, (refl, (refl, (refl, (refl, (refl, (refl, (refl, (refl, (refl, (refl, tt)))))))))))))))))
