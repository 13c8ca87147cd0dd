-- Claims. What readings with and without a sign say (document 01: "Integer facts hold once over widths 1 to 8"), as claims over every width.
use Rattle.std.specs.Prelude.{ℕ, ◌+◌, ◌-◌, ◌*◌, ◌%◌, ◌^◌, ◌≤◌, ◌<◌, ◌≡◌, List, length, ℤ, pos, neg_ℤ, nat_abs, ◌≤ℤ◌, ◌<ℤ◌}
use Rattle.std.proofs.lemmas.List.Edits.{sets}
use Rattle.std.specs.Int.Signed.{mag}
use Rattle.types.specs.Number.{AllBytes, bytes_of, unsigned_at, signed_at, residue}

-- a signed reading of w bytes lies within -2 ^ (8 w - 1) .. 2 ^ (8 w - 1) - 1
abbrev pub SignedWithin : Type 0
SignedWithin = (s : List ℕ) (at w : ℕ) → AllBytes s → (neg_ℤ (pos (2 ^ (8 * w - 1))) ≤ℤ signed_at s at w) × (signed_at s at w <ℤ pos (2 ^ (8 * w - 1)))

-- and without its sign is at most 2 ^ (8 w - 1)
abbrev pub MagnitudeWithin : Type 0
MagnitudeWithin = (s : List ℕ) (at w : ℕ) → AllBytes s → nat_abs (signed_at s at w) ≤ 2 ^ (8 * w - 1)

-- an unsigned reading is never negative
abbrev pub UnsignedNotNegative : Type 0
UnsignedNotNegative = (s : List ℕ) (at w : ℕ) → pos 0 ≤ℤ pos (unsigned_at s at w)

-- both readings agree to the modulus 2 ^ (8 w)
abbrev pub ReadingsAgree : Type 0
ReadingsAgree = (s : List ℕ) (at w : ℕ) → AllBytes s → residue (2 ^ (8 * w)) (signed_at s at w) ≡ unsigned_at s at w

-- reading what was written gives the number cut to the width
abbrev pub UnsignedPut : Type 0
UnsignedPut = (l : List ℕ) (at w n : ℕ) → at + w ≤ length l → unsigned_at (sets l at (bytes_of w n)) at w ≡ n % 2 ^ (8 * w)

-- and with its sign the number itself, where it lies within the width
abbrev pub SignedPut : Type 0
SignedPut =
    (l : List ℕ) (at w : ℕ) (z : ℤ)
    → 0 < w
    → mag z < 2 ^ (8 * w - 1)
    → at + w ≤ length l
    → signed_at (sets l at (bytes_of w (residue (2 ^ (8 * w)) z))) at w ≡ z
