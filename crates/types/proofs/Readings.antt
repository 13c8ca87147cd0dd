-- What readings with and without a sign say, once over every width. Assumes nothing.
use Prim.Native.Nat.{ℕ, zero, suc, ◌+◌, ◌-◌, ◌*◌, ◌/◌, ◌%◌, ◌^◌, ◌≤◌, ◌<◌}
use mathlib.Core.Path.{◌≡◌, refl, ap, sym, ◌∙◌, subst}
use mathlib.Core.Bool.{Bool, true, false}
use mathlib.Core.List.{◌∷◌, ◌++◌, append_assoc}
use native.Mathlib.Omega.{arith}
use native.Mathlib.Nat.{mod-lt, mod-eq_of_lt}
use lib.Arith.{comp_comp}
use lib.ListN.{length, take, drop}
use lib.Seq.{sets-eq, drop_at, take_at, length-take-le}
use lib.Pow.{pow_pos}
use lib.Dec.{ltb, le→leb, lt→ltb}
use lib.IntN.{ℤ, pos, negsuc, neg_ℤ}
use lib.Signed.{mag, ◌≤ℤ◌, ◌<ℤ◌, nat_abs-le}
use borrow.Author.Tests.{ltb-true, ltb-false}
use Rattle.types.specs.Number.{le, bytes_of, unsigned_at, signed_at, signed_of, residue}
use Rattle.types.specs.Claims.Readings.{SignedWithin, MagnitudeWithin, UnsignedNotNegative, ReadingsAgree, UnsignedPut, SignedPut}
use Rattle.types.proofs.Numbers.{pow_half, le_bytes, length_bytes, signed_low, signed_high, unsigned_below}

-- a claim about a signed reading: one proof below the half, one from it on
module _ (w n : ℕ) (C : ℤ → Type 0) (low : n < 2 ^ (8 * w - 1) → C (pos n)) (high : 2 ^ (8 * w - 1) ≤ n → C (negsuc (2 ^ (8 * w) - suc n))) where
  by_sign_test : (t : Bool) → ltb n (2 ^ (8 * w - 1)) ≡ t → n < 2 ^ (8 * w) → C (signed_of w n)
  by_sign_test true e b = let h = ltb-true n (2 ^ (8 * w - 1)) e in subst C (sym (signed_low w n h)) (low h)
  by_sign_test false e b = let h = ltb-false n (2 ^ (8 * w - 1)) e in subst C (sym (signed_high w n h b)) (high h)

  pub by_sign : n < 2 ^ (8 * w) → C (signed_of w n)
  by_sign b = by_sign_test (ltb n (2 ^ (8 * w - 1))) refl b

-- from the half on there are as many numbers as below it
upper : (w n : ℕ) → 2 ^ (8 * w - 1) ≤ n → n < 2 ^ (8 * w) → 2 ^ (8 * w) - suc n < 2 ^ (8 * w - 1)
upper zero n h b = absurd (omega arith)
upper (suc w) n h b = omega (arith, pow_half (suc w) (omega arith))

pub signed_in : (w n : ℕ) → n < 2 ^ (8 * w) → mag (signed_of w n) < 2 ^ (8 * w - 1)
signed_in w n b = by_sign w n (λ z. mag z < 2 ^ (8 * w - 1)) (λ h. h) (λ h. upper w n h b) b

in_order : (z : ℤ) (h : ℕ) → mag z < h → (neg_ℤ (pos h) ≤ℤ z) × (z <ℤ pos h)
in_order (pos n) zero b = absurd (omega arith)
in_order (negsuc n) zero b = absurd (omega arith)
in_order (pos n) (suc h) b = (record { le = tt }, record { lt = lt→ltb n (suc h) b })
in_order (negsuc n) (suc h) b = (record { le = le→leb n h (omega arith) }, record { lt = tt })

-- A SIGNED READING of w bytes lies within -2 ^ (8 w - 1) .. 2 ^ (8 w - 1) - 1
pub signed_within : SignedWithin
unfolding signed_at
signed_within s at w h = in_order (signed_of w (unsigned_at s at w)) (2 ^ (8 * w - 1)) (signed_in w (unsigned_at s at w) (unsigned_below s at w h))

-- and without its sign is at most 2 ^ (8 w - 1)
pub magnitude_within : MagnitudeWithin
unfolding signed_at
magnitude_within s at w h = nat_abs-le (signed_of w (unsigned_at s at w)) (signed_in w (unsigned_at s at w) (unsigned_below s at w h))

-- AN UNSIGNED READING is never negative
pub unsigned_not_negative : UnsignedNotNegative
unsigned_not_negative s at w = record { le = le→leb 0 (unsigned_at s at w) (omega arith) }

-- BOTH READINGS AGREE to the modulus 2 ^ (8 w)
pub residue_signed : (w n : ℕ) → n < 2 ^ (8 * w) → residue (2 ^ (8 * w)) (signed_of w n) ≡ n
unfolding residue
residue_signed w n b =
    by_sign w n (λ z. residue (2 ^ (8 * w)) z ≡ n)
    (λ h. mod-eq_of_lt b)
    (λ h. let u : 2 ^ (8 * w) - suc n < 2 ^ (8 * w) = omega arith in ap (λ k. 2 ^ (8 * w) - suc k) (mod-eq_of_lt u) ∙ comp_comp b)
    b

pub readings_agree : ReadingsAgree
unfolding signed_at
readings_agree s at w h = residue_signed w (unsigned_at s at w) (unsigned_below s at w h)

-- a number of w bytes is read back from its residue
pub signed_residue : (w : ℕ) (z : ℤ) → 0 < w → mag z < 2 ^ (8 * w - 1) → signed_of w (residue (2 ^ (8 * w)) z) ≡ z
unfolding residue
signed_residue w (pos n) h b =
    let e = pow_half w h in
    rw (mod-eq_of_lt {n = n} {m = 2 ^ (8 * w)} (omega arith)) (signed_low w n b)
signed_residue w (negsuc n) h b =
    let e = pow_half w h in
    let l : n < 2 ^ (8 * w) = omega arith in
    rw (mod-eq_of_lt l) (signed_high w (2 ^ (8 * w) - suc n) (omega arith) (omega arith) ∙ ap negsuc (comp_comp l))

-- READING WHAT WAS WRITTEN gives the number cut to the width
pub unsigned_put : UnsignedPut
unfolding unsigned_at
unsigned_put l at w n h =
    let k = length_bytes w n in
    ap (λ x. le (take w (drop at x))) (sets-eq (bytes_of w n) l at (omega arith) ∙ append_assoc (take at l) (bytes_of w n) (drop (at + length (bytes_of w n)) l))
    ∙ ap (λ x. le (take w x)) (drop_at (take at l) (bytes_of w n ++ drop (at + length (bytes_of w n)) l) at (length-take-le at l (omega arith)))
    ∙ ap le (take_at (bytes_of w n) (drop (at + length (bytes_of w n)) l) w k)
    ∙ le_bytes w n

residue_below : (w : ℕ) (z : ℤ) → residue (2 ^ (8 * w)) z < 2 ^ (8 * w)
unfolding residue
residue_below w (pos n) = mod-lt n (pow_pos (8 * w))
residue_below w (negsuc n) = let o = pow_pos (8 * w) in omega arith

pub signed_put : SignedPut
unfolding signed_at
signed_put l at w z p b h =
    ap (signed_of w) (unsigned_put l at w (residue (2 ^ (8 * w)) z) h ∙ mod-eq_of_lt (residue_below w z))
    ∙ signed_residue w z p b

-- the first bytes of a longer writing are the shorter one
pub bytes_cut : (v w n : ℕ) → w ≤ v → take w (bytes_of v n) ≡ bytes_of w n
unfolding bytes_of
bytes_cut v zero n h = refl
bytes_cut zero (suc w) n h = absurd (omega arith)
bytes_cut (suc v) (suc w) n h = ap (λ r. n % 256 ∷ r) (bytes_cut v w (n / 256) (omega arith))
