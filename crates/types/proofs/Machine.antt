-- Signed numbers as the machine holds them, against the definitions over the width. Assumes nothing.
use Prim.Native.Nat.{ℕ, suc, ◌+◌, ◌-◌, ◌*◌, ◌%◌, ◌^◌, ◌≤◌, ◌<◌, min}
use mathlib.Core.Path.{◌≡◌, refl, ap, sym, ◌∙◌}
use mathlib.Core.Logic.{inl, inr}
use mathlib.Core.Bool.{Bool, true, false, true≢false, false≢true}
use native.Mathlib.Omega.{arith}
use native.Mathlib.Nat.{add-mul, suc-mul, mul-le-mul_right, mul-lt-mul_of_pos_right}
use lib.Pow.{pow_pos, pow-add}
use lib.Dec.{T, ltb, leb-zero}
use lib.IntN.{ℤ, pos, negsuc, nat_abs}
use lib.Signed.{mag, mag_shr, le_z, non_neg, shr_z}
use borrow.Author.Tests.{ltb-true, ltb-false}
use mir.Syntax.{w64}
use mir.Val.{Fits, SFits, to_z, of_z}
use mir.Facts.{to_z-of_z, to_z_pos, to_z-neg}
use Rattle.std.proofs.lemmas.Bool.{cases_lt}
use Rattle.std.proofs.lemmas.Nat.{shl-shr, shl_whole, shr_high}
use Rattle.types.specs.Number.{signed_of}
use Rattle.types.proofs.Numbers.{signed_low, signed_high}

-- a signed answer of a call, handed on: `came_back _ c.F.type_inv`
pub came_back : (z : ℤ) → mag z < 2 ^ 63 → to_z w64 (of_z w64 z) ≡ z
came_back z h = to_z-of_z {w = w64} (record { sfits = h })

-- the bits of an i64 are a number of 8 bytes
pub bits_are : (n : ℕ) → n < 2 ^ 64 → to_z w64 n ≡ signed_of 8 n
bits_are n b = go (ltb n (2 ^ 63)) refl
  where
    go : (t : Bool) → ltb n (2 ^ 63) ≡ t → to_z w64 n ≡ signed_of 8 n
    go true e = to_z_pos w64 (ltb-true n (2 ^ 63) e) ∙ sym (signed_low 8 n (ltb-true n (2 ^ 63) e))
    go false e =
        let h : 2 ^ 63 ≤ n = ltb-false n (2 ^ 63) e in
        let q : n ≡ 2 ^ 64 - suc (2 ^ 64 - suc n) = omega arith in
        ap (to_z w64) q ∙ to_z-neg w64 (2 ^ 64 - suc n) (omega arith) ∙ sym (signed_high 8 n h b)

-- a number of v bytes, shifted up to the top of 64 bits and down again with its sign
module _ (v u n : ℕ) (p : 0 < v) (e : 8 * v + u ≡ 64) (f : n < 2 ^ (8 * v)) where
  half_up : 2 ^ (8 * v - 1) * 2 ^ u ≡ 2 ^ 63
  half_up =
      let j : 8 * v - 1 + u ≡ 63 = omega arith in
      sym (pow-add 2 (8 * v - 1) u) ∙ ap (λ k. 2 ^ k) j

  down_low : n < 2 ^ (8 * v - 1) → shr_z (to_z w64 (n * 2 ^ u)) (2 ^ u) ≡ pos n
  down_low h =
      let b : n * 2 ^ u < 2 ^ 63 = rw half_up at (mul-lt-mul_of_pos_right {k = 2 ^ u} h (pow_pos u)) in
      rw (to_z_pos w64 b) (ap pos (shl-shr n u))

  -- from half on, the bits are as far below the top as the number is below the whole
  down_high : 2 ^ (8 * v - 1) ≤ n → shr_z (to_z w64 (n * 2 ^ u)) (2 ^ u) ≡ negsuc (2 ^ (8 * v) - suc n)
  down_high h =
      let k : ℕ = 2 ^ (8 * v) - suc n in
      let o : 0 < 2 ^ u = pow_pos u in
      let all : n + suc k ≡ 2 ^ (8 * v) = omega arith in
      let up : n * 2 ^ u + suc k * 2 ^ u ≡ 2 ^ 64 = sym (add-mul n (suc k) (2 ^ u)) ∙ ap (λ x. x * 2 ^ u) all ∙ sym (pow-add 2 (8 * v) u) ∙ ap (λ x. 2 ^ x) e in
      let one : suc k * 2 ^ u ≡ k * 2 ^ u + 2 ^ u = suc-mul k (2 ^ u) in
      let b : 2 ^ 63 ≤ n * 2 ^ u = rw half_up at (mul-le-mul_right (2 ^ u) h) in
      let q : n * 2 ^ u ≡ 2 ^ 64 - suc (k * 2 ^ u + (2 ^ u - 1)) = omega arith in
      ap (λ x. shr_z (to_z w64 x) (2 ^ u)) q
      ∙ ap (λ z. shr_z z (2 ^ u)) (to_z-neg w64 (k * 2 ^ u + (2 ^ u - 1)) (omega arith))
      ∙ ap negsuc (shr_high k u (2 ^ u - 1) (omega arith))

  down : shr_z (to_z w64 ((n * 2 ^ u) % 2 ^ 64)) (2 ^ u) ≡ signed_of v n
  down =
      ap (λ x. shr_z (to_z w64 x) (2 ^ u)) (shl_whole n (8 * v) u 64 f (omega arith))
      ∙ elim (cases_lt n (2 ^ (8 * v - 1))) [ inl h ↦ down_low h ∙ sym (signed_low v n h) | inr h ↦ down_high h ∙ sym (signed_high v n h f) ]

pub extend_none : (w n : ℕ) → w ≡ 0 → n < 2 ^ (8 * min w 8) → pos 0 ≡ signed_of (min w 8) n
extend_none w n e f =
    let m : min w 8 ≡ 0 = omega arith in
    let f' : n < 2 ^ (8 * 0) = rw m at f in
    let z : n ≡ 0 = omega arith in
    rw (m, z) (sym (signed_low 0 0 (omega arith)))

pub extended : (w m n : ℕ) (z : ℤ) → (w ≡ 0 → ⊥) → n < 2 ^ (8 * min w 8) → m ≡ min w 8 → mag z < 2 ^ 63 → z ≡ to_z w64 ((n * 2 ^ (64 - 8 * m)) % 2 ^ 64)
    → to_z w64 (of_z w64 (shr_z (to_z w64 (of_z w64 z)) (2 ^ (64 - 8 * m)))) ≡ signed_of (min w 8) n
extended w m n z p f e b q =
    let i : mag (shr_z z (2 ^ (64 - 8 * m))) ≤ mag z = mag_shr z (2 ^ (64 - 8 * m)) in
    ap (λ y. to_z w64 (of_z w64 (shr_z y (2 ^ (64 - 8 * m))))) (came_back z b)
    ∙ came_back (shr_z z (2 ^ (64 - 8 * m))) (omega arith)
    ∙ ap (λ y. shr_z y (2 ^ (64 - 8 * m))) q
    ∙ rw e (down (min w 8) (64 - 8 * min w 8) n (omega arith) (omega arith) f)

-- the test `x >= 0` as the machine makes it, on the number read back from its bits
abbrev at_least0 : ℤ → Bool
at_least0 z = le_z (to_z w64 0) (to_z w64 (of_z w64 z))

sign_yes : (z : ℤ) → le_z (pos 0) z ≡ true → z ≡ pos (mag z)
sign_yes (pos n) e = refl
sign_yes (negsuc n) e = absurd (false≢true e)

sign_no : (z : ℤ) → le_z (pos 0) z ≡ false → z ≡ negsuc (mag z)
sign_no (pos n) e = absurd (true≢false (sym (leb-zero n) ∙ e))
sign_no (negsuc n) e = refl

-- a number that is not negative, and in range, may be cast
castable : (x : ℤ) (m : ℕ) → x ≡ pos m → m < 2 ^ 63 → T (non_neg x) × Fits w64 (nat_abs x)
castable x m e h = rw e (tt, record { fits = omega arith })

module _ (z : ℤ) (f : SFits w64 z) where
  kept : at_least0 z ≡ true → to_z w64 (of_z w64 z) ≡ pos (mag z)
  kept e = to_z-of_z f ∙ sign_yes z (rw (to_z-of_z f) at e)

  negative : at_least0 z ≡ false → z ≡ negsuc (mag z)
  negative e = sign_no z (rw (to_z-of_z f) at e)

  -- all bits turned: -(n + 1) becomes n
  flipped : at_least0 z ≡ false → to_z w64 (18446744073709551615 - of_z w64 z) ≡ pos (mag z)
  flipped e =
      let s = f.sfits in
      let b : 18446744073709551615 - of_z w64 z ≡ mag z = ap (λ y. 18446744073709551615 - of_z w64 y) (negative e) ∙ omega (arith, s) in
      ap (to_z w64) b ∙ to_z_pos w64 s

  pub kept_casts : at_least0 z ≡ true → T (non_neg (to_z w64 (of_z w64 z))) × Fits w64 (nat_abs (to_z w64 (of_z w64 z)))
  kept_casts e = castable (to_z w64 (of_z w64 z)) (mag z) (kept e) f.sfits

  pub flipped_casts : at_least0 z ≡ false → T (non_neg (to_z w64 (18446744073709551615 - of_z w64 z))) × Fits w64 (nat_abs (to_z w64 (18446744073709551615 - of_z w64 z)))
  flipped_casts e = castable (to_z w64 (18446744073709551615 - of_z w64 z)) (mag z) (flipped e) f.sfits

  pub flipped_is : at_least0 z ≡ false → nat_abs (to_z w64 (18446744073709551615 - of_z w64 z)) + 1 ≡ nat_abs z
  flipped_is e = ap (λ y. nat_abs y + 1) (flipped e) ∙ omega arith ∙ sym (ap nat_abs (negative e))
