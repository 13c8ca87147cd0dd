-- Laws of the number of a value and of a change: one for each way out. Assumes nothing.
use Rattle.std.specs.Prelude.{None, Some}
use Prim.Native.Nat.{ℕ, ◌*◌, ◌^◌, ◌≤◌, ◌<◌, min}
use mathlib.Core.Path.{◌≡◌, refl, ap, sym, ◌∙◌}
use mathlib.Core.Bool.{Bool, true, false, cond}
use mathlib.Core.List.{List}
use native.Mathlib.Omega.{arith}
use lib.Pow.{pow_mono}
use lib.Dec.{leb}
use lib.IntN.{ℤ, pos, nat_abs}
use borrow.Author.Tests.{le-leb, lt-leb, leb-true, leb-false}
use Rattle.types.specs.Number.{AllBytes, unsigned_at, signed_at, signed_of}
use Rattle.types.proofs.Numbers.{unsigned_below, signed_low}
use Rattle.types.specs.Ids.{size_of, is_signed, is_float}
use Rattle.types.specs.Value.{number_at, plain_at, change_at}

-- up to 7 bytes, the bits of 8 bytes are the number itself
plain_is : (s : List ℕ) (p w : ℕ) → AllBytes s → w ≤ 8 → plain_at s p w ≡ signed_of 8 (unsigned_at s p w)
unfolding signed_at
plain_is s p w h b = go (leb w 7) refl
  where
    go : (x : Bool) → leb w 7 ≡ x → cond x (pos (unsigned_at s p w)) (signed_at s p 8) ≡ signed_of 8 (unsigned_at s p w)
    go true e =
        let l : w ≤ 7 = leb-true w 7 e in
        let u = unsigned_below s p w h in
        let q : 2 ^ (8 * w) ≤ 2 ^ 56 = pow_mono {i = 8 * w} {j = 56} (omega arith) in
        sym (signed_low 8 (unsigned_at s p w) (omega arith))
    go false e =
        let l : 7 < w = leb-false w 7 e in
        let i : w ≡ 8 = omega arith in
        ap (λ k. signed_of 8 (unsigned_at s p k)) (sym i)

-- a number of that width, read with its sign
pub sign_read : (s : List ℕ) (p w n : ℕ) (x : ℤ) → x ≡ signed_of w n → n ≡ unsigned_at s p w → x ≡ signed_at s p w
unfolding signed_at
sign_read s p w n x e h = e ∙ ap (signed_of w) h

module _ (s : List ℕ) (p t : ℕ) where
  pub number_varies : size_of t ≡ None → number_at s p t ≡ None
  unfolding number_at
  number_varies e = rw e refl

  pub number_wide : (w : ℕ) → size_of t ≡ Some w → 8 < w → number_at s p t ≡ None
  unfolding number_at
  number_wide w e h = rw (e, lt-leb w 8 h) refl

  pub number_signed : (w : ℕ) → size_of t ≡ Some w → w ≤ 8 → is_signed t ≡ true → number_at s p t ≡ Some (signed_at s p w)
  unfolding number_at
  number_signed w e h i = rw (e, i, le-leb w 8 h) refl

  pub number_plain : (w : ℕ) → size_of t ≡ Some w → w ≤ 8 → is_signed t ≡ false → number_at s p t ≡ Some (plain_at s p w)
  unfolding number_at
  number_plain w e h i = rw (e, i, le-leb w 8 h) refl

  -- other types up to 7 bytes are zero-extended, and so not negative; other 8-byte types keep their bits
  pub number_short : (w : ℕ) → size_of t ≡ Some w → w ≤ 7 → is_signed t ≡ false → number_at s p t ≡ Some (pos (unsigned_at s p w))
  number_short w e h i = number_plain w e (omega arith) i ∙ ap (λ b. Some (cond b (pos (unsigned_at s p w)) (signed_at s p 8))) (le-leb w 7 h)

  pub number_bits : size_of t ≡ Some 8 → is_signed t ≡ false → number_at s p t ≡ Some (signed_at s p 8)
  number_bits e i = number_plain 8 e (omega arith) i

  pub signed_way : (w : ℕ) (x : ℤ) → size_of t ≡ Some w → w ≤ 8 → is_signed t ≡ true → x ≡ signed_at s p (min w 8) → Some x ≡ number_at s p t
  signed_way w x e h i k =
      let m : min w 8 ≡ w = omega arith in
      ap Some (k ∙ ap (signed_at s p) m) ∙ sym (number_signed w e h i)

  pub plain_way : (w : ℕ) (x : ℤ) (n : ℕ) → AllBytes s → size_of t ≡ Some w → w ≤ 8 → is_signed t ≡ false → x ≡ signed_of 8 n → n ≡ unsigned_at s p (min w 8) → Some x ≡ number_at s p t
  plain_way w x n a e h i k l =
      let m : min w 8 ≡ w = omega arith in
      ap Some (k ∙ ap (signed_of 8) (l ∙ ap (unsigned_at s p) m) ∙ sym (plain_is s p w a h)) ∙ sym (number_plain w e h i)

  pub change_varies : size_of t ≡ None → change_at s p t ≡ 0
  unfolding change_at
  change_varies e = rw e refl

  pub change_signed : (w : ℕ) → size_of t ≡ Some w → is_signed t ≡ true → change_at s p t ≡ nat_abs (signed_at s p (min w 8))
  unfolding change_at
  change_signed w e i = rw (e, i) refl

  pub change_float : (w : ℕ) → size_of t ≡ Some w → is_signed t ≡ false → is_float t ≡ true → change_at s p t ≡ 0
  unfolding change_at
  change_float w e i f = rw (e, i, f) refl

  pub change_plain : (w : ℕ) → size_of t ≡ Some w → is_signed t ≡ false → is_float t ≡ false → change_at s p t ≡ unsigned_at s p (min w 8)
  unfolding change_at
  change_plain w e i f = rw (e, i, f) refl
