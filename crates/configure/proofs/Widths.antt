-- The width of a type's change. Assumes nothing.
use Rattle.std.specs.Prelude.{None, Option, Some, unwrap_or}
use mathlib.Core.Path.{◌≡◌, refl, sym, ap}
use mathlib.Core.Bool.{Bool, true, false, cond, ◌&&◌}
use Prim.Native.Nat.{ℕ, ◌≤◌}
use native.Mathlib.Omega.{arith}
use lib.Dec.{T, leb, leb→le}
use borrow.Author.Tests.{le-leb, lt-leb, leb-true, leb-false}
use Rattle.types.specs.Ids.{size_of, is_analog}
use Rattle.types.proofs.Rules.{only, within, analog_sizes}
use Rattle.configure.specs.Request.{change_width}

module _ (t : ℕ) where
  -- a type that is not analog has none
  pub width_none : is_analog t ≡ false → 0 ≡ change_width t
  unfolding change_width
  width_none e = sym (ap (λ (b : Bool). cond b (unwrap_or (size_of t) 0) 0) e)

by_size : (b : Bool) (x : Option ℕ) → T (only b (within 1 8 x)) → cond b (unwrap_or x 0) 0 ≤ 8
by_size true (Some w) h = go (leb 1 w) h
  where
    go : (a : Bool) → T (a && leb w 8) → w ≤ 8
    go true k = leb→le w 8 k
    go false k = absurd k
by_size true None h = absurd h
by_size false x h = omega arith

not_analog : (t : ℕ) → 256 ≤ t → is_analog t ≡ false
unfolding is_analog
not_analog t h =
    rw (le-leb 0x20 t (omega arith), lt-leb t 0x27 (omega arith), le-leb 0x28 t (omega arith), lt-leb t 0x2f (omega arith), le-leb 0x38 t (omega arith), lt-leb t 0x3a (omega arith), le-leb 0xe0 t (omega arith), lt-leb t 0xe2 (omega arith))

-- eight bytes are enough for any
pub width_least : (t : ℕ) → change_width t ≤ 8
unfolding change_width
width_least t = go (leb 256 t) refl
  where
    go : (b : Bool) → leb 256 t ≡ b → change_width t ≤ 8
    go true e = omega (arith, width_none t (not_analog t (leb-true 256 t e)))
    go false e = by_size (is_analog t) (size_of t) (analog_sizes t (leb-false 256 t e))
