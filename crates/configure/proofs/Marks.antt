-- Which requests the mark concerns (specs/Claims/Marks.antt). Assumes nothing.
use Rattle.std.specs.Prelude.{None, Option, Some}
use mathlib.Core.Path.{◌≡◌, refl}
use mathlib.Core.Bool.{Bool, true, false, not, cond, ◌&&◌, false≢true}
use mathlib.Core.List.{List}
use Prim.Native.Nat.{ℕ, ◌+◌, ◌≤◌}
use native.Mathlib.Omega.{arith}
use Rattle.types.specs.Ids.{size_of, is_analog, is_signed, is_float}
use Rattle.types.specs.Value.{change_by, change_at}
use Rattle.reporting.specs.Claims.Unsigned.{eight_bytes, keeps_bits}
use Rattle.reporting.proofs.Unsigned.{only_uint64}
use Rattle.configure.specs.Claims.Marks.{LargeChangesOfUint64}

-- a float that is no Int has no change
float_change : (z : Option ℕ) (signed : Bool) (x : List ℕ) (p : ℕ) → (not signed && eight_bytes z) ≡ true → change_by z signed true x p ≡ 0
float_change (Some w) true x p k = absurd (false≢true k)
float_change (Some w) false x p k = refl
float_change None signed x p k = refl

-- the change that a record gives, by whether its type is analog and a float
change_if : (a f : Bool) (t : ℕ) → List ℕ → ℕ → ℕ
change_if a f t x p = cond a (change_by (size_of t) (is_signed t) f x p) 0

large : (a f : Bool) (t : ℕ) (x : List ℕ) (p : ℕ) → keeps_bits t ≡ true → 2 ≤ change_if a f t x p → (a ≡ true) × (f ≡ false)
unfolding change_if
large false f t x p k c = absurd (omega arith)
large true true t x p k c = absurd (omega (arith, float_change (size_of t) (is_signed t) x p k))
large true false t x p k c = (refl, refl)

pub large_changes_of_uint64 : LargeChangesOfUint64
unfolding change_if change_at
large_changes_of_uint64 body p t b k c = let w = large (is_analog t) (is_float t) t body (p + 4) k c in only_uint64 t b w.0 w.1 k
