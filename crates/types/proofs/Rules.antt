-- Rules of the type table, each over all 256 codes at once by computing. Assumes nothing.
use Rattle.std.specs.Prelude.{None, Option, Some}
use Prim.Native.Nat.{ℕ, ◌<◌}
use mathlib.Core.Path.{◌≡◌, sym, subst}
use mathlib.Core.Bool.{Bool, true, false, not, ◌&&◌}
use native.Mathlib.Omega.{arith}
use lib.Dec.{T, leb}
use Rattle.types.specs.Ids.{size_of, is_analog, is_reportable, is_signed, is_float}
use Rattle.types.proofs.Finite.{by_run}
use Rattle.types.proofs.Sizes.{same_truth}

-- a is so only where b is
abbrev pub only : Bool → Bool → Bool
only true b = b
only false b = true

abbrev pub within : ℕ → ℕ → Option ℕ → Bool
within a b (Some w) = leb a w && leb w b
within a b None = false

-- every analog type has a change of 1 to 8 bytes
pub analog_sizes : (t : ℕ) → t < 256 → T (only (is_analog t) (within 1 8 (size_of t)))
unfolding is_analog size_of
analog_sizes t h = by_run (λ t. only (is_analog t) (within 1 8 (size_of t))) 0 256 tt t (omega arith) (omega arith)

-- a float is not signed
pub float_plain : (t : ℕ) → t < 256 → is_float t ≡ true → is_signed t ≡ false
unfolding is_signed is_float
float_plain t h e =
    let k = by_run (λ t. only (is_float t) (not (is_signed t))) 0 256 tt t (omega arith) (omega arith) in
    sym (same_truth false (is_signed t) (subst (λ x. T (only x (not (is_signed t)))) e k))

-- what has a fixed size can be reported
pub fixed_reportable : (t : ℕ) → t < 256 → T (only (within 0 16 (size_of t)) (is_reportable t))
unfolding size_of is_reportable
fixed_reportable t h = by_run (λ t. only (within 0 16 (size_of t)) (is_reportable t)) 0 256 tt t (omega arith) (omega arith)
