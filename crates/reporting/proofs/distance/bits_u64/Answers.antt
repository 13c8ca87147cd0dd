-- The bits of a number are what is left of it to the modulus 2^64. Assumes nothing.
use Prim.Native.Nat.{◌^◌}
use mathlib.Core.Path.{◌≡◌, ap, sym, ◌∙◌}
use native.Mathlib.Omega.{arith}
use native.Mathlib.Nat.{mod-eq_of_lt}
use lib.IntN.{ℤ, pos, negsuc}
use mir.Syntax.{w64}
use mir.Val.{SFits, of_z}
use mir.Facts.{to_z-of_z}
use Rattle.types.specs.Number.{residue}
use Rattle.reporting.proofs.distance.bits_u64.Goals as goal

bits_residue : (z : ℤ) → SFits w64 z → of_z w64 z ≡ residue (2 ^ 64) z
unfolding residue
bits_residue (pos n) f = sym (mod-eq_of_lt (omega (arith, f.sfits)))
bits_residue (negsuc n) f = omega (arith, f.sfits, mod-eq_of_lt {n = n} {m = 2 ^ 64} (omega (arith, f.sfits)))

pub returns : goal.returns
returns c = c.cast_unsigned.ensures ∙ ap (of_z w64) (to_z-of_z c.ranges.x) ∙ bits_residue _ c.ranges.x
