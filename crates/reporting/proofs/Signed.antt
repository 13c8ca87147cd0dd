-- The distance of two signed numbers by their signs. Assumes nothing.
use mathlib.Core.Path.{◌≡◌, refl, ◌∙◌}
use mathlib.Core.Bool.{Bool, true, false, cond}
use Prim.Native.Nat.{ℕ, zero, suc, ◌+◌, ◌-◌, ◌^◌, ◌<◌, ◌≤◌}
use native.Mathlib.Omega.{arith}
use lib.Dec.{ltb}
use lib.IntN.{pos, negsuc, nat_abs, sub_ℕ}
use borrow.Author.Tests.{ltb-true, ltb-false}
use Rattle.reporting.specs.Due.{dist}

abs_sub : (a b : ℕ) → nat_abs (sub_ℕ a b) ≡ (a - b) + (b - a)
abs_sub a b = go (ltb a b) refl
  where
    go : (t : Bool) → ltb a b ≡ t → nat_abs (cond t (negsuc (b - suc a)) (pos (a - b))) ≡ (a - b) + (b - a)
    go true e = let h : a < b = ltb-true a b e in omega arith
    go false e = let h : b ≤ a = ltb-false a b e in omega arith

pub dist_pp : (a b : ℕ) → dist (pos a) (pos b) ≡ (a - b) + (b - a)
dist_pp a zero = omega arith
dist_pp a (suc b) = abs_sub a (suc b)

pub dist_pn : (a b : ℕ) → dist (pos a) (negsuc b) ≡ a + b + 1
dist_pn a b = omega arith

pub dist_np : (a b : ℕ) → dist (negsuc a) (pos b) ≡ a + b + 1
dist_np a zero = abs_sub 0 (suc a) ∙ omega arith
dist_np a (suc b) = omega arith

pub dist_nn : (a b : ℕ) → dist (negsuc a) (negsuc b) ≡ (a - b) + (b - a)
dist_nn a b = abs_sub (suc b) (suc a) ∙ omega arith

-- the least and the largest number of 64 bits are 2^64-1 apart
pub widest : dist (negsuc (2 ^ 63 - 1)) (pos (2 ^ 63 - 1)) ≡ 2 ^ 64 - 1
widest = dist_np (2 ^ 63 - 1) (2 ^ 63 - 1) ∙ omega arith
