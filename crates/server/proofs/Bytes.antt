-- Bytes, by a test. Assumes nothing.
use mathlib.Core.Path.{◌≡◌, refl}
use mathlib.Core.Bool.{Bool, true, false, cond}
use mathlib.Core.List.{List, [], ◌∷◌}
use Prim.Native.Nat.{ℕ, zero, suc, ◌<◌}
use native.Mathlib.Omega.{arith}
use lib.Dec.{ltb}
use borrow.Author.Tests.{ltb-true}
use Rattle.types.specs.Number.{AllBytes}

abbrev pub small : List ℕ → Bool
small [] = true
small (b ∷ bs) = cond (ltb b 256) (small bs) false

bytes_cons : (b : ℕ) (bs : List ℕ) → b < 256 → AllBytes bs → AllBytes (b ∷ bs)
bytes_cons b bs h k zero = h
bytes_cons b bs h k (suc i) = k i

pub bytes_small : (l : List ℕ) → small l ≡ true → AllBytes l
bytes_small [] e = λ i. omega arith
bytes_small (b ∷ bs) e = go (ltb b 256) refl e (λ h. bytes_small bs h)
  where
    go : (c : Bool) → ltb b 256 ≡ c → cond c (small bs) false ≡ true → (small bs ≡ true → AllBytes bs) → AllBytes (b ∷ bs)
    go true f h rec = bytes_cons b bs (ltb-true b 256 f) (rec h)
    go false f h rec = let z : ◌≡◌ {A = ℕ} 0 1 = cc in absurd (omega arith)
