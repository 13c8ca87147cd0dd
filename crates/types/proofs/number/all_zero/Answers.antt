-- No bit is set so far exactly where the bytes passed are 0. Assumes nothing.
use Prim.Native.Nat.{ℕ, zero, suc, ◌+◌, ◌<◌}
use mathlib.Core.Path.{◌≡◌, refl, sym, ap, ◌∙◌}
use mathlib.Core.Bool.{Bool, ◌&&◌, and-true, and_assoc}
use mathlib.Core.List.{List, [], ◌∷◌, ◌++◌}
use native.Mathlib.Omega.{arith}
use native.Mathlib.Numerals.{add-one}
use lib.Bits.{bit_or, or_add_and, and_le_r}
use lib.ListN.{length, get_or, take}
use lib.Seq.{take-suc}
use lib.Dec.{eqb}
use borrow.Author.Tests.{ne_eqb}
use Rattle.types.specs.Number.{all_zero}
use Rattle.types.proofs.number.all_zero.Goals as goal

-- one byte more
snoc : (l : List ℕ) (b : ℕ) → all_zero (l ++ (b ∷ [])) ≡ (all_zero l && eqb b 0)
unfolding all_zero
snoc [] b = and-true (eqb b 0)
snoc (x ∷ l) b = ap (λ r. eqb x 0 && r) (snoc l b) ∙ sym (and_assoc (eqb x 0) (all_zero l) (eqb b 0))

next : (s : List ℕ) (i : ℕ) → i < length s → all_zero (take (i + 1) s) ≡ (all_zero (take i s) && eqb (get_or s i 0) 0)
next s i h = rw (add-one i, take-suc s i 0 h) (snoc (take i s) (get_or s i 0))

-- two numbers have no bit set exactly where each has none
no_bit : (a b : ℕ) → eqb (bit_or a b) 0 ≡ (eqb a 0 && eqb b 0)
no_bit zero b = refl
no_bit (suc a) b =
    ne_eqb (bit_or (suc a) b) 0 (λ e. omega (arith, e, or_add_and (suc a) b, and_le_r (suc a) b))
    ∙ sym (ap (λ (t : Bool). t && eqb b 0) (ne_eqb (suc a) 0 (λ e. omega arith)))

more : (s : List ℕ) (i bits : ℕ) → i < length s → eqb bits 0 ≡ all_zero (take i s) → eqb (bit_or bits (get_or s i 0)) 0 ≡ all_zero (take (i + 1) s)
more s i bits h e = no_bit bits (get_or s i 0) ∙ ap (λ (b : Bool). b && eqb (get_or s i 0) 0) e ∙ sym (next s i h)

pub loop-b-init : goal.loop-b-init
unfolding all_zero
loop-b-init c = refl

pub loop-b-preserved : goal.loop-b-preserved
loop-b-preserved c =
    let l = c.loop-b in
    more c.args.s.now l.b-index l.bits (omega arith) l.invariant
