-- Two runs of bytes put one behind the other, or neither of them. Assumes nothing.
use Rattle.std.specs.Prelude.{None, Option, Some}
use mathlib.Core.Path.{◌≡◌, sym, ap, ◌∙◌}
use mathlib.Core.List.{List, ◌++◌}
use Prim.Native.Nat.{ℕ, ◌+◌, ◌≤◌, ◌<◌}
use native.Mathlib.Omega.{arith}
use lib.ListN.{length, length-append}
use lib.Seq.{sets, length-sets}
use Rattle.frame.specs.Inside.Buffer.{putting, put}
use Rattle.frame.proofs.Buffer.{sets_append, put_fits, put_past, put_at, put_full}

-- a run put behind a run is the two put as one, if there is room for both
put_two : (d : List ℕ) (at : ℕ) (a b : List ℕ) (r₁ : Option ℕ) (o : ℕ) (d₁ : List ℕ) (r₂ : Option ℕ) (d₂ : List ℕ) → at + length (a ++ b) ≤ length d
    → putting r₁ d₁ ≡ put d at a → r₁ ≡ Some o → putting r₂ d₂ ≡ put d₁ o b → putting r₂ d₂ ≡ put d at (a ++ b)
put_two d at a b r₁ o d₁ r₂ d₂ h p q g =
    let n : length (a ++ b) ≡ length a + length b = length-append a b in
    let w = put_at d at a r₁ o d₁ p q in
    let l : length (sets d at a) ≡ length d = length-sets d at a in
    let m : at + length a + length b ≡ at + length (a ++ b) = omega arith in
    g
    ∙ ap (λ (k : ℕ). put d₁ k b) w.1.0
    ∙ ap (λ (x : List ℕ). put x (at + length a) b) w.1.1
    ∙ put_fits (sets d at a) (at + length a) b (omega arith)
    ∙ ap (λ (k : ℕ). putting (Some k) (sets (sets d at a) (at + length a) b)) m
    ∙ ap (putting (Some (at + length (a ++ b)))) (sets_append a b d at)
    ∙ sym (put_fits d at (a ++ b) h)

module _ (d : List ℕ) (at : ℕ) (front back : List ℕ) where
  -- there is no room for both
  pub both_past : length d < at + (length front + length back) → putting None d ≡ put d at (front ++ back)
  both_past h =
      let n : length (front ++ back) ≡ length front + length back = length-append front back in
      sym (put_past d at (front ++ back) (omega arith))

  -- not even for the first
  pub both_none : (r : Option ℕ) (d₁ : List ℕ) → putting r d₁ ≡ put d at front → r ≡ None → putting None d₁ ≡ put d at (front ++ back)
  both_none r d₁ p q =
      let w = put_full d at front r d₁ p q in
      ap (putting None) w.1 ∙ both_past (omega (arith, w.0))

  -- there is
  pub both_put : at + (length front + length back) ≤ length d → (r₁ : Option ℕ) (o : ℕ) (d₁ : List ℕ) (r₂ : Option ℕ) (d₂ : List ℕ) → putting r₁ d₁ ≡ put d at front
      → r₁ ≡ Some o → putting r₂ d₂ ≡ put d₁ o back → putting r₂ d₂ ≡ put d at (front ++ back)
  both_put h r₁ o d₁ r₂ d₂ p q g =
      let n : length (front ++ back) ≡ length front + length back = length-append front back in
      put_two d at front back r₁ o d₁ r₂ d₂ (omega arith) p q g
