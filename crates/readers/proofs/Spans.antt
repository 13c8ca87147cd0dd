-- The laws of records that follow one another, for any rule of their length that moves on. Assumes nothing.
use Rattle.std.specs.Prelude.{Err, Ok, Result}
use mathlib.Core.Path.{◌≡◌, refl, ap}
use mathlib.Core.Bool.{Bool, true, false, cond}
use mathlib.Core.List.{List, [], ◌∷◌}
use Prim.Native.Nat.{ℕ, zero, suc, ◌+◌, ◌-◌, ◌≤◌, ◌<◌}
use native.Mathlib.Omega.{arith}
use lib.ListN.{length, drop}
use lib.Dec.{leb}
use borrow.Author.Tests.{le-leb, lt-leb, leb-false}
use Rattle.frame.specs.declared.answer.Refusal.{Refusal}
use Rattle.readers.specs.Reading.{mapped, span, first_of, spans_in, spans_from}

pub read_is : {A : Type 0} (x y : A) → ◌≡◌ {A = Result A Refusal} (Ok x) (Ok y) → x ≡ y
read_is x y h = cc

pub unread_not : {A B : Type 0} (why : Refusal) (x : A) → ◌≡◌ {A = Result A Refusal} (Err why) (Ok x) → B
unread_not why x h = absurd cc

-- a record has a byte at least, and lies within what is there
abbrev pub Advancing : (List ℕ → Result ℕ Refusal) → Type 0
Advancing one = (l : List ℕ) (n : ℕ) → one l ≡ Ok n → (0 < n) × (n ≤ length l)

module _ (one : List ℕ → Result ℕ Refusal) (f : List ℕ) where
  -- more rounds than bytes are left make no difference
  pub spans_enough : Advancing one → (m n p : ℕ) → length f - p < m → length f - p < n → spans_in one f m p ≡ spans_in one f n p
  unfolding spans_in
  spans_enough a zero n p h k = absurd (omega arith)
  spans_enough a (suc m) zero p h k = absurd (omega arith)
  spans_enough a (suc m) (suc n) p h k = go (λ q. spans_enough a m n q) (leb (length f) p) refl (one (drop p f)) refl
    where
      go : ((q : ℕ) → length f - q < m → length f - q < n → spans_in one f m q ≡ spans_in one f n q)
          → (b : Bool) → leb (length f) p ≡ b → (x : Result ℕ Refusal) → one (drop p f) ≡ x
          → cond b (Ok []) (first_of p (spans_in one f m) x) ≡ cond b (Ok []) (first_of p (spans_in one f n) x)
      go rec true e x g = refl
      go rec false e (Ok w) g =
          let u : length f - (p + w) < m = omega (arith, a (drop p f) w g, leb-false (length f) p e) in
          let v : length f - (p + w) < n = omega (arith, a (drop p f) w g, leb-false (length f) p e) in
          ap (mapped (λ xs. span p w ∷ xs)) (rec (p + w) u v)
      go rec false e (Err why) g = refl

  -- at the frame's end there are none
  pub spans_done : (p : ℕ) → length f ≤ p → spans_from one f p ≡ Ok []
  unfolding spans_from spans_in
  spans_done p h = rw (le-leb (length f) p h)

  -- a record that is refused refuses the rest
  pub spans_stop : (p : ℕ) (why : Refusal) → p < length f → one (drop p f) ≡ Err why → spans_from one f p ≡ Err why
  unfolding spans_from spans_in
  spans_stop p why h e = rw (lt-leb (length f) p h, e)

  -- a record, and those behind it
  pub spans_step : Advancing one → (p n : ℕ) → p < length f → one (drop p f) ≡ Ok n
      → spans_from one f p ≡ mapped (λ xs. span p n ∷ xs) (spans_from one f (p + n))
  unfolding spans_from spans_in
  spans_step a p n h e =
      rw (lt-leb (length f) p h, e)
      (ap (mapped (λ xs. span p n ∷ xs)) (spans_enough a (length f - p) (suc (length f - (p + n))) (p + n) (omega (arith, a (drop p f) n e)) (omega arith)))
