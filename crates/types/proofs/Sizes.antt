-- A size, as a code's arm gives it, is the definition's. Assumes nothing.
use Rattle.std.specs.Prelude.{None, Option, Some}
use Prim.Native.Nat.{ℕ, ◌+◌, ◌≤◌, ◌<◌}
use mathlib.Core.Path.{◌≡◌, refl, ap, subst}
use mathlib.Core.Bool.{Bool, true, false, not, ◌||◌}
use mathlib.Core.List.{List}
use mathlib.Core.Logic.{inl, inr}
use native.Mathlib.Omega.{arith}
use lib.Dec.{T, eqb, eqb→eq}
use mir.Facts.{or_yes}
use types.Run.{OneOf}
use Rattle.types.specs.Ids.{size_of}
use Rattle.types.proofs.Finite.{run, keys, by_run, by_keys, by_rest, NoneOf, any_key}

abbrev same_size : Option ℕ → Option ℕ → Bool
same_size (Some a) (Some b) = eqb a b
same_size (Some a) None = false
same_size None (Some b) = false
same_size None None = true

same : (x y : Option ℕ) → T (same_size x y) → x ≡ y
same (Some a) (Some b) t = ap Some (eqb→eq a b t)
same (Some a) None t = absurd t
same None (Some b) t = absurd t
same None None t = refl

abbrev pub right : Option ℕ → ℕ → Bool
right x t = same_size x (size_of t)

pub size_keys : (x : Option ℕ) (ks : List ℕ) → T (keys (right x) ks) → (t : ℕ) → OneOf ks t → x ≡ size_of t
size_keys x ks p t o = same x (size_of t) (by_keys (right x) ks p t o)

pub size_run : (x : Option ℕ) (a n : ℕ) → T (run (right x) a n) → (t : ℕ) → a ≤ t → t < a + n → x ≡ size_of t
size_run x a n p t h b = same x (size_of t) (by_run (right x) a n p t h b)

-- the size of each code of a kind, by a rule
pub size_kind : (q : ℕ → Bool) (f : ℕ → Option ℕ) (n : ℕ) → T (run (λ t. not (q t) || same_size (f t) (size_of t)) 0 n) → (t : ℕ) → t < n → q t ≡ true → f t ≡ size_of t
size_kind q f n p t b e =
    elim (or_yes (not (q t)) _ (by_run (λ t. not (q t) || same_size (f t) (size_of t)) 0 n p t (omega arith) (omega arith)))
    [ inl x ↦ absurd (subst (λ k. T (not k)) e x) | inr y ↦ same (f t) (size_of t) y ]

-- a code that is no key and not of the kind
pub size_rest : (q : ℕ → Bool) (kss : List (List ℕ)) (a n : ℕ) → T (run (λ t. any_key kss t || (q t || right None t)) a n) → (t : ℕ) → a ≤ t → t < a + n → NoneOf kss t → q t ≡ false → None ≡ size_of t
size_rest q kss a n p t h b o e =
    elim (or_yes (q t) _ (by_rest (λ t. q t || right None t) kss a n p t h b o))
    [ inl x ↦ absurd (subst T e x) | inr y ↦ same None (size_of t) y ]

-- the same for a rule that a code keeps or not
abbrev pub same_bool : Bool → Bool → Bool
same_bool true y = y
same_bool false y = not y

pub same_truth : (x y : Bool) → T (same_bool x y) → x ≡ y
same_truth true true t = refl
same_truth true false t = absurd t
same_truth false true t = absurd t
same_truth false false t = refl

pub rule_run : (r : ℕ → Bool) (x : Bool) (a n : ℕ) → T (run (λ t. same_bool x (r t)) a n) → (t : ℕ) → a ≤ t → t < a + n → x ≡ r t
rule_run r x a n p t h b = same_truth x (r t) (by_run (λ t. same_bool x (r t)) a n p t h b)

pub rule_keys : (r : ℕ → Bool) (x : Bool) (ks : List ℕ) → T (keys (λ t. same_bool x (r t)) ks) → (t : ℕ) → OneOf ks t → x ≡ r t
rule_keys r x ks p t o = same_truth x (r t) (by_keys (λ t. same_bool x (r t)) ks p t o)

pub rule_rest : (r : ℕ → Bool) (x : Bool) (kss : List (List ℕ)) (a n : ℕ) → T (run (λ t. any_key kss t || same_bool x (r t)) a n) → (t : ℕ) → a ≤ t → t < a + n → NoneOf kss t → x ≡ r t
rule_rest r x kss a n p t h b o = same_truth x (r t) (by_rest (λ t. same_bool x (r t)) kss a n p t h b o)
