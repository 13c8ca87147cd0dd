-- Claims. Words about lists that the claims of the report turn use.
use Rattle.std.specs.Prelude.{◌≡◌, ◌⊎◌, ℕ, Bool, true, false, ◌||◌, List, [], ◌∷◌, eqb}

-- one of them has this id
abbrev pub names : {A : Type 0} → (A → ℕ) → ℕ → List A → Bool
names id x [] = false
names id x (a ∷ more) = eqb (id a) x || names id x more

-- each passes the test
abbrev pub Each : {A : Type 0} → (A → Bool) → List A → Type 0
Each ok [] = Unit
Each ok (a ∷ more) = (ok a ≡ true) × Each ok more

-- one passes it
abbrev pub OneOf : {A : Type 0} → (A → Bool) → List A → Type 0
OneOf ok [] = ⊥
OneOf ok (a ∷ more) = (ok a ≡ true) ⊎ OneOf ok more

-- each stands so to all that come behind it
abbrev pub Row : {A : Type 0} → (A → ℕ) → (ℕ → ℕ → Bool) → List A → Type 0
Row id R [] = Unit
Row id R (a ∷ more) = Each (λ b. R (id a) (id b)) more × Row id R more
