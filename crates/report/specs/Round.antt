-- Definitions. Words of the report turn about lists: those that pass a test, going round from an id, as many as fit, the last one's id.
use Rattle.std.specs.Prelude.{ℕ, Bool, not, cond, ◌||◌, List, [], ◌∷◌, ◌++◌, ltb}

-- those that pass the test, in their order
abbrev pub keep : {A : Type 0} → (A → Bool) → List A → List A
keep ok [] = []
keep ok (a ∷ more) = cond (ok a) (a ∷ keep ok more) (keep ok more)

-- a last id is an id, of two bytes, or none: any number above them
abbrev pub is_none : ℕ → Bool
is_none last = ltb 0xffff last

-- above the last id; where there is none yet, each is
abbrev pub above : ℕ → ℕ → Bool
above last id = is_none last || ltb last id

-- "starting above the last id .. and going round": the last id itself comes last
abbrev pub round : {A : Type 0} → (A → ℕ) → ℕ → List A → List A
round id last l = keep (λ a. above last (id a)) l ++ keep (λ a. not (above last (id a))) l

-- as many as fit, "stops at the first that does not fit": `fit` says of a list whether it fits as a whole, `before` stands already
abbrev pub fitting_behind : {A : Type 0} → (List A → Bool) → List A → List A → List A
fitting_behind fit before [] = []
fitting_behind fit before (a ∷ more) = cond (fit (before ++ (a ∷ []))) (a ∷ fitting_behind fit (before ++ (a ∷ [])) more) []

abbrev pub fitting : {A : Type 0} → (List A → Bool) → List A → List A
fitting fit l = fitting_behind fit [] l

-- the id of the last one "or, if none, the one handed in"
abbrev pub last_of : {A : Type 0} → (A → ℕ) → ℕ → List A → ℕ
last_of id last [] = last
last_of id last (a ∷ more) = last_of id (id a) more
