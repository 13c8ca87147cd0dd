-- Definitions. What is to be said of a line: whether it agrees, or that it is the last one, or that it cannot be read.
use Rattle.std.specs.Prelude.{ℕ, Bool, cond, ◌&&◌, ◌||◌, not, List, [], ◌∷◌, length, eqb, None, Option, Some}
use Rattle.types.specs.Number.{le}
use Rattle.replay.specs.Bytes.{same}
use Rattle.replay.specs.Line.{split, space, hex, field}
use Rattle.replay.specs.Ours.{agreement, of_type, of_header, of_extent, of_store, of_number, of_write}
use Rattle.replay.specs.Names.{of_names}
use Rattle.replay.specs.Methods.{of_history}
use Rattle.replay.specs.Commands.{of_command}
use Rattle.replay.specs.Requests.{of_request}
use Rattle.replay.specs.declared.verdict.Verdict.{Verdict}
use Rattle.replay.specs.declared.verdict.Verdict.TheVariants.{Case, Last}

-- what ours says to an input of the kind that a letter names
unfoldable pub ours : ℕ → List ℕ → Option (List ℕ)
ours letter input =
    cond (eqb letter 116) (of_type input)  -- t
    (cond (eqb letter 104) (of_header input)  -- h
    (cond (eqb letter 101 || eqb letter 100) (of_extent input)  -- e, d
    (cond (eqb letter 115) (of_store input)  -- s
    (cond (eqb letter 118) (of_number input)  -- v
    (cond (eqb letter 119) (of_write input)  -- w
    (cond (eqb letter 99 || eqb letter 120) (of_command input)  -- c, x
    (cond (eqb letter 105) (of_names input)  -- i
    (cond (eqb letter 109) (of_history input)  -- m
    (cond (eqb letter 113 || eqb letter 121) (of_request input) None)))))))))  -- q, y

-- go on with what could be read
abbrev pub known : Option (List ℕ) → (List ℕ → Option Verdict) → Option Verdict
known None f = None
known (Some x) f = f x

-- what that makes of a line
abbrev pub agreed : ℕ → Option Bool → Option Verdict
agreed letter (Some b) = Some (Case letter b)
agreed letter None = None

-- a case: the second field is what ours says to the first
unfoldable pub recorded : ℕ → List ℕ → List ℕ → Option Verdict
recorded letter a b = known (field a) (λ input. known (field b) (λ held. agreed letter (agreement (ours letter input) held)))

abbrev pub case_of : ℕ → List (List ℕ) → Option Verdict
case_of letter [] = None
case_of letter (a ∷ []) = None
case_of letter (a ∷ b ∷ []) = recorded letter a b
case_of letter (a ∷ b ∷ c ∷ more) = None

-- a case that agrees only where something besides holds
abbrev pub besides : Option Verdict → Bool → Option Verdict
besides (Some (Case letter b)) other = Some (Case letter (b && other))
besides (Some (Last n)) other = None
besides None other = None

-- a listed difference: a case, and the third field, the other program's answer, is another than the second
unfoldable pub listed : ℕ → List ℕ → List ℕ → List ℕ → Option Verdict
listed letter a b c = known (field b) (λ held. known (field c) (λ other. besides (recorded letter a b) (not (same held other))))

abbrev pub difference_of : ℕ → List (List ℕ) → Option Verdict
difference_of letter [] = None
difference_of letter (a ∷ []) = None
difference_of letter (a ∷ b ∷ []) = None
difference_of letter (a ∷ b ∷ c ∷ []) = listed letter a b c
difference_of letter (a ∷ b ∷ c ∷ d ∷ more) = None

-- the last line: how many lines stand before it, in four bytes
abbrev pub last_of : List (List ℕ) → Option Verdict
last_of [] = None
last_of (a ∷ []) = known (hex 4 a) (λ count. cond (eqb (length count) 4) (Some (Last (le count))) None)
last_of (a ∷ b ∷ more) = None

-- the letter says what the fields mean
unfoldable pub by_letter : ℕ → List (List ℕ) → Option Verdict
by_letter letter fields =
    cond (eqb letter 110) (last_of fields)  -- n
    (cond (eqb letter 100 || eqb letter 120 || eqb letter 121) (difference_of letter fields)  -- d, x, y
    (case_of letter fields))

-- the first word is a letter, the others are fields
abbrev pub worded : List (List ℕ) → Option Verdict
worded [] = None
worded ([] ∷ fields) = None
worded ((letter ∷ []) ∷ fields) = by_letter letter fields
worded ((letter ∷ b ∷ more) ∷ fields) = None

-- WHAT IS TO BE SAID OF A LINE
unfoldable pub judged : List ℕ → Option Verdict
judged line = worded (split space line)
