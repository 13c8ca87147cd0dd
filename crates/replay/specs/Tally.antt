-- Definitions. How many lines of each kind agree, over a whole list.
use Rattle.std.specs.Prelude.{ℕ, ◌+◌, ◌%◌, Bool, true, false, cond, ◌&&◌, ◌||◌, not, List, [], ◌∷◌, get_or, set, replicate, ltb, eqb, None, Option, Some}
use Rattle.replay.specs.Line.{split, newline}
use Rattle.replay.specs.Verdict.{judged}
use Rattle.replay.specs.declared.verdict.Verdict.{Verdict}
use Rattle.replay.specs.declared.verdict.Verdict.TheVariants.{Case, Last}
use Rattle.replay.specs.declared.tally.Tally.{Tally}

-- counts stand by the place of a kind's letter in the alphabet
abbrev pub row_of : ℕ → ℕ
row_of letter = letter % 32

-- one more of a kind
abbrev pub raise : List ℕ → ℕ → List ℕ
raise counts letter = set counts (row_of letter) (get_or counts (row_of letter) 0 + 1)

-- no line yet
abbrev pub start : Tally
start = record { agree = replicate 32 0; of = replicate 32 0; lines = 0; first = 0; whole = false }

-- one line more: `first` is the first that does not agree, counted from 1, and 0 where all do
unfoldable pub counted : Tally → ℕ → Bool → Tally
counted t letter agrees =
    record {
      agree = cond agrees (raise t.agree letter) t.agree;
      of = raise t.of letter;
      lines = t.lines + 1;
      first = cond (agrees || not (eqb t.first 0)) t.first (t.lines + 1);
      whole = t.whole;
    }

-- what stands behind a line is nothing: it was the last, and its newline ends the list
abbrev pub nothing : List (List ℕ) → Bool
nothing [] = false
nothing ([] ∷ []) = true
nothing ([] ∷ m ∷ more) = false
nothing ((b ∷ line) ∷ more) = false

-- the last line: the list is whole where it has a line, the count is right, and nothing follows
unfoldable pub closed : Tally → ℕ → List (List ℕ) → Tally
closed t count more =
    record { agree = t.agree; of = t.of; lines = t.lines; first = t.first; whole = ltb 0 t.lines && (eqb count t.lines && nothing more) }

-- go on by what is said of a line
abbrev pub turn : Tally → Option Verdict → List (List ℕ) → (Tally → Tally) → Tally
turn t (Some (Case letter agrees)) more rest = rest (counted t letter agrees)
turn t (Some (Last count)) more rest = closed t count more
turn t None more rest = t

-- a line ends with a newline: what stands behind the last one is no line
unfoldable pub tally_from : Tally → List (List ℕ) → Tally
tally_from t [] = t
tally_from t (line ∷ []) = t
tally_from t (line ∷ m ∷ more) = turn t (judged line) (m ∷ more) (λ u. tally_from u (m ∷ more))

-- THE TALLY of a list, up to its end, its last line or the first line that cannot be read
abbrev pub tally_of : List ℕ → Tally
tally_of list = tally_from start (split newline list)
