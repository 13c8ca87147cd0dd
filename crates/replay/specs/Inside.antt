-- Inside. What inner functions say; nothing that a reader of the program must believe.
use denote.Ref.{Bor}
use Rattle.std.specs.Prelude.{◌≡◌, Bool, true, false, cond, ◌&&◌, List, [], ◌∷◌, ◌++◌, ℕ, ◌+◌, ◌-◌, ◌≤◌, length, get_or, take, drop, eqb, None, Option, Some}
use Rattle.replay.specs.Bytes.{same}
use Rattle.replay.specs.Commands.{next}
use Rattle.reporting.specs.Table.{Table, table_of}
use Rattle.replay.specs.Methods.{Called}
use Rattle.replay.specs.declared.commands.Place.{Place}
use Rattle.replay.specs.declared.methods.Given.{Given}

-- ---- bytes that are compared

-- whether a list starts with these bytes
unfoldable pub starts : List ℕ → List ℕ → Bool
starts [] ys = true
starts (x ∷ xs) [] = false
starts (x ∷ xs) (y ∷ ys) = eqb x y && starts xs ys

-- where these bytes end, if they stand at `at`
unfoldable pub matched : List ℕ → ℕ → List ℕ → Option ℕ
matched s at bytes = cond (starts bytes (drop at s)) (Some (at + length bytes)) None

-- ---- a text

-- a byte in front of the first part
abbrev pub before : ℕ → Option (List ℕ × List ℕ) → Option (List ℕ × List ℕ)
before b None = None
before b (Some p) = Some (b ∷ p.0, p.1)

-- what stands before the first mark, and what stands behind it
unfoldable pub cut : ℕ → List ℕ → Option (List ℕ × List ℕ)
cut mark [] = None
cut mark (b ∷ bs) = let p : Option (List ℕ × List ℕ) = cut mark bs in cond (eqb b mark) (Some ([], bs)) (before b p)

-- the parts that are lent
abbrev pub parts : Option (Bor (List ℕ) × Bor (List ℕ)) → Option (List ℕ × List ℕ)
parts None = None
parts (Some p) = Some (p.0.now, p.1.now)

-- what a buffer holds, by the answer of what filled it
abbrev pub told : Option ℕ → List ℕ → Option (List ℕ)
told (Some n) d = Some (take n d)
told None d = None

-- what was put lies within the buffer
abbrev pub Within : Option ℕ → List ℕ → Type 0
Within (Some n) d = n ≤ length d
Within None d = Unit {0}

-- ---- the answers to a frame

-- an answer is the one that was last told
unfoldable pub again : List ℕ → Place → List ℕ → Bool
again held p this = starts this (drop p.from held) && eqb (p.from + length this) p.to

-- the answer that was last told lies where the place says, and the place is within what was recorded
pub record Lies (held : List ℕ) (p : Place) (last : List ℕ) : Type 0 where
  pub is : take (p.to - p.from) (drop p.from held) ≡ last
  pub ordered : p.from ≤ p.to
  pub before : p.to ≤ p.at
  pub within : p.at ≤ length held

-- an answer was found and the comparison goes on behind it, or it was not found and nothing is the same
pub record Goes (held : List ℕ) (p : Place) (bytes this : List ℕ) (q : Place) : Type 0 where
  pub lies : Lies held q this
  pub more : (rest : List ℕ) → same (bytes ++ rest) (drop p.at held) ≡ same rest (drop q.at held)

pub record Stops (held : List ℕ) (p : Place) (bytes : List ℕ) : Type 0 where
  pub none : (rest : List ℕ) → same (bytes ++ rest) (drop p.at held) ≡ false

abbrev pub Turns : List ℕ → Place → List ℕ → List ℕ → Option Place → Type 0
Turns held p bytes this (Some q) = Goes held p bytes this q
Turns held p bytes this None = Stops held p bytes

-- one answer, whatever was told before it
abbrev pub Turned : List ℕ → Place → List ℕ → Option Place → Type 0
Turned held p this r = (last : List ℕ) → Lies held p last → Turns held p (next last this) this r

-- ---- a call on a table

-- where its answer ends, if it stands where it is looked for, and the table that it leaves
pub record Found : Type 0 where
  pub at : Option ℕ
  pub table : Table

abbrev pub given : Given → Found
given g = record { at = g.at; table = table_of g.table }

abbrev pub found : List ℕ → ℕ → Called → Found
found held at c = record { at = matched held at c.says; table = c.table }

-- ---- counts

-- every count is at most so much
abbrev pub AtMost : ℕ → List ℕ → Type 0
AtMost n counts = (k : ℕ) → get_or counts k 0 ≤ n
