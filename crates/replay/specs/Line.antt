-- Definitions. The text of a list: lines are parted by a newline, the words of a line by a space; a word is the digits of bytes.
use Rattle.std.specs.Prelude.{ℕ, zero, suc, ◌+◌, ◌-◌, ◌*◌, cond, ◌&&◌, List, [], ◌∷◌, ◌++◌, leb, eqb, None, Option, Some}
use Rattle.types.specs.Ids.{among}

-- ---- words

-- a byte in front of the first word
abbrev pub onto : ℕ → List (List ℕ) → List (List ℕ)
onto b [] = (b ∷ []) ∷ []
onto b (w ∷ ws) = (b ∷ w) ∷ ws

-- the words of a text, with a mark between each two; a text without a mark is one word
unfoldable pub split : ℕ → List ℕ → List (List ℕ)
split mark [] = [] ∷ []
split mark (b ∷ bs) = let ws : List (List ℕ) = split mark bs in cond (eqb b mark) ([] ∷ ws) (onto b ws)

abbrev pub space : ℕ
space = 32

abbrev pub newline : ℕ
newline = 10

-- ---- bytes

-- the value of a digit: 0 to 9, a to f; 16 of what is none
unfoldable pub digit_of : ℕ → ℕ
digit_of b = cond (among 48 57 b) (b - 48) (cond (among 97 102 b) (b - 97 + 10) 16)

-- bytes in front of those that were read, if any were
abbrev pub behind : List ℕ → Option (List ℕ) → Option (List ℕ)
behind bs None = None
behind bs (Some more) = Some (bs ++ more)

-- the bytes that digits stand for, two a byte, at most n of them
unfoldable pub hex : ℕ → List ℕ → Option (List ℕ)
hex n [] = Some []
hex zero (h ∷ more) = None
hex (suc n) (h ∷ []) = None
hex (suc n) (h ∷ l ∷ more) =
    let r : Option (List ℕ) = hex n more in
    cond (leb (digit_of h) 15 && leb (digit_of l) 15) (behind ((16 * digit_of h + digit_of l) ∷ []) r) None

-- A FIELD: at most 4608 bytes
abbrev pub field : List ℕ → Option (List ℕ)
field digits = hex 4608 digits
