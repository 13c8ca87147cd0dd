-- Claims. Document 01's example, with what is cut short.
use Rattle.std.specs.Prelude.{ℕ, ◌≡◌, List, [], ◌∷◌, ◌++◌, take}
use Rattle.server.specs.Claims.Bench.{T}
use Rattle.bench.specs.Bench.{bench_of}

-- "`3000`, T and frame 1"
abbrev pub example : List ℕ
example = 0x30 ∷ 0x00 ∷ (T 0x07 ++ (0x00 ∷ 0x2a ∷ 0x00 ∷ 0x00 ∷ 0x00 ∷ 0x09 ∷ 0x00 ∷ []))

-- "give, whole: `0 182a010000002300000080090086`": the codes of these characters
abbrev pub whole : List ℕ
whole =
    48 ∷ 32
    ∷ 49 ∷ 56 ∷ 50 ∷ 97 ∷ 48 ∷ 49
    ∷ 48 ∷ 48 ∷ 48 ∷ 48 ∷ 48 ∷ 48 ∷ 50 ∷ 51 ∷ 48 ∷ 48 ∷ 48 ∷ 48 ∷ 48 ∷ 48 ∷ 56 ∷ 48
    ∷ 48 ∷ 57 ∷ 48 ∷ 48 ∷ 56 ∷ 54
    ∷ []

-- the character 7
abbrev pub seven : List ℕ
seven = 55 ∷ []

-- THE CLAIM: the example; and 7 of it without the store's last byte and the request, of its first byte, and of nothing
abbrev pub Frame1Holds : Type 0
Frame1Holds = (bench_of example ≡ whole) × (bench_of (take 49 example) ≡ seven) × (bench_of (take 1 example) ≡ seven) × (bench_of [] ≡ seven)
