-- Claims. Sizes are counted in four families (document 02, request 9: "a width is the low three bits plus one"), and none is another than types/ids.rs has.
use Rattle.std.specs.Prelude.{ℕ, ◌+◌, ◌%◌, ◌<◌, ◌≡◌, Bool, true, false, cond, ◌||◌, List, [], ◌∷◌, eqb, None, Option, Some}
use Rattle.types.specs.Ids.{among, size_of}

-- the families 08 to 0f, 18 to 1f, 20 to 27 and 28 to 2f
abbrev pub in_four : ℕ → Bool
in_four t = among 0x08 0x0f t || among 0x18 0x1f t || among 0x20 0x27 t || among 0x28 0x2f t

-- in these a size is the low three bits plus one
abbrev pub WidthsCounted : Type 0
WidthsCounted = (t : ℕ) → t < 256 → in_four t ≡ true → size_of t ≡ Some (t % 8 + 1)

-- an arm of `fixed_size` in types/ids.rs: a size, and the codes of its types in their order there
pub record Arm : Type 0 where
  pub size : ℕ
  pub codes : List ℕ

abbrev pub arm : ℕ → List ℕ → Arm
arm w codes = record { size = w; codes = codes }

abbrev pub arms : List Arm
arms =
    arm 0 (0x00 ∷ [])
    ∷ arm 1 (0x10 ∷ 0x08 ∷ 0x18 ∷ 0x20 ∷ 0x28 ∷ 0x30 ∷ [])
    ∷ arm 2 (0x09 ∷ 0x19 ∷ 0x21 ∷ 0x29 ∷ 0x31 ∷ 0x38 ∷ 0xe8 ∷ 0xe9 ∷ [])
    ∷ arm 3 (0x0a ∷ 0x1a ∷ 0x22 ∷ 0x2a ∷ [])
    ∷ arm 4 (0x0b ∷ 0x1b ∷ 0x23 ∷ 0x2b ∷ 0x39 ∷ 0xe0 ∷ 0xe1 ∷ 0xe2 ∷ 0xea ∷ [])
    ∷ arm 5 (0x0c ∷ 0x1c ∷ 0x24 ∷ 0x2c ∷ [])
    ∷ arm 6 (0x0d ∷ 0x1d ∷ 0x25 ∷ 0x2d ∷ [])
    ∷ arm 7 (0x0e ∷ 0x1e ∷ 0x26 ∷ 0x2e ∷ [])
    ∷ arm 8 (0x0f ∷ 0x1f ∷ 0x27 ∷ 0x2f ∷ 0x3a ∷ 0xf0 ∷ [])
    ∷ arm 16 (0xf1 ∷ [])
    ∷ []

abbrev pub is_named : List ℕ → ℕ → Bool
is_named [] t = false
is_named (k ∷ ks) t = eqb t k || is_named ks t

abbrev pub size_by : List Arm → ℕ → Option ℕ
size_by [] t = None
size_by (a ∷ more) t = let r = size_by more t in cond (is_named a.codes t) (Some a.size) r

-- every code has the size that it has there
abbrev pub SizesAsThere : Type 0
SizesAsThere = (t : ℕ) → t < 256 → size_of t ≡ size_by arms t
