-- Claims. Which numbers compare otherwise without their sign (document 02, request 6: "Where the mark is that of the value's type, other widths decide as before").
use Rattle.std.specs.Prelude.{◌≡◌, Bool, true, false, ◌&&◌, List, [], ◌∷◌, ℕ, ◌-◌, ◌^◌, ◌≤◌, ◌<◌, ltb, eqb, ℤ, pos, negsuc, None, Option, Some}
use Rattle.std.specs.Int.Signed.{mag}
use Rattle.types.specs.Number.{AllBytes}
use Rattle.types.specs.Ids.{size_of, is_analog, is_float}
use Rattle.types.specs.Value.{number_at}
use Rattle.reporting.specs.declared.entry.Entry.{Entry}
use Rattle.reporting.specs.Entries.{fresh, mark_e}
use Rattle.reporting.specs.Due.{dist, bits_of, dist_by, compares_unsigned, due_e}

abbrev pub eight_bytes : Option ℕ → Bool
eight_bytes (Some w) = eqb w 8
eight_bytes None = false

-- a type of 8 bytes that is no Int: document 01 keeps its bits, so that a number of it may be negative
abbrev pub keeps_bits : ℕ → Bool
keeps_bits t = compares_unsigned t && eight_bytes (size_of t)

-- ---- how far apart two numbers are

-- Of every other type two values, from their bytes, are as far apart by the type's mark as with their sign.
abbrev pub OthersAsBefore : Type 0
OthersAsBefore =
    (t : ℕ) (x y : List ℕ) (p q : ℕ) (v w : ℤ)
    → AllBytes x
    → AllBytes y
    → keeps_bits t ≡ false
    → number_at x p t ≡ Some v
    → number_at y q t ≡ Some w
    → dist_by (compares_unsigned t) v w ≡ dist v w

-- Two 64-bit numbers on one side of the middle, both below 2^63 without their sign or both not, are as far apart either way;
abbrev pub OneSideAsBefore : Type 0
OneSideAsBefore =
    (unsigned : Bool) (v w : ℤ) → mag v < 2 ^ 63 → mag w < 2 ^ 63 → ltb (bits_of v) (2 ^ 63) ≡ ltb (bits_of w) (2 ^ 63) → dist_by unsigned v w ≡ dist v w

-- and on two sides of it they have moved either way.
abbrev pub TwoSidesMoved : Type 0
TwoSidesMoved =
    (unsigned : Bool) (v w : ℤ)
    → mag v < 2 ^ 63
    → mag w < 2 ^ 63
    → (ltb (bits_of v) (2 ^ 63) ≡ ltb (bits_of w) (2 ^ 63) → ⊥)
    → 1 ≤ dist_by unsigned v w

-- ---- what is decided

-- an entry as it was before there were marks: its numbers compare as signed
abbrev pub signed_e : Entry → Entry
signed_e e =
    let g = e.config in
    record {
      key = e.key;
      config = record { min_interval = g.min_interval; max_interval = g.max_interval; reportable_change = g.reportable_change; unsigned = false };
      marked = e.marked;
      last_time = e.last_time;
      last_value = e.last_value;
    }

abbrev pub AsBefore : Entry → ℕ → ℤ → Type 0
AsBefore e now v = due_e e now v ≡ due_e (signed_e e) now v

-- "Where the mark is that of the value's type, other widths decide as before": of any two values of the type, from their bytes.
abbrev pub OthersDecideAsBefore : Type 0
OthersDecideAsBefore =
    (e : Entry) (t : ℕ) (x y : List ℕ) (p q now : ℕ) (v : ℤ)
    → AllBytes x
    → AllBytes y
    → keeps_bits t ≡ false
    → e.config.unsigned ≡ compares_unsigned t
    → number_at x p t ≡ Some e.last_value
    → number_at y q t ≡ Some v
    → AsBefore e now v

-- Under any mark, the type's or not, a change of 0 or 1 decides as before: it only asks whether the value has moved.
abbrev pub SmallChangesAsBefore : Type 0
SmallChangesAsBefore =
    (e : Entry) (now : ℕ) (v : ℤ) → mag e.last_value < 2 ^ 63 → mag v < 2 ^ 63 → e.config.reportable_change ≤ 1 → AsBefore e now v

-- The types that keep their bits and have a change of their own, by which a request may ask for 2 or more: Uint64 alone.
abbrev pub OnlyUint64 : Type 0
OnlyUint64 = (t : ℕ) → t < 256 → is_analog t ≡ true → is_float t ≡ false → keeps_bits t ≡ true → t ≡ 0x27

-- ---- the sub-meter that fell silent

-- From 0 to the top of a Uint64, ffffffffffffffff, whose bits are those of -1: 1 with a sign, and 2^64-1 without one.
abbrev pub FromNothingToTheTop : Type 0
FromNothingToTheTop = (dist_by false (pos 0) (negsuc 0) ≡ 1) × (dist_by true (pos 0) (negsuc 0) ≡ 2 ^ 64 - 1)

-- configured with 10 to 300 seconds and a change of 2, by this mark, and reported at 100 with 0
abbrev pub meter : Bool → Entry
meter unsigned =
    mark_e 100 (pos 0)
    (fresh (record { cluster = record { 0 = 0x0702 }; attribute = record { 0 = 0x0000 } })
    (record { min_interval = 10; max_interval = 300; reportable_change = 2; unsigned = unsigned }))

abbrev pub top : List ℕ
top = 0xff ∷ 0xff ∷ 0xff ∷ 0xff ∷ 0xff ∷ 0xff ∷ 0xff ∷ 0xff ∷ []

-- Its top is -1 as a number is handed on. The minimum has just passed: yes now, and no before.
abbrev pub MeterSpeaks : Type 0
MeterSpeaks =
    (number_at top 0 0x27 ≡ Some (negsuc 0))
    × (compares_unsigned 0x27 ≡ true)
    × (due_e (meter true) 110 (negsuc 0) ≡ true)
    × (due_e (meter false) 110 (negsuc 0) ≡ false)
