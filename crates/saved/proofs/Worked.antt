-- Saved forms, computed: what is one, and what is not (docs/TABLE.md has the example). Assumes nothing.
use mathlib.Core.Path.{◌≡◌, refl}
use mathlib.Core.Bool.{Bool, true, false}
use mathlib.Core.List.{List, [], ◌∷◌, ◌++◌}
use Prim.Native.Nat.{ℕ}
use lib.IntN.{negsuc}
use Rattle.types.specs.Number.{le, bytes_of}
use Rattle.reporting.specs.declared.entry.Key.{Key}
use Rattle.reporting.specs.declared.entry.Entry.{Entry}
use Rattle.reporting.specs.Entries.{distinct, fresh}
use Rattle.reporting.specs.Table.{capacity}
use Rattle.reporting.specs.Carried.{laid, numbers_in, rows_laid, rows_in}
use Rattle.saved.specs.Saved.{marked, contents_from, saved_bytes, all_set, entries_from, saved_in, follow_on, marks_ok, is_laid, is_saved, form_in}

-- cluster 0402, attribute 0000, 10 to 300 seconds, change 50
abbrev key : Key
key = record { cluster = record { 0 = 0x0402 }; attribute = record { 0 = 0x0000 } }

abbrev entry : Entry
entry = fresh key (record { min_interval = 10; max_interval = 300; reportable_change = 50; unsigned = false })

-- the same with a last report
abbrev reported : Entry
reported = record { key = key; config = entry.config; marked = true; last_time = 100000; last_value = negsuc 4 }

-- its form, with any offset, maximum and mark
abbrev form : ℕ → List ℕ → List ℕ → List ℕ
form offset maximum mark =
    0x01 ∷ 0x02 ∷ 0x04 ∷ 0x00 ∷ 0x00 ∷ offset ∷ 0x00 ∷ 0x0a ∷ 0x00 ∷ (maximum ++ (0x32 ∷ 0x00 ∷ 0x00 ∷ 0x00 ∷ 0x00 ∷ 0x00 ∷ 0x00 ∷ 0x00 ∷ mark))

-- 300 seconds, and signed
abbrev good : List ℕ
good = form 0x07 (0x2c ∷ 0x01 ∷ []) (0x00 ∷ [])

-- the same without a mark
abbrev old : List ℕ
old = form 0x07 (0x2c ∷ 0x01 ∷ []) []

abbrev is : List ℕ → Bool
is bs = is_saved (form_in bs) capacity bs

pub record Computed : Type 0 where
  pub written : saved_bytes marked (reported ∷ []) ≡ good
  pub read : saved_in (form_in good) good ≡ entry ∷ []
  pub accepted : is good ≡ true
  -- a form without marks is read as signed, and written with marks
  pub old_accepted : is old ≡ true
  pub old_read : saved_in (form_in old) old ≡ entry ∷ []
  pub old_written : saved_bytes marked (saved_in (form_in old) old) ≡ good
  -- mark 1 is unsigned; mark 2 is none
  pub mark_1 : is (form 0x07 (0x2c ∷ 0x01 ∷ []) (0x01 ∷ [])) ≡ true
  pub mark_2 : is (form 0x07 (0x2c ∷ 0x01 ∷ []) (0x02 ∷ [])) ≡ false
  -- an empty table is one byte; no byte is none, and neither is a byte behind it
  pub empty : is (0x00 ∷ []) ≡ true
  pub none : is [] ≡ false
  pub behind : is (0x00 ∷ 0x00 ∷ []) ≡ false
  -- an offset that does not follow on; a maximum of ffff, or below the minimum; a count without its entries
  pub gap : is (form 0x08 (0x2c ∷ 0x01 ∷ []) (0x00 ∷ [])) ≡ false
  pub off : is (form 0x07 (0xff ∷ 0xff ∷ []) (0x00 ∷ [])) ≡ false
  pub below : is (form 0x07 (0x09 ∷ 0x00 ∷ []) (0x00 ∷ [])) ≡ false
  pub short : is (0x02 ∷ []) ≡ false
  -- maximum 0 is a saved form
  pub change_alone : is (form 0x07 (0x00 ∷ 0x00 ∷ []) (0x00 ∷ [])) ≡ true
  -- a key twice is not written
  pub twice : distinct (entry ∷ reported ∷ []) ≡ false

pub computed : Computed
unfolding le bytes_of laid numbers_in rows_laid rows_in contents_from saved_bytes distinct all_set entries_from saved_in follow_on marks_ok is_laid is_saved
computed =
    record {
      written = refl;
      read = refl;
      accepted = refl;
      old_accepted = refl;
      old_read = refl;
      old_written = refl;
      mark_1 = refl;
      mark_2 = refl;
      empty = refl;
      none = refl;
      behind = refl;
      gap = refl;
      off = refl;
      below = refl;
      short = refl;
      change_alone = refl;
      twice = refl;
    }
