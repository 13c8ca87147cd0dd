-- Claims. A table has one saved form, and a saved form one table (document 02, request 5: "Writing then reading gives the same table without its last reports, and
-- reading then writing the same bytes"; request 6: a form without marks "is read as signed; reading then writing keeps the bytes of the new form"). Over every limit whose forms have a count of one byte and
-- offsets of two.
use Rattle.std.specs.Prelude.{◌≡◌, true, false, List, map, ℕ, ◌<◌, ◌≤◌, ◌^◌, length}
use Rattle.types.specs.Number.{AllBytes}
use Rattle.frame.specs.Walk.{All}
use Rattle.reporting.specs.declared.entry.Entry.{Entry}
use Rattle.reporting.specs.Entries.{unreported}
use Rattle.reporting.specs.Claims.RoundTrip.{AllClean}
use Rattle.saved.specs.Saved.{marked, plain, saved_size, saved_bytes, is_savable, saved_in, is_saved, form_in}

-- what writing makes is a saved form
abbrev pub SavedIs : Type 0
SavedIs =
    (limit : ℕ) (l : List Entry)
    → saved_size marked limit < 2 ^ 16
    → length l ≤ limit
    → AllClean l
    → is_savable l ≡ true
    → is_saved (form_in (saved_bytes marked l)) limit (saved_bytes marked l) ≡ true

-- writing then reading gives the same entries without their last reports
abbrev pub SavedBack : Type 0
SavedBack =
    (limit : ℕ) (l : List Entry)
    → saved_size marked limit < 2 ^ 16
    → length l ≤ limit
    → AllClean l
    → saved_in (form_in (saved_bytes marked l)) (saved_bytes marked l) ≡ map unreported l

-- reading then writing gives the same bytes: of a form with marks what is accepted is exactly what writing makes
abbrev pub FormBack : Type 0
FormBack = (limit : ℕ) (bs : List ℕ) → AllBytes bs → is_saved marked limit bs ≡ true → saved_bytes marked (saved_in marked bs) ≡ bs

-- a form without marks is that of its entries, each of them signed: so writing makes it the form with every mark 0
abbrev pub OldFormBack : Type 0
OldFormBack =
    (limit : ℕ) (bs : List ℕ)
    → AllBytes bs
    → is_saved plain limit bs ≡ true
    → (saved_bytes plain (saved_in plain bs) ≡ bs) × All (λ (e : Entry). e.config.unsigned ≡ false) (saved_in plain bs)
