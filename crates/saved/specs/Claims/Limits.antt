-- Claims. Saved forms under two limits (document 02, request 7: "Saved forms of up to 16 entries keep their bytes"; "an old box gives 13 for a count above 16"). What is written has no
-- limit in it (Saved.antt: `saved_bytes`). An old box is `restore_under 16`.
use Rattle.std.specs.Prelude.{◌≡◌, true, List, [], ◌∷◌, ℕ, zero, suc, ◌<◌, ◌≤◌, Err, Ok}
use Rattle.types.specs.Number.{AllBytes, zeros}
use Rattle.reporting.specs.declared.entry.Entry.{Entry}
use Rattle.frame.specs.declared.answer.Refusal.TheVariants.{NotASavedForm}
use Rattle.reporting.specs.Entries.{fresh}
use Rattle.reporting.specs.Table.{capacity, zero_config}
use Rattle.reporting.specs.Carried.{count_in, size_ok, table_size, table_bytes}
use Rattle.reporting.specs.Lent.{left_as}
use Rattle.saved.specs.Saved.{Form, marked, saved_bytes, saved_in, is_saved}
use Rattle.saved.specs.Lent.{restore_under}

-- ---- any two limits

-- a count within the smaller limit: a saved form under both, or under neither
abbrev pub FormUnderLimits : Type 0
FormUnderLimits = (f : Form) (small large : ℕ) (bs : List ℕ) → count_in bs ≤ small → small ≤ large → is_saved f small bs ≡ is_saved f large bs

-- a count above the limit: 13, and an empty table
abbrev pub FormAboveLimit : Type 0
FormAboveLimit = (limit : ℕ) (form bs : List ℕ) → limit < count_in form → size_ok limit bs ≡ true → restore_under limit form bs ≡ left_as (Err NotASavedForm) (table_bytes limit [])

-- ---- document 01's sixteen, and a table now

-- what an old box saved is a saved form now, and its entries are written as the same bytes
abbrev pub SixteenKeepBytes : Type 0
SixteenKeepBytes = (bs : List ℕ) → AllBytes bs → is_saved marked 16 bs ≡ true → (is_saved marked capacity bs ≡ true) × (saved_bytes marked (saved_in marked bs) ≡ bs)

-- n entries, from attribute i of cluster 0 on, and what a box with so much room leaves of their form over a blank table
abbrev pub in_row : ℕ → ℕ → List Entry
in_row zero i = []
in_row (suc n) i = fresh (record { cluster = record { 0 = 0 }; attribute = record { 0 = i } }) zero_config ∷ in_row n (suc i)

-- sixteen entries are read by both, seventeen and 128 by a table now alone, and 129 by neither
pub record OldBox : Type 0 where
  pub sixteen_then : restore_under 16 (saved_bytes marked (in_row 16 0)) (zeros (table_size 16)) ≡ left_as (Ok true) (table_bytes 16 (in_row 16 0))
  pub sixteen_now : restore_under capacity (saved_bytes marked (in_row 16 0)) (zeros (table_size capacity)) ≡ left_as (Ok true) (table_bytes capacity (in_row 16 0))
  pub seventeen_then : restore_under 16 (saved_bytes marked (in_row 17 0)) (zeros (table_size 16)) ≡ left_as (Err NotASavedForm) (table_bytes 16 [])
  pub seventeen_now : restore_under capacity (saved_bytes marked (in_row 17 0)) (zeros (table_size capacity)) ≡ left_as (Ok true) (table_bytes capacity (in_row 17 0))
  pub past_now : restore_under capacity (saved_bytes marked (in_row 129 0)) (zeros (table_size capacity)) ≡ left_as (Err NotASavedForm) (table_bytes capacity [])
