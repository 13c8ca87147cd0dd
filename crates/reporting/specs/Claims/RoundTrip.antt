-- Claims. A table has one form as bytes (document 01: "Towards C the table travels as lent bytes, last reports included"), over the limit.
use Rattle.std.specs.Prelude.{ℕ, ◌^◌, ◌≤◌, ◌<◌, ◌≡◌, true, false, List, length, pos}
use Rattle.std.specs.Int.Signed.{mag}
use Rattle.types.specs.Number.{AllBytes}
use Rattle.frame.specs.Walk.{All}
use Rattle.reporting.specs.declared.entry.Entry.{Entry}
use Rattle.reporting.specs.Carried.{table_bytes, table_in, is_table}

-- an entry that has one form: every field within its width, and without a report no time and no value
pub record Clean (e : Entry) : Type 0 where
  pub cluster : e.key.cluster.0 < 2 ^ 16
  pub attribute : e.key.attribute.0 < 2 ^ 16
  pub minimum : e.config.min_interval < 2 ^ 16
  pub maximum : e.config.max_interval < 2 ^ 16
  pub change : e.config.reportable_change < 2 ^ 64
  pub time : e.last_time < 2 ^ 32
  pub value : mag e.last_value < 2 ^ 63
  pub quiet : e.marked ≡ false → (e.last_time ≡ 0) × (e.last_value ≡ pos 0)

abbrev pub AllClean : List Entry → Type 0
AllClean l = All Clean l

-- entries as bytes are a table
abbrev pub TableIs : Type 0
TableIs = (limit : ℕ) (l : List Entry) → length l ≤ limit → AllClean l → is_table limit (table_bytes limit l) ≡ true

-- table to bytes and back is the same table
abbrev pub TableBack : Type 0
TableBack = (limit : ℕ) (l : List Entry) → length l ≤ limit → AllClean l → table_in (table_bytes limit l) ≡ l

-- bytes to table and back are the same bytes
abbrev pub BytesBack : Type 0
BytesBack = (limit : ℕ) (bs : List ℕ) → AllBytes bs → is_table limit bs ≡ true → table_bytes limit (table_in bs) ≡ bs
