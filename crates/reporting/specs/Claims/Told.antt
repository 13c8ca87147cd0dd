-- Claims. What the Booleans of `mark_lent`, `clear_lent` and `write_table` tell: document 01's number, and the bytes afterwards.
use Rattle.std.specs.Prelude.{◌≡◌, Bool, cond, ◌&&◌, List, ℕ, take, leb, ℤ}
use Rattle.reporting.specs.declared.entry.Key.{Key}
use Rattle.reporting.specs.declared.table.ReportingTable.{ReportingTable}
use Rattle.reporting.specs.Entries.{clear_l, mark_l}
use Rattle.reporting.specs.Table.{capacity}
use Rattle.reporting.specs.Carried.{size_ok, table_bytes, written, write_t}
use Rattle.reporting.specs.Lent.{table_number, on_lent, mark_lent, clear_lent}

pub record WrittenTold : Type 0 where
  pub number : ℕ
  pub bytes : List ℕ

abbrev pub written_as : ℕ → List ℕ → WrittenTold
written_as n bytes = record { number = n; bytes = bytes }

abbrev pub written_told : Bool → List ℕ → WrittenTold
written_told done bytes = written_as (table_number done) bytes

-- ---- so each tells, by its contract: 0 and the table's bytes, or 8 and the bytes as they were

abbrev pub MarkLentTells : Type 0
MarkLentTells =
    (bytes : List ℕ) (key : Key) (now : ℕ) (value : ℤ) (r : Bool) (x : List ℕ) → written r x ≡ mark_lent key now value bytes
    → written_told r x ≡ on_lent bytes (written_as 8 bytes) (λ l. written_as 0 (table_bytes capacity (mark_l key now value l)))

abbrev pub ClearLentTells : Type 0
ClearLentTells =
    (bytes : List ℕ) (key : Key) (r : Bool) (x : List ℕ) → written r x ≡ clear_lent key bytes
    → written_told r x ≡ on_lent bytes (written_as 8 bytes) (λ l. written_as 0 (table_bytes capacity (clear_l key l)))

abbrev pub WriteTableTells : Type 0
WriteTableTells =
    (bytes : List ℕ) (table : ReportingTable) (r : Bool) (x : List ℕ) → written r x ≡ write_t capacity table bytes
    → written_told r x
    ≡ cond (size_ok capacity bytes && leb table.count capacity) (written_as 0 (table_bytes capacity (take table.count table.entries))) (written_as 8 bytes)
