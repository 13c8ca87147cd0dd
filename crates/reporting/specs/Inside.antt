-- Inside. What inner functions say; nothing that a caller must believe.
use Rattle.std.specs.Prelude.{true, List, ℕ, Ok, Bool}
use Rattle.reporting.specs.declared.entry.Key.{Key}
use Rattle.reporting.specs.declared.entry.ReportingConfig.{ReportingConfig}
use Rattle.reporting.specs.declared.entry.Entry.{Entry}
use Rattle.reporting.specs.Entries.{accepts_l, configure_l}
use Rattle.reporting.specs.Table.{capacity, ChangeTold, change_told}
use Rattle.reporting.specs.Carried.{Reading, table_read, read_t}

-- ---- on bytes that are known to be a table: what is said, and the table that the bytes are afterwards

pub record ChangeKept : Type 0 where
  pub told : ChangeTold
  pub table : Reading

abbrev pub kept_as : Bool → List ℕ → ChangeKept
kept_as accepted bytes = record { told = change_told (Ok accepted); table = read_t capacity bytes }

unfoldable pub configure_in : Key → ReportingConfig → List Entry → ChangeKept
configure_in k g l =
    record { told = change_told (Ok (accepts_l capacity k l)); table = table_read true (configure_l capacity k g l) }
