-- Claims. No second answer fits a contract.
use Rattle.std.specs.Prelude.{◌≡◌, true, List, ℕ, length, Result}
use Rattle.types.specs.declared.ids.TypeId.{TypeId}
use Rattle.types.specs.Number.{AllBytes}
use Rattle.frame.specs.declared.answer.Refusal.{Refusal}
use Rattle.frame.specs.declared.header.ZclHeader.{ZclHeader}
use Rattle.frame.specs.Answer.{no_state, seen}
use Rattle.reporting.specs.Table.{capacity, holding}
use Rattle.reporting.specs.Carried.{table_in, is_table}
use Rattle.configure.specs.Request.{change_width}
use Rattle.configure.specs.Configuration.{configuration_of}
use Rattle.configure.specs.Configure.{configure_of}

-- src/change.rt
abbrev pub ChangeWidthOnce : Type 0
ChangeWidthOnce = (type_id : TypeId) (r q : ℕ) → r ≡ change_width type_id.0 → q ≡ change_width type_id.0 → r ≡ q

-- src/configuration.rt
abbrev pub ReadReportingConfigurationOnce : Type 0
ReadReportingConfigurationOnce =
    (store table : List ℕ) (request : ZclHeader) (body reply : List ℕ) (r q : Result ℕ Refusal) (x y : List ℕ)
    → seen r x no_state ≡ configuration_of 8 store (holding (table_in table)) request body (length reply)
    → seen q y no_state ≡ configuration_of 8 store (holding (table_in table)) request body (length reply)
    → (r ≡ q) × (x ≡ y)

-- src/configure.rt. That the bytes afterwards are a table, and each below 256, their types say.
abbrev pub ConfigureReportingOnce : Type 0
ConfigureReportingOnce =
    (store table : List ℕ) (request : ZclHeader) (body reply : List ℕ) (r q : Result ℕ Refusal) (x y t u : List ℕ)
    → AllBytes t
    → AllBytes u
    → is_table capacity t ≡ true
    → is_table capacity u ≡ true
    → seen r x (holding (table_in t)) ≡ configure_of 8 capacity store (holding (table_in table)) request body (length reply)
    → seen q y (holding (table_in u)) ≡ configure_of 8 capacity store (holding (table_in table)) request body (length reply)
    → (r ≡ q) × ((x ≡ y) × (t ≡ u))
