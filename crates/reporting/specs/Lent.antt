-- Definitions. The table's operations on the bytes that carry it: what each says, and the bytes afterwards. Bytes that are no table are refused, and
-- stay as they are.
use Rattle.std.specs.Prelude.{Bool, true, false, cond, List, map, ℕ, ℤ, Err, Ok, Result}
use Rattle.frame.specs.Answer.{refusal_number}
use Rattle.frame.specs.declared.answer.Refusal.TheVariants.{NotATable}
use Rattle.reporting.specs.declared.entry.Key.{Key}
use Rattle.reporting.specs.declared.entry.ReportingConfig.{ReportingConfig}
use Rattle.reporting.specs.declared.entry.Entry.{Entry}
use Rattle.frame.specs.declared.answer.Refusal.{Refusal}
use Rattle.reporting.specs.Entries.{accepts_l, configure_l, clear_l, mark_l}
use Rattle.reporting.specs.Table.{capacity, Table, holding, bad, ChangeTold, change_told, ReportTold, report_told, ask_t, SettingTold, setting_told, configuration_t}
use Rattle.reporting.specs.Carried.{quieted, table_in, is_table, table_bytes, Written, written}

-- of a table's entries what `rest` says; of other bytes the refusal
unfoldable pub on_lent : {R : Type 0} → List ℕ → R → (List Entry → R) → R
on_lent bs refusal rest = cond (is_table capacity bs) (rest (table_in bs)) refusal

unfoldable pub ask_lent : Key → ℕ → ℤ → List ℕ → ReportTold
ask_lent k now v bs = on_lent bs (report_told (Err NotATable)) (λ l. ask_t k now v (holding l))

unfoldable pub configuration_lent : Key → List ℕ → SettingTold
configuration_lent k bs = on_lent bs (setting_told (Err NotATable)) (λ l. configuration_t k (holding l))

-- the number that a Boolean tells: whether the bytes were a table
abbrev pub table_number : Bool → ℕ
table_number known = cond known 0 (refusal_number NotATable)

-- whether the bytes were a table, and the bytes afterwards
unfoldable pub mark_lent : Key → ℕ → ℤ → List ℕ → Written
mark_lent k now v bs = on_lent bs (written false bs) (λ l. written true (table_bytes capacity (mark_l k now v l)))

unfoldable pub clear_lent : Key → List ℕ → Written
clear_lent k bs = on_lent bs (written false bs) (λ l. written true (table_bytes capacity (clear_l k l)))

-- what configuring says, and the bytes afterwards
pub record ChangeLeft : Type 0 where
  pub told : ChangeTold
  pub bytes : List ℕ

abbrev pub left_as : Result Bool Refusal → List ℕ → ChangeLeft
left_as answer bytes = record { told = change_told answer; bytes = bytes }

unfoldable pub configure_lent : Key → ReportingConfig → List ℕ → ChangeLeft
configure_lent k g bs =
    on_lent bs (left_as (Err NotATable) bs)
    (λ l. left_as (Ok (accepts_l capacity k l)) (table_bytes capacity (configure_l capacity k g l)))

-- the bytes of a table where it is one; else they stay
abbrev pub bytes_after : List ℕ → Table → List ℕ
bytes_after bs (holding l) = table_bytes capacity l
bytes_after bs (bad t) = bs

-- the table that the bytes of a table are
abbrev pub quieted_t : Table → Table
quieted_t (holding l) = holding (map quieted l)
quieted_t (bad t) = bad t
