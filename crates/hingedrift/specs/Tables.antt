-- Definitions. The table functions towards C: what crate `reporting` says of its operations on a table's bytes (specs/Lent.antt), in numbers. Each
-- gives document 01's number, the bytes afterwards, and results; bytes that are no table get 8, stay as they are, and every result is 0.
use Rattle.std.specs.Prelude.{ℕ, Bool, cond, ◌&&◌, List, [], ℤ, ltb, eqb}
use Rattle.frame.specs.Answer.{refusal_number}
use Rattle.frame.specs.declared.answer.Refusal.TheVariants.{NotATable, NotASavedForm}
use Rattle.reporting.specs.declared.entry.Key.{Key}
use Rattle.reporting.specs.declared.entry.ReportingConfig.{ReportingConfig}
use Rattle.reporting.specs.Table.{capacity}
use Rattle.reporting.specs.Carried.{size_ok, is_table, table_bytes}
use Rattle.reporting.specs.Lent.{table_number, ask_lent, configuration_lent, mark_lent, clear_lent, configure_lent}

-- a cluster and an attribute, as C hands them over
abbrev pub key_as : ℕ → ℕ → Key
key_as cluster attribute = record { cluster = record { 0 = cluster }; attribute = record { 0 = attribute } }

-- a mark is 0, signed, or 1, unsigned
abbrev pub config_of : ℕ → ℕ → ℕ → ℕ → ReportingConfig
config_of minimum maximum change mark =
    record { min_interval = minimum; max_interval = maximum; reportable_change = change; unsigned = eqb mark 1 }

abbrev pub bit : Bool → ℕ
bit b = cond b 1 0

-- what a call leaves
pub record Left (R : Type 0) : Type 0 where
  pub number : ℕ
  pub table : List ℕ
  pub result : R

abbrev pub left : {R : Type 0} → ℕ → List ℕ → R → Left R
left n bs r = record { number = n; table = bs; result = r }

-- no result
abbrev pub no_result : Unit {0}
no_result = tt

-- hd_table_new: the bytes of an empty table, where they have its size
unfoldable pub new_left : List ℕ → Left (Unit {0})
new_left bs = cond (size_ok capacity bs) (left 0 (table_bytes capacity []) no_result) (left (refusal_number NotATable) bs no_result)

-- hd_configure: whether it was accepted; "13 for a mark other than 0 or 1", of a table, which stays as it is
abbrev pub configure_left : List ℕ → Key → ReportingConfig → ℕ → Left ℕ
configure_left bs k g mark =
    let x = configure_lent k g bs in
    cond (is_table capacity bs && ltb 1 mark) (left (refusal_number NotASavedForm) bs 0) (left x.told.number x.bytes (bit x.told.accepted))

-- hd_clear
abbrev pub clear_left : List ℕ → Key → Left (Unit {0})
clear_left bs k = let x = clear_lent k bs in left (table_number x.done) x.bytes no_result

-- hd_mark
abbrev pub mark_left : List ℕ → Key → ℕ → ℤ → Left (Unit {0})
mark_left bs k now v = let x = mark_lent k now v bs in left (table_number x.done) x.bytes no_result

-- hd_ask: whether a report is due
abbrev pub ask_left : List ℕ → Key → ℕ → ℤ → Left ℕ
ask_left bs k now v = let x = ask_lent k now v bs in left x.number bs (bit x.due)

-- hd_configuration: whether there is one, its three numbers and its mark
pub record Configuration : Type 0 where
  pub found : ℕ
  pub minimum : ℕ
  pub maximum : ℕ
  pub change : ℕ
  pub mark : ℕ

abbrev pub configuration_as : ℕ → ℕ → ℕ → ℕ → ℕ → Configuration
configuration_as found minimum maximum change mark = record { found = found; minimum = minimum; maximum = maximum; change = change; mark = mark }

abbrev pub configuration_by : Bool → ReportingConfig → Configuration
configuration_by found g = configuration_as (bit found) g.min_interval g.max_interval g.reportable_change (bit g.unsigned)

abbrev pub configuration_left : List ℕ → Key → Left Configuration
configuration_left bs k = let x = configuration_lent k bs in left x.number bs (configuration_by x.found x.configuration)
