-- Definitions. What ours says to calls on a table by value, one after the other, from an empty table on (kind m).
use Rattle.std.specs.Prelude.{ℕ, zero, suc, ◌/◌, ◌%◌, Bool, true, cond, ◌&&◌, false, List, [], ◌∷◌, ◌++◌, map, length, get_or, take, drop, leb, eqb, ℤ, None, Option, Some}
use Rattle.types.specs.Number.{bytes_of, unsigned_at, signed_at}
use Rattle.reporting.specs.declared.entry.Key.{Key}
use Rattle.reporting.specs.declared.entry.ReportingConfig.{ReportingConfig}
use Rattle.reporting.specs.Table.{capacity, Table, holding, bad, ChangeTold, ReportTold, SettingTold, LengthTold, HandedBack, configure_t, clear_t, mark_t, ask_t, configuration_t, length_t}
use Rattle.reporting.specs.Carried.{widths, rows_laid, numbers_of}
use Rattle.replay.specs.Ours.{bit_of}

-- ---- a call of 17 bytes: the operation (1), cluster (2), attribute (2), and twelve bytes by the operation

unfoldable pub key_in : List ℕ → Key
key_in c = record { cluster = record { 0 = unsigned_at c 1 2 }; attribute = record { 0 = unsigned_at c 3 2 } }

-- a configuration: minimum (2), maximum (2), change (8)
unfoldable pub config_in : List ℕ → ReportingConfig
config_in c = record { min_interval = unsigned_at c 5 2; max_interval = unsigned_at c 7 2; reportable_change = unsigned_at c 9 8; unsigned = false }

-- a report: time (4), value (8)
abbrev pub time_in : List ℕ → ℕ
time_in c = unsigned_at c 5 4

abbrev pub value_in : List ℕ → ℤ
value_in c = signed_at c 9 8

-- ---- its answer: the number, and a byte; of a configuration also its three numbers

abbrev pub change_says : ChangeTold → List ℕ
change_says x = x.number ∷ bit_of x.accepted ∷ []

abbrev pub report_says : ReportTold → List ℕ
report_says x = x.number ∷ bit_of x.due ∷ []

abbrev pub length_says : LengthTold → List ℕ
length_says x = x.number ∷ x.length % 256 ∷ []

abbrev pub config_says : ReportingConfig → List ℕ
config_says g = bytes_of 2 g.min_interval ++ bytes_of 2 g.max_interval ++ bytes_of 8 g.reportable_change

abbrev pub setting_says : SettingTold → List ℕ
setting_says x = x.number ∷ bit_of x.found ∷ config_says x.configuration

-- what a call says, and the table that it leaves
pub record Called : Type 0 where
  pub says : List ℕ
  pub table : Table

abbrev pub changing : HandedBack → Called
changing o = record { says = change_says o.told; table = o.table }

abbrev pub looking : Table → List ℕ → Called
looking t bytes = record { says = bytes; table = t }

unfoldable pub called : List ℕ → Table → Called
called c t =
    let op : ℕ = get_or c 0 0 in
    cond (eqb op 0) (changing (configure_t capacity (key_in c) (config_in c) t))
    (cond (eqb op 1) (changing (clear_t (key_in c) t))
    (cond (eqb op 2) (changing (mark_t (key_in c) (time_in c) (value_in c) t))
    (cond (eqb op 3) (looking t (report_says (ask_t (key_in c) (time_in c) (value_in c) t)))
    (cond (eqb op 4) (looking t (setting_says (configuration_t (key_in c) t)))
    (looking t (length_says (length_t t)))))))

-- ---- a history

-- a table as its bytes, as far as they are used: the count, and the slots below it
unfoldable pub table_says : Table → List ℕ
table_says (holding l) = length l ∷ rows_laid widths (map numbers_of l)
table_says (bad t) = []

-- the answers one behind the other, and the table afterwards
unfoldable pub history : List (List ℕ) → Table → List ℕ
history [] t = table_says t
history (c ∷ cs) t = (called c t).says ++ history cs (called c t).table

-- ---- m: calls

-- the first n calls of bytes
unfoldable pub calls_in : ℕ → List ℕ → List (List ℕ)
calls_in zero s = []
calls_in (suc n) s = take 17 s ∷ calls_in n (drop 17 s)

-- there are six operations
unfoldable pub are_calls : List (List ℕ) → Bool
are_calls [] = true
are_calls (c ∷ cs) = leb (get_or c 0 0) 5 && are_calls cs

unfoldable pub of_history : List ℕ → Option (List ℕ)
of_history input =
    let calls : List (List ℕ) = calls_in (length input / 17) input in
    cond (eqb (length input % 17) 0 && are_calls calls) (Some (history calls (holding []))) None
