-- Definitions. The table as a value of slots and a count, what its operations say, and what they leave (document 01, "The reporting table
-- ..", and number 8 of "What a call says back"; document 02, request 7).
use Rattle.std.specs.Prelude.{◌≡◌, ◌⊎◌, Bool, true, false, cond, List, [], ℕ, ◌<◌, length, take, ltb, ℤ, Err, None, Ok, Option, Result, Some}
use Rattle.frame.specs.Answer.{refusal_number}
use Rattle.frame.specs.declared.answer.Refusal.TheVariants.{NotATable}
use Rattle.reporting.specs.declared.entry.Key.{Key}
use Rattle.reporting.specs.declared.entry.ReportingConfig.{ReportingConfig}
use Rattle.reporting.specs.declared.entry.Entry.{Entry}
use Rattle.reporting.specs.declared.table.ReportingTable.{ReportingTable}
use Rattle.frame.specs.declared.answer.Refusal.{Refusal}
use Rattle.reporting.specs.declared.table.Changed.{Changed}
use Rattle.reporting.specs.Entries.{lookup_l, accepts_l, configure_l, clear_l, mark_l}
use Rattle.reporting.specs.Due.{due_l}

-- how many entries a table has room for: document 01's sixteen, 128 by document 02, request 7
abbrev pub capacity : ℕ
capacity = 128

-- ---- tables

-- A table is the entries below its count. With a count above the room it is none, and then every slot counts.
pub data Table : Type 0 where
  holding : List Entry → Table
  bad : ReportingTable → Table

-- "Slots past the count are no part of it"
abbrev pub live : ReportingTable → List Entry
live t = take t.count t.entries

abbrev pub table_of : ReportingTable → Table
table_of t = cond (ltb capacity t.count) (bad t) (holding (live t))

-- the entries of a table
abbrev pub entries_of : Table → List Entry
entries_of (holding l) = l
entries_of (bad t) = []

-- Two values are alike as tables: the same entries below their counts; and where one is no table, the same in every slot.
pub record Alike (t u : ReportingTable) : Type 0 where
  pub entries : live t ≡ live u
  pub whole : (capacity < t.count) ⊎ (capacity < u.count) → t ≡ u

-- ---- what each answer says: document 01's number, and the values

-- a configuration that finds no room is not accepted, but that is no refusal of the call
pub record ChangeTold : Type 0 where
  pub number : ℕ
  pub accepted : Bool

abbrev pub change_told : Result Bool Refusal → ChangeTold
change_told (Ok accepted) = record { number = 0; accepted = accepted }
change_told (Err why) = record { number = refusal_number why; accepted = false }

pub record ReportTold : Type 0 where
  pub number : ℕ
  pub due : Bool

abbrev pub report_told : Result Bool Refusal → ReportTold
report_told (Ok due) = record { number = 0; due = due }
report_told (Err why) = record { number = refusal_number why; due = false }

-- where there is no configuration its three numbers are 0
pub record SettingTold : Type 0 where
  pub number : ℕ
  pub found : Bool
  pub configuration : ReportingConfig

abbrev pub zero_config : ReportingConfig
zero_config = record { min_interval = 0; max_interval = 0; reportable_change = 0; unsigned = false }

abbrev pub setting_told : Result (Option ReportingConfig) Refusal → SettingTold
setting_told (Ok (Some g)) = record { number = 0; found = true; configuration = g }
setting_told (Ok None) = record { number = 0; found = false; configuration = zero_config }
setting_told (Err why) = record { number = refusal_number why; found = false; configuration = zero_config }

pub record LengthTold : Type 0 where
  pub number : ℕ
  pub length : ℕ

abbrev pub length_told : Result ℕ Refusal → LengthTold
length_told (Ok n) = record { number = 0; length = n }
length_told (Err why) = record { number = refusal_number why; length = 0 }

-- ---- the operations that may change the table

-- all that such an operation hands back
pub record HandedBack : Type 0 where
  pub told : ChangeTold
  pub table : Table

abbrev pub handed_back : Changed → HandedBack
handed_back r = record { told = change_told r.answer; table = table_of r.table }

abbrev pub done_t : List Entry → HandedBack
done_t l = record { told = change_told (Ok true); table = holding l }

abbrev pub full_t : List Entry → HandedBack
full_t l = record { told = change_told (Ok false); table = holding l }

-- a count above the room: refused with number 8, and handed back as it came, every slot and the count
abbrev pub refused_t : ReportingTable → HandedBack
refused_t t = record { told = change_told (Err NotATable); table = bad t }

abbrev pub configure_t : ℕ → Key → ReportingConfig → Table → HandedBack
configure_t limit k g (holding l) = cond (accepts_l limit k l) (done_t (configure_l limit k g l)) (full_t l)
configure_t limit k g (bad t) = refused_t t

abbrev pub clear_t : Key → Table → HandedBack
clear_t k (holding l) = done_t (clear_l k l)
clear_t k (bad t) = refused_t t

abbrev pub mark_t : Key → ℕ → ℤ → Table → HandedBack
mark_t k now v (holding l) = done_t (mark_l k now v l)
mark_t k now v (bad t) = refused_t t

-- ---- the operations that only look

abbrev pub ask_t : Key → ℕ → ℤ → Table → ReportTold
ask_t k now v (holding l) = record { number = 0; due = due_l k now v l }
ask_t k now v (bad t) = report_told (Err NotATable)

abbrev pub setting_o : Option Entry → SettingTold
setting_o None = setting_told (Ok None)
setting_o (Some e) = setting_told (Ok (Some e.config))

abbrev pub configuration_t : Key → Table → SettingTold
configuration_t k (holding l) = setting_o (lookup_l k l)
configuration_t k (bad t) = setting_told (Err NotATable)

abbrev pub length_t : Table → LengthTold
length_t (holding l) = length_told (Ok (length l))
length_t (bad t) = length_told (Err NotATable)
