-- Claims. No second answer fits a contract: one claim for each public function, of two results and exit buffers that meet it at the same entry
-- values. Of a table that comes back the slots past its count are no part (`Alike`).
use Rattle.std.specs.Prelude.{◌≡◌, Bool, true, List, [], ℕ, drop, ℤ, Option, Result, Ok, Some, is_some}
use Rattle.std.proofs.lemmas.List.Edits.{sets}
use Rattle.types.specs.Number.{AllBytes, bytes_of, unsigned_at}
use Rattle.reporting.specs.declared.entry.Key.{Key}
use Rattle.reporting.specs.declared.entry.ReportingConfig.{ReportingConfig}
use Rattle.reporting.specs.declared.entry.Wish.{Wish}
use Rattle.reporting.specs.declared.entry.Entry.{Entry}
use Rattle.reporting.specs.declared.table.ReportingTable.{ReportingTable}
use Rattle.frame.specs.declared.answer.Refusal.{Refusal}
use Rattle.reporting.specs.declared.table.Changed.{Changed}
use Rattle.reporting.specs.Table.{capacity, table_of, Alike, report_told, setting_told, length_told, handed_back, holding, configure_t, clear_t, mark_t, configuration_t, ask_t, length_t}
use Rattle.reporting.specs.Entries.{same, matches, find_l, fresh, clear_l, mark_e, mark_l}
use Rattle.reporting.specs.Due.{dist, dist_by, moved_by, ripe, due_e, due_l}
use Rattle.reporting.specs.Wish.{wish}
use Rattle.reporting.specs.Carried.{widths, laid, numbers_in, numbers_of, entry_of, table_in, is_table, table_read, reading, read_t, written, write_t}
use Rattle.reporting.specs.Lent.{ask_lent, configuration_lent, mark_lent, clear_lent, left_as, configure_lent}
use Rattle.reporting.specs.Inside.{kept_as, configure_in}

-- src/carried.rt
abbrev pub IsTableOnce : Type 0
IsTableOnce = (bytes : List ℕ) (r q : Bool) → r ≡ is_table capacity bytes → q ≡ is_table capacity bytes → r ≡ q

abbrev pub ReadTableOnce : Type 0
ReadTableOnce =
    (bytes : List ℕ) (r q : Option ReportingTable)
    → reading r ≡ read_t capacity bytes
    → reading q ≡ read_t capacity bytes
    → (is_some r ≡ is_some q) × ((t u : ReportingTable) → r ≡ Some t → q ≡ Some u → Alike t u)

abbrev pub WriteTableOnce : Type 0
WriteTableOnce =
    (bytes : List ℕ) (table : ReportingTable) (r q : Bool) (x y : List ℕ)
    → written r x ≡ write_t capacity table bytes
    → written q y ≡ write_t capacity table bytes
    → (r ≡ q) × (x ≡ y)

abbrev pub ReadSlotOnce : Type 0
ReadSlotOnce = (bytes : List ℕ) (at : ℕ) (r q : Entry) → r ≡ entry_of (numbers_in widths (drop at bytes)) → q ≡ entry_of (numbers_in widths (drop at bytes)) → r ≡ q

abbrev pub WriteSlotOnce : Type 0
WriteSlotOnce =
    (bytes : List ℕ) (at : ℕ) (e : Entry) (x y : List ℕ)
    → x ≡ sets bytes at (laid widths (numbers_of e))
    → y ≡ sets bytes at (laid widths (numbers_of e))
    → x ≡ y

-- src/distance.rt
abbrev pub DistanceOnce : Type 0
DistanceOnce = (a b : ℤ) (r q : ℕ) → r ≡ dist a b → q ≡ dist a b → r ≡ q

abbrev pub DistanceByOnce : Type 0
DistanceByOnce = (unsigned : Bool) (a b : ℤ) (r q : ℕ) → r ≡ dist_by unsigned a b → q ≡ dist_by unsigned a b → r ≡ q

-- src/entry.rt
abbrev pub IsOnce : Type 0
IsOnce = (self other : Key) (r q : Bool) → r ≡ same self other → q ≡ same self other → r ≡ q

abbrev pub WishOnce : Type 0
WishOnce = (self : ReportingConfig) (r q : Wish) → r ≡ wish self → q ≡ wish self → r ≡ q

abbrev pub MovedByOnce : Type 0
MovedByOnce = (self : ReportingConfig) (from to : ℤ) (r q : ℕ) → r ≡ moved_by self from to → q ≡ moved_by self from to → r ≡ q

abbrev pub RipeOnce : Type 0
RipeOnce = (self : ReportingConfig) (since moved : ℕ) (r q : Bool) → r ≡ ripe self since moved → q ≡ ripe self since moved → r ≡ q

abbrev pub FreshOnce : Type 0
FreshOnce = (key : Key) (config : ReportingConfig) (r q : Entry) → r ≡ fresh key config → q ≡ fresh key config → r ≡ q

abbrev pub IsOfOnce : Type 0
IsOfOnce = (self : Entry) (key : Key) (r q : Bool) → r ≡ matches key self → q ≡ matches key self → r ≡ q

abbrev pub EntryMarkOnce : Type 0
EntryMarkOnce = (self : Entry) (now : ℕ) (value : ℤ) (r q : Entry) → r ≡ mark_e now value self → q ≡ mark_e now value self → r ≡ q

abbrev pub DueOnce : Type 0
DueOnce = (self : Entry) (now : ℕ) (value : ℤ) (r q : Bool) → r ≡ due_e self now value → q ≡ due_e self now value → r ≡ q

-- src/held.rt
abbrev pub FindSlotOnce : Type 0
FindSlotOnce = (self : List ℕ) (key : Key) (r q : ℕ) → r ≡ find_l key (table_in self) → q ≡ find_l key (table_in self) → r ≡ q

abbrev pub TableRefDueOnce : Type 0
TableRefDueOnce =
    (self : List ℕ) (key : Key) (time : ℕ) (value : ℤ) (r q : Bool)
    → r ≡ due_l key time value (table_in self)
    → q ≡ due_l key time value (table_in self)
    → r ≡ q

abbrev pub TableRefConfigurationOnce : Type 0
TableRefConfigurationOnce =
    (self : List ℕ) (key : Key) (r q : Option ReportingConfig)
    → setting_told (Ok r) ≡ configuration_t key (holding (table_in self))
    → setting_told (Ok q) ≡ configuration_t key (holding (table_in self))
    → r ≡ q

abbrev pub ReadOnce : Type 0
ReadOnce = (self r q : List ℕ) → r ≡ self → q ≡ self → r ≡ q

-- Where a table is changed, the contract speaks of the one that the bytes are afterwards; a table has one form as bytes.
abbrev pub TableMutMarkOnce : Type 0
TableMutMarkOnce =
    (self : List ℕ) (key : Key) (time : ℕ) (value : ℤ) (x y : List ℕ)
    → AllBytes x
    → AllBytes y
    → read_t capacity x ≡ table_read true (mark_l key time value (table_in self))
    → read_t capacity y ≡ table_read true (mark_l key time value (table_in self))
    → x ≡ y

abbrev pub TableMutConfigureOnce : Type 0
TableMutConfigureOnce =
    (self : List ℕ) (key : Key) (config : ReportingConfig) (r q : Bool) (x y : List ℕ)
    → AllBytes x
    → AllBytes y
    → kept_as r x ≡ configure_in key config (table_in self)
    → kept_as q y ≡ configure_in key config (table_in self)
    → (r ≡ q) × (x ≡ y)

abbrev pub TableMutClearOnce : Type 0
TableMutClearOnce =
    (self : List ℕ) (key : Key) (x y : List ℕ)
    → AllBytes x
    → AllBytes y
    → read_t capacity x ≡ table_read true (clear_l key (table_in self))
    → read_t capacity y ≡ table_read true (clear_l key (table_in self))
    → x ≡ y

-- src/lent.rt
abbrev pub AskLentOnce : Type 0
AskLentOnce =
    (bytes : List ℕ) (key : Key) (now : ℕ) (value : ℤ) (r q : Result Bool Refusal)
    → report_told r ≡ ask_lent key now value bytes
    → report_told q ≡ ask_lent key now value bytes
    → r ≡ q

abbrev pub ConfigurationLentOnce : Type 0
ConfigurationLentOnce =
    (bytes : List ℕ) (key : Key) (r q : Result (Option ReportingConfig) Refusal)
    → setting_told r ≡ configuration_lent key bytes
    → setting_told q ≡ configuration_lent key bytes
    → r ≡ q

abbrev pub MarkLentOnce : Type 0
MarkLentOnce =
    (bytes : List ℕ) (key : Key) (now : ℕ) (value : ℤ) (r q : Bool) (x y : List ℕ)
    → written r x ≡ mark_lent key now value bytes
    → written q y ≡ mark_lent key now value bytes
    → (r ≡ q) × (x ≡ y)

abbrev pub ClearLentOnce : Type 0
ClearLentOnce =
    (bytes : List ℕ) (key : Key) (r q : Bool) (x y : List ℕ)
    → written r x ≡ clear_lent key bytes
    → written q y ≡ clear_lent key bytes
    → (r ≡ q) × (x ≡ y)

abbrev pub ConfigureLentOnce : Type 0
ConfigureLentOnce =
    (bytes : List ℕ) (key : Key) (config : ReportingConfig) (r q : Result Bool Refusal) (x y : List ℕ)
    → left_as r x ≡ configure_lent key config bytes
    → left_as q y ≡ configure_lent key config bytes
    → (r ≡ q) × (x ≡ y)

-- src/numbers.rt
abbrev pub U16InOnce : Type 0
U16InOnce = (bytes : List ℕ) (at r q : ℕ) → r ≡ unsigned_at bytes at 2 → q ≡ unsigned_at bytes at 2 → r ≡ q

abbrev pub U64InOnce : Type 0
U64InOnce = (bytes : List ℕ) (at r q : ℕ) → r ≡ unsigned_at bytes at 8 → q ≡ unsigned_at bytes at 8 → r ≡ q

abbrev pub PutU16InOnce : Type 0
PutU16InOnce = (bytes : List ℕ) (at n : ℕ) (x y : List ℕ) → x ≡ sets bytes at (bytes_of 2 n) → y ≡ sets bytes at (bytes_of 2 n) → x ≡ y

abbrev pub PutU64InOnce : Type 0
PutU64InOnce = (bytes : List ℕ) (at n : ℕ) (x y : List ℕ) → x ≡ sets bytes at (bytes_of 8 n) → y ≡ sets bytes at (bytes_of 8 n) → x ≡ y

-- src/table.rt
abbrev pub NewOnce : Type 0
NewOnce = (r q : ReportingTable) → table_of r ≡ holding [] → table_of q ≡ holding [] → Alike r q

abbrev pub ConfigureOnce : Type 0
ConfigureOnce =
    (self : ReportingTable) (key : Key) (config : ReportingConfig) (r q : Changed)
    → handed_back r ≡ configure_t capacity key config (table_of self)
    → handed_back q ≡ configure_t capacity key config (table_of self)
    → (r.answer ≡ q.answer) × Alike r.table q.table

abbrev pub ClearOnce : Type 0
ClearOnce =
    (self : ReportingTable) (key : Key) (r q : Changed)
    → handed_back r ≡ clear_t key (table_of self)
    → handed_back q ≡ clear_t key (table_of self)
    → (r.answer ≡ q.answer) × Alike r.table q.table

abbrev pub ReportingTableMarkOnce : Type 0
ReportingTableMarkOnce =
    (self : ReportingTable) (key : Key) (now : ℕ) (value : ℤ) (r q : Changed)
    → handed_back r ≡ mark_t key now value (table_of self)
    → handed_back q ≡ mark_t key now value (table_of self)
    → (r.answer ≡ q.answer) × Alike r.table q.table

abbrev pub ConfigurationOnce : Type 0
ConfigurationOnce =
    (self : ReportingTable) (key : Key) (r q : Result (Option ReportingConfig) Refusal)
    → setting_told r ≡ configuration_t key (table_of self)
    → setting_told q ≡ configuration_t key (table_of self)
    → r ≡ q

abbrev pub AskOnce : Type 0
AskOnce =
    (self : ReportingTable) (key : Key) (now : ℕ) (value : ℤ) (r q : Result Bool Refusal)
    → report_told r ≡ ask_t key now value (table_of self)
    → report_told q ≡ ask_t key now value (table_of self)
    → r ≡ q

abbrev pub LenOnce : Type 0
LenOnce = (self : ReportingTable) (r q : Result ℕ Refusal) → length_told r ≡ length_t (table_of self) → length_told q ≡ length_t (table_of self) → r ≡ q
