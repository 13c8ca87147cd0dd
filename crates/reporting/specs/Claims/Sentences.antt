-- Claims. Document 01's sentences about the reporting table ("The reporting table is a value of sixteen entries and a count .."), in its order, as
-- claims of the operations as they are defined (Table.antt), which the functions are proved equal to. `limit` is how many entries a table may have,
-- in the table's functions `capacity`: document 01's sixteen, 128 since document 02's request 7. Proved in proofs/Sentences.antt, and those of histories in proofs/Histories.antt.
use Rattle.std.specs.Prelude.{◌≡◌, ◌↔◌, true, false, List, [], ℕ, ◌-◌, ◌≤◌, ◌<◌, length, get_or, set, take, ℤ, None, Ok, Some}
use Rattle.reporting.specs.declared.entry.Key.{Key}
use Rattle.reporting.specs.declared.entry.ReportingConfig.{ReportingConfig}
use Rattle.reporting.specs.declared.entry.Entry.{Entry}
use Rattle.reporting.specs.declared.table.ReportingTable.{ReportingTable}
use Rattle.reporting.specs.Entries.{find_l, lookup_l, Distinct, others, fresh, configure_l, clear_l}
use Rattle.reporting.specs.Due.{moved_by, ripe}
use Rattle.reporting.specs.Table.{capacity, holding, Alike, ReportTold, change_told, report_told, done_t, full_t, configure_t, clear_t, mark_t, ask_t}
use Rattle.reporting.specs.Claims.Events.{Call, call, calls}
use Rattle.reporting.specs.Demand3.{Moved}

-- ---- "The reporting table is a value of sixteen entries and a count."

-- never more entries than the limit, whatever is called
abbrev pub NeverMoreThanLimit : Type 0
NeverMoreThanLimit = (limit : ℕ) (cs : List Call) (l : List Entry) → length l ≤ limit → length (calls limit cs l) ≤ limit

-- Two values with a table's slots that are alike as tables have one count, also where that is above the room.
abbrev pub AlikeCount : Type 0
AlikeCount = (t u : ReportingTable) → length t.entries ≡ capacity → length u.entries ≡ capacity → Alike t u → t.count ≡ u.count

-- ---- "A mark or clear without an entry changes nothing."

abbrev pub MarkMissing : Type 0
MarkMissing = (k : Key) (now : ℕ) (v : ℤ) (l : List Entry) → lookup_l k l ≡ None → mark_t k now v (holding l) ≡ done_t l

abbrev pub ClearMissing : Type 0
ClearMissing = (k : Key) (l : List Entry) → lookup_l k l ≡ None → clear_t k (holding l) ≡ done_t l

-- ---- "The scan ends at the first entry that matches cluster and attribute both."

-- No entry before the place has the key, and the entry at the place has it; so no entry has it where the place is the number of entries.
-- (`d` is what `get_or` gives outside the list, which it does not come to.)
abbrev pub ScanPasses : Type 0
ScanPasses = (k : Key) (l : List Entry) (i : ℕ) (d : Entry) → i < find_l k l → (get_or l i d).key ≡ k → ⊥

abbrev pub ScanEnds : Type 0
ScanEnds = (k : Key) (l : List Entry) (d : Entry) → find_l k l < length l → (get_or l (find_l k l) d).key ≡ k

-- Keys never stand twice, so that the first entry of a key is its only one: every call leaves distinct keys distinct ..
abbrev pub KeysStayDistinct : Type 0
KeysStayDistinct = (limit : ℕ) (c : Call) (l : List Entry) → Distinct l → Distinct (call limit c l)

-- .. and from an empty table every history of calls leaves distinct keys.
abbrev pub KeysNeverTwice : Type 0
KeysNeverTwice = (limit : ℕ) (cs : List Call) → Distinct (calls limit cs [])

-- ---- "Configuring again replaces and forgets the last report."

-- done; the key's entry is the new configuration, not yet reported, in the old one's place, and nothing else is changed
abbrev pub ConfigureAgain : Type 0
ConfigureAgain =
    (limit : ℕ) (k : Key) (g : ReportingConfig) (l : List Entry) (e : Entry)
    → lookup_l k l ≡ Some e
    → (configure_t limit k g (holding l) ≡ done_t (set l (find_l k l) (fresh k g)))
    × (lookup_l k (set l (find_l k l) (fresh k g)) ≡ Some (fresh k g))

-- ---- "A direct configure takes any interval, failing exactly when sixteen others stand."

-- it fails exactly then, for every configuration ..
abbrev pub ConfigureFails : Type 0
ConfigureFails =
    (limit : ℕ) (k : Key) (g : ReportingConfig) (l : List Entry)
    → length l ≤ limit
    → ((configure_t limit k g (holding l)).told ≡ change_told (Ok false)) ↔ (others k l ≡ limit)

-- .. and leaves the table
abbrev pub ConfigureFailed : Type 0
ConfigureFailed =
    (limit : ℕ) (k : Key) (g : ReportingConfig) (l : List Entry)
    → length l ≤ limit
    → others k l ≡ limit
    → configure_t limit k g (holding l) ≡ full_t l

-- else it is done, the key stands with that configuration, and every other key as it did
abbrev pub ConfigureTakes : Type 0
ConfigureTakes =
    (limit : ℕ) (k : Key) (g : ReportingConfig) (l : List Entry)
    → others k l < limit
    → (configure_t limit k g (holding l) ≡ done_t (configure_l limit k g l))
    × (lookup_l k (configure_l limit k g l) ≡ Some (fresh k g))
    × ((j : Key) → (k ≡ j → ⊥) → lookup_l j (configure_l limit k g l) ≡ lookup_l j l)

-- ---- "Clearing moves the last entry into the hole, and its room serves again."

-- the last entry is in the place of the key's, and the list is one shorter
abbrev pub ClearMoves : Type 0
ClearMoves =
    (k : Key) (l : List Entry) (e : Entry)
    → lookup_l k l ≡ Some e
    → clear_t k (holding l) ≡ done_t (take (length l - 1) (set l (find_l k l) (get_or l (length l - 1) e)))

-- where keys are distinct, the key has no entry then, and every other key the one that it had, wherever that is now
abbrev pub ClearLeaves : Type 0
ClearLeaves =
    (k : Key) (l : List Entry)
    → Distinct l
    → (lookup_l k (clear_l k l) ≡ None)
    × ((j : Key) → (k ≡ j → ⊥) → lookup_l j (clear_l k l) ≡ lookup_l j l)

-- after a clear of a key that stood, a configuration of any key is done
abbrev pub RoomServesAgain : Type 0
RoomServesAgain =
    (limit : ℕ) (k j : Key) (g : ReportingConfig) (l : List Entry) (e : Entry)
    → length l ≤ limit
    → lookup_l k l ≡ Some e
    → (configure_t limit j g (clear_t k (holding l)).table).told ≡ change_told (Ok true)

-- ---- "An ask: no entry, no; maximum ffff, no; never marked, yes; elapsed is 0 if the clock went back; then as demand 3, maximum 0 never
-- firing by time, and the Rust deciding where a direct call put the minimum above a nonzero maximum."

abbrev pub AskMissing : Type 0
AskMissing = (k : Key) (now : ℕ) (v : ℤ) (l : List Entry) → lookup_l k l ≡ None → ask_t k now v (holding l) ≡ report_told (Ok false)

-- for every table and key with an entry, every time and value: P of the entry, the time, the value and the answer
abbrev pub OfEveryAsk : (Entry → ℕ → ℤ → ReportTold → Type 0) → Type 0
OfEveryAsk P = (k : Key) (now : ℕ) (v : ℤ) (l : List Entry) (e : Entry) → lookup_l k l ≡ Some e → P e now v (ask_t k now v (holding l))

abbrev pub AskOff : Type 0
AskOff = OfEveryAsk (λ e now v answer. e.config.max_interval ≡ 0xffff → answer ≡ report_told (Ok false))

abbrev pub AskFirst : Type 0
AskFirst = OfEveryAsk (λ e now v answer. (e.config.max_interval ≡ 0xffff → ⊥) → e.marked ≡ false → answer ≡ report_told (Ok true))

-- of an entry that was marked, and whose maximum is not ffff
abbrev pub OfMarked : (Entry → ℕ → ℤ → ReportTold → Type 0) → Type 0
OfMarked P = OfEveryAsk (λ e now v answer. (e.config.max_interval ≡ 0xffff → ⊥) → e.marked ≡ true → P e now v answer)

-- at the last report's time or before it: by the rule (`ripe`) for 0 seconds
abbrev pub AskClockBack : Type 0
AskClockBack =
    OfMarked (λ e now v answer. now ≤ e.last_time → answer ≡ record { number = 0; due = ripe e.config 0 (moved_by e.config e.last_value v) })

-- How many seconds have elapsed: a difference of natural numbers, which is 0 where the clock went back. The four claims that follow leave
-- out no number of seconds, also where the minimum is above the maximum: then it is no under the minimum and yes from it on.
abbrev pub elapsed : Entry → ℕ → ℕ
elapsed e now = now - e.last_time

-- under the minimum, no
abbrev pub AskEarly : Type 0
AskEarly = OfMarked (λ e now v answer. elapsed e now < e.config.min_interval → answer ≡ report_told (Ok false))

-- from the maximum on, yes
abbrev pub AskLate : Type 0
AskLate =
    OfMarked (λ e now v answer. e.config.min_interval ≤ elapsed e now
    → (e.config.max_interval ≡ 0 → ⊥)
    → e.config.max_interval ≤ elapsed e now
    → answer ≡ report_told (Ok true))

-- yes where M holds, no where it does not
abbrev pub YesExactly : Type 0 → ReportTold → Type 0
YesExactly M answer = (M → answer ≡ report_told (Ok true)) × ((M → ⊥) → answer ≡ report_told (Ok false))

-- between the two, yes exactly when "the value has since moved by a nonzero amount not under the configured change"
abbrev pub AskBetween : Type 0
AskBetween =
    OfMarked (λ e now v answer. e.config.min_interval ≤ elapsed e now
    → elapsed e now < e.config.max_interval
    → YesExactly (Moved e.config e.last_value v) answer)

-- with the maximum 0 yes exactly then, however long ago the last report was
abbrev pub AskMaximumZero : Type 0
AskMaximumZero =
    OfMarked (λ e now v answer. e.config.max_interval ≡ 0
    → e.config.min_interval ≤ elapsed e now
    → YesExactly (Moved e.config e.last_value v) answer)
