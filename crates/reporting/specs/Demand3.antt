-- Claims. DEMAND 3, clause by clause: "Start from an empty reporting table. An accepted configuration record gives an attribute minimum m and maximum
-- M, M from 1 to 65534; nothing later configures or clears it, but any other calls may come between. Its asks come on a clock that never goes back,
-- at most G seconds apart (G at least 1); each yes is marked with that ask's time and value before the next, and it is marked at no other time. Then
-- the first ask is a yes; every ask M seconds or more after the last yes is a yes; consecutive yeses are at least m and at most M+G-1 seconds apart;
-- from m to M-1 seconds after the last yes, yes comes exactly when the value has since moved by a nonzero amount not under the configured change."
-- All that is supposed is said of the events. The claims stand at the end of this file.
use Rattle.std.specs.Prelude.{◌≡◌, ◌↔◌, ◌⊎◌, Bool, true, false, cond, List, [], ◌∷◌, ◌++◌, ℕ, ◌+◌, ◌-◌, ◌≤◌, ◌<◌, ℤ, Some}
use Rattle.frame.specs.declared.status.Status.TheVariants.{Success}
use Rattle.reporting.specs.declared.entry.Key.{Key}
use Rattle.reporting.specs.declared.entry.ReportingConfig.{ReportingConfig}
use Rattle.reporting.specs.declared.entry.Entry.{Entry}
use Rattle.reporting.specs.Entries.{same, lookup_l, Distinct, fresh}
use Rattle.reporting.specs.Due.{moved_by}
use Rattle.reporting.specs.declared.entry.Wish.TheVariants.{ToSet}
use Rattle.reporting.specs.Wish.{wish, record_status}
use Rattle.reporting.specs.Claims.Events.{Event, configured, cleared, asked, marked, Honest, Call, calls, history, config_record}

-- ---- a key's asks, read from the events

pub record Mark : Type 0 where
  pub time : ℕ
  pub value : ℤ

-- an ask of the key with its answer, and the marks of the key that came after it and before the key's next ask
pub record Ask : Type 0 where
  pub time : ℕ
  pub value : ℤ
  pub answer : Bool
  pub marks : List Mark

-- the marks of k before its next ask
abbrev pub marks_of : Key → List Event → List Mark
marks_of k [] = []
marks_of k (configured j g ∷ es) = marks_of k es
marks_of k (cleared j ∷ es) = marks_of k es
marks_of k (asked j now v a ∷ es) = cond (same j k) [] (marks_of k es)
marks_of k (marked j now v ∷ es) = cond (same j k) (record { time = now; value = v } ∷ marks_of k es) (marks_of k es)

-- the asks of k, in their order
abbrev pub asks_of : Key → List Event → List Ask
asks_of k [] = []
asks_of k (configured j g ∷ es) = asks_of k es
asks_of k (cleared j ∷ es) = asks_of k es
asks_of k (asked j now v a ∷ es) = cond (same j k) (record { time = now; value = v; answer = a; marks = marks_of k es } ∷ asks_of k es) (asks_of k es)
asks_of k (marked j now v ∷ es) = asks_of k es

-- ---- what is supposed

-- "An accepted configuration record gives an attribute minimum m and maximum M, M from 1 to 65534": by the record's rule g
-- neither clears (maximum ffff) nor is wrong (maximum nonzero and below minimum). A direct call takes any interval: of it this is
-- a supposition.
pub record AcceptedRecord (g : ReportingConfig) : Type 0 where
  pub rule : wish g ≡ ToSet
  pub one : 1 ≤ g.max_interval

-- "nothing later configures or clears it"
abbrev pub Undisturbed : Key → List Event → Type 0
Undisturbed k [] = Unit
Undisturbed k (configured j g ∷ es) = (same j k ≡ false) × Undisturbed k es
Undisturbed k (cleared j ∷ es) = (same j k ≡ false) × Undisturbed k es
Undisturbed k (asked j now v a ∷ es) = Undisturbed k es
Undisturbed k (marked j now v ∷ es) = Undisturbed k es

-- "on a clock that never goes back, at most G seconds apart"
abbrev pub Paced : ℕ → List Ask → Type 0
Paced G [] = Unit
Paced G (a ∷ []) = Unit
Paced G (a ∷ (b ∷ qs)) = (a.time ≤ b.time) × (b.time ≤ a.time + G) × Paced G (b ∷ qs)

-- the marks that an ask calls for: a yes one, with its time and value, and a no none
abbrev pub owed : Ask → List Mark
owed a = cond a.answer (record { time = a.time; value = a.value } ∷ []) []

-- "each yes is marked with that ask's time and value before the next, and it is marked at no other time": before each next ask
-- just what is owed was marked. After the last ask the history may end before the mark.
abbrev pub MarkedAsks : List Ask → Type 0
MarkedAsks [] = Unit
MarkedAsks (a ∷ []) = (a.marks ≡ owed a) ⊎ (a.marks ≡ [])
MarkedAsks (a ∷ (b ∷ qs)) = (a.marks ≡ owed a) × MarkedAsks (b ∷ qs)

-- what is supposed of the events after k was configured
pub record Supposed (k : Key) (G : ℕ) (later : List Event) : Type 0 where
  -- "nothing later configures or clears it, but any other calls may come between"
  pub undisturbed : Undisturbed k later
  -- "Its asks come on a clock that never goes back, at most G seconds apart (G at least 1)"
  pub paced : Paced G (asks_of k later)
  pub positive : 1 ≤ G
  -- "each yes is marked with that ask's time and value before the next, and it is marked at no other time", nor before its first
  -- ask
  pub marked_asks : MarkedAsks (asks_of k later)
  pub not_before : marks_of k later ≡ []

-- ---- what is promised

abbrev pub AllNo : List Ask → Type 0
AllNo [] = Unit
AllNo (a ∷ qs) = (a.answer ≡ false) × AllNo qs

-- among the asks qs z comes after y, and y is the last yes before z
pub record Since (qs : List Ask) (y z : Ask) : Type 0 where
  pub earlier : List Ask
  pub between : List Ask
  pub later : List Ask
  pub order : qs ≡ earlier ++ (y ∷ (between ++ (z ∷ later)))
  pub is_yes : y.answer ≡ true
  pub all_no : AllNo between

-- "the value has since moved by a nonzero amount not under the configured change"
pub record Moved (g : ReportingConfig) (from to : ℤ) : Type 0 where
  pub nonzero : moved_by g from to ≡ 0 → ⊥
  pub enough : g.reportable_change ≤ moved_by g from to

-- m is the minimum and M the maximum of g; qs are the asks of the key
pub record Promised (g : ReportingConfig) (G : ℕ) (qs : List Ask) : Type 0 where
  -- "Then the first ask is a yes"
  pub first : (a : Ask) (rest : List Ask) → qs ≡ a ∷ rest → a.answer ≡ true
  -- "every ask M seconds or more after the last yes is a yes"
  pub late : (y z : Ask) → Since qs y z → y.time + g.max_interval ≤ z.time → z.answer ≡ true
  -- "consecutive yeses are at least m"
  pub least : (y z : Ask) → Since qs y z → z.answer ≡ true → y.time + g.min_interval ≤ z.time
  -- "and at most M+G-1 seconds apart"
  pub most : (y z : Ask) → Since qs y z → z.answer ≡ true → z.time ≤ y.time + (g.max_interval + G - 1)
  -- "from m to M-1 seconds after the last yes, yes comes exactly when the value has since moved by a nonzero amount not under the
  -- configured change"
  pub moved : (y z : Ask) → Since qs y z → y.time + g.min_interval ≤ z.time → z.time < y.time + g.max_interval
      → (z.answer ≡ true) ↔ Moved g y.value z.value

-- ---- the claims

-- From any table with distinct keys in which k's entry is just configured.
abbrev pub Demand3Standing : Type 0
Demand3Standing =
    (limit : ℕ) (start : List Entry) (k : Key) (g : ReportingConfig) (G : ℕ) (later : List Event)
    → Distinct start
    → lookup_l k start ≡ Some (fresh k g)
    → Honest limit later start
    → AcceptedRecord g
    → Supposed k G later
    → Promised g G (asks_of k later)

-- From any table with distinct keys, the next event being that k is configured.
abbrev pub Demand3From : Type 0
Demand3From =
    (limit : ℕ) (start : List Entry) (k : Key) (g : ReportingConfig) (G : ℕ) (later : List Event)
    → Distinct start
    → Honest limit (configured k g ∷ later) start
    → AcceptedRecord g
    → Supposed k G later
    → Promised g G (asks_of k later)

-- "Start from an empty reporting table", with any events before.
abbrev pub Demand3 : Type 0
Demand3 =
    (limit : ℕ) (earlier : List Event) (k : Key) (g : ReportingConfig) (G : ℕ) (later : List Event)
    → Honest limit (earlier ++ (configured k g ∷ later)) []
    → AcceptedRecord g
    → Supposed k G later
    → Promised g G (asks_of k later)

-- The same of calls: any calls to an empty table; then a configuration record with a maximum from 1 to 65534, which gets SUCCESS;
-- then calls whose events are as supposed.
abbrev pub Demand3OfCalls : Type 0
Demand3OfCalls =
    (limit : ℕ) (before : List Call) (k : Key) (g : ReportingConfig) (G : ℕ) (after : List Call)
    → record_status limit k g (calls limit before []) ≡ Success
    → 1 ≤ g.max_interval
    → g.max_interval ≤ 65534
    → Supposed k G (history limit after (calls limit (before ++ (config_record k g ∷ [])) []))
    → Promised g G (asks_of k (history limit after (calls limit (before ++ (config_record k g ∷ [])) [])))
