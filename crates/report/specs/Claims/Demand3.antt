-- Claims. DEMAND 3 WITH TURNS: "With turns in place of asks, none refused by 7, 8 or 5 for the header, the attribute present and reportable in the
-- store of each and marked by them alone, demand 3's yes to an ask reads 'found due', the yes it is timed from the last report, and reports
-- stand at least m and, on the terms above, at most M+nG-1 seconds apart."
-- Asks may still come between, also of the attribute.
use Rattle.std.specs.Prelude.{◌≡◌, ◌↔◌, ℕ, ◌+◌, ◌-◌, ◌*◌, ◌≤◌, ◌<◌, Bool, true, false, ◌&&◌, List, [], ◌∷◌, ◌++◌, ℤ, Some}
use Rattle.store.specs.Contents.{attributes_of, reportable}
use Rattle.reporting.specs.declared.entry.Key.{Key}
use Rattle.reporting.specs.declared.entry.ReportingConfig.{ReportingConfig}
use Rattle.reporting.specs.declared.entry.Entry.{Entry}
use Rattle.reporting.specs.Entries.{same, accepts_l, lookup_l, Distinct, fresh}
use Rattle.reporting.specs.Claims.Events.{configured, cleared, asked, marked}
use Rattle.reporting.specs.Demand3.{AcceptedRecord, Moved}
use Rattle.report.specs.Round.{keep}
use Rattle.report.specs.Turn.{key_of, id_of}
use Rattle.report.specs.Claims.Words.{names, Each}
use Rattle.report.specs.Claims.Turns.{value_at, begins}
use Rattle.report.specs.Claims.History.{Happening, turn, event, left_by, Met, turns_of, Handed}
use Rattle.report.specs.Claims.Fairness.{count, of_cluster, Standing, StoresOfBytes, EachAlone, found, reported}

-- ---- what a turn is to one attribute

pub record Look : Type 0 where
  pub time : ℕ
  pub value : ℤ
  pub found : Bool  -- due: demand 3's yes
  pub reported : Bool  -- and in the frame

abbrev pub look_of : ℕ → ℕ → Met → Look
look_of form id m =
    record {
      time = m.turn.now;
      value = value_at m.turn.store id (attributes_of form m.turn.store);
      found = found form id m;
      reported = reported form id m;
    }

abbrev pub looks_of : ℕ → ℕ → List Met → List Look
looks_of form id [] = []
looks_of form id (m ∷ ms) = look_of form id m ∷ looks_of form id ms

-- ---- what is supposed

-- "nothing later configures or clears it", and it is "marked by them alone"
abbrev pub LeftAlone : Key → List Happening → Type 0
LeftAlone k [] = Unit
LeftAlone k (turn u ∷ hs) = LeftAlone k hs
LeftAlone k (event (configured j g) ∷ hs) = (same j k ≡ false) × LeftAlone k hs
LeftAlone k (event (cleared j) ∷ hs) = (same j k ≡ false) × LeftAlone k hs
LeftAlone k (event (asked j now v a) ∷ hs) = LeftAlone k hs
LeftAlone k (event (marked j now v) ∷ hs) = (same j k ≡ false) × LeftAlone k hs

-- "none refused by 7, 8 or 5 for the header" (these entries are a table), "the attribute present and reportable in the store of each"
abbrev pub Present : ℕ → ℕ → Met → Bool
Present form id m = begins form m.turn && names id_of id (keep reportable (attributes_of form m.turn.store))

-- "on a clock that never goes back, at most G seconds apart"
abbrev pub Paced : ℕ → List Look → Type 0
Paced G [] = Unit
Paced G (a ∷ []) = Unit
Paced G (a ∷ (b ∷ qs)) = (a.time ≤ b.time) × (b.time ≤ a.time + G) × Paced G (b ∷ qs)

pub record Supposed (form limit cluster id G : ℕ) (later : List Happening) (l : List Entry) : Type 0 where
  pub left_alone : LeftAlone (key_of cluster id) later
  pub present : Each (Present form id) (turns_of form limit cluster later l)
  pub paced : Paced G (looks_of form id (turns_of form limit cluster later l))

-- ---- what is promised

abbrev pub NoneReported : List Look → Type 0
NoneReported [] = Unit
NoneReported (q ∷ qs) = (q.reported ≡ false) × NoneReported qs

-- among the turns z comes after y, and y is the last report before z
pub record SinceReport (qs : List Look) (y z : Look) : Type 0 where
  pub earlier : List Look
  pub between : List Look
  pub later : List Look
  pub order : qs ≡ earlier ++ (y ∷ (between ++ (z ∷ later)))
  pub is_report : y.reported ≡ true
  pub none : NoneReported between

-- m is the minimum and M the maximum of g; qs are the turns
pub record Promised (g : ReportingConfig) (qs : List Look) : Type 0 where
  -- "the first ask is a yes": found due until its first report
  pub first : (earlier : List Look) (z : Look) (later : List Look) → qs ≡ earlier ++ (z ∷ later) → NoneReported earlier → z.found ≡ true
  -- "every ask M seconds or more after the last yes is a yes"
  pub late : (y z : Look) → SinceReport qs y z → y.time + g.max_interval ≤ z.time → z.found ≡ true
  -- "reports stand at least m .. apart"
  pub least : (y z : Look) → SinceReport qs y z → z.reported ≡ true → y.time + g.min_interval ≤ z.time
  -- "from m to M-1 seconds after the last yes, yes comes exactly when the value has since moved by a nonzero amount not under the
  -- configured change"
  pub moved : (y z : Look) → SinceReport qs y z → y.time + g.min_interval ≤ z.time → z.time < y.time + g.max_interval
      → (z.found ≡ true) ↔ Moved g y.value z.value

-- ---- the claims

-- From any entries with distinct keys in which the attribute's is just configured.
abbrev pub TurnsStanding : Type 0
TurnsStanding =
    (form limit cluster id G : ℕ) (start : List Entry) (g : ReportingConfig) (later : List Happening)
    → Distinct start
    → lookup_l (key_of cluster id) start ≡ Some (fresh (key_of cluster id) g)
    → AcceptedRecord g
    → Supposed form limit cluster id G later start
    → Promised g (looks_of form id (turns_of form limit cluster later start))

-- "on the terms above, at most M+nG-1 seconds apart": so far after a report no turn comes without a report between, whether it is one or
-- not. The terms need hold from the report on, for `start` is any entries in which the attribute's has this configuration.
abbrev pub MostApart : Type 0
MostApart =
    (form limit cluster id G : ℕ) (start : List Entry) (e : Entry) (later : List Happening)
    → Distinct start
    → lookup_l (key_of cluster id) start ≡ Some e
    → AcceptedRecord e.config
    → Supposed form limit cluster id G later start
    → Standing cluster later
    → StoresOfBytes (turns_of form limit cluster later start)
    → Handed form (turns_of form limit cluster later start)
    → EachAlone form (turns_of form limit cluster later start)
    → (y z : Look) → SinceReport (looks_of form id (turns_of form limit cluster later start)) y z
    → z.time ≤ y.time + (e.config.max_interval + count (of_cluster cluster) start * G - 1)

-- "Start from an empty reporting table", with anything before.
abbrev pub Demand3OfTurns : Type 0
Demand3OfTurns =
    (form limit cluster id G : ℕ) (earlier : List Happening) (g : ReportingConfig) (later : List Happening)
    → accepts_l limit (key_of cluster id) (left_by form limit earlier []) ≡ true
    → AcceptedRecord g
    → Supposed form limit cluster id G later (left_by form limit (earlier ++ (event (configured (key_of cluster id) g) ∷ [])) [])
    → Promised g (looks_of form id (turns_of form limit cluster later (left_by form limit (earlier ++ (event (configured (key_of cluster id) g) ∷ [])) [])))
