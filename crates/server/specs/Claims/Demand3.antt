-- Claims. DEMAND 3 WITH FRAMES: "Start from an empty reporting table. An accepted configuration record gives an attribute minimum m and maximum M, M
-- from 1 to 65534; nothing later configures or clears it, but any other calls may come between. .." What is supposed and promised of the events is
-- said in crate `reporting` (specs/Demand3.antt). Here the record is one of a Configure Reporting frame that was served, and the other calls may be
-- requests of any kind.
use Rattle.std.specs.Prelude.{◌≡◌, List, [], ◌∷◌, ◌++◌, ℕ, ◌≤◌}
use Rattle.reporting.specs.declared.entry.Key.{Key}
use Rattle.reporting.specs.declared.entry.ReportingConfig.{ReportingConfig}
use Rattle.reporting.specs.declared.entry.Entry.{Entry}
use Rattle.reporting.specs.Claims.Events.{Event, configured}
use Rattle.reporting.specs.Demand3.{Supposed, Promised, asks_of}
use Rattle.saved.specs.Saved.{saved_in, form_in}
use Rattle.saved.specs.Claims.Demand3.{Stands}
use Rattle.server.specs.Claims.History.{Request, request_events, requested, Use, uses, uses_events}

-- what comes after the accepted record: the rest of its frame, also of one that ends in 4 or 5, and then any uses
abbrev pub later_of : ℕ → List Event → List Use → List Entry → List Event
later_of limit rest after l = rest ++ uses_events limit after l

-- Any uses of an empty table; then a request with a record that is accepted, any record of its frame; then uses. That m ≤ M is no
-- supposition: it follows from the acceptance.
abbrev pub Demand3OfFrames : Type 0
Demand3OfFrames =
    (limit : ℕ) (before : List Use) (r : Request) (k : Key) (g : ReportingConfig) (earlier rest : List Event) (G : ℕ) (after : List Use)
    → request_events limit r (uses limit before []) ≡ earlier ++ (configured k g ∷ rest)
    → 1 ≤ g.max_interval
    → g.max_interval ≤ 65534
    → Supposed k G (later_of limit rest after (requested limit r (uses limit before [])))
    → Promised g G (asks_of k (later_of limit rest after (requested limit r (uses limit before []))))

-- The same from a table just read in (document 02, request 5; crate `saved`, specs/Claims/Demand3.antt).
abbrev pub Demand3OfFramesRestored : Type 0
Demand3OfFramesRestored =
    (limit : ℕ) (form : List ℕ) (k : Key) (g : ReportingConfig) (G : ℕ) (after : List Use)
    → Stands limit form k g
    → Supposed k G (uses_events limit after (saved_in (form_in form) form))
    → Promised g G (asks_of k (uses_events limit after (saved_in (form_in form) form)))
