-- Claims. REPORT TURNS AMONG REQUESTS AND DIRECT CALLS: what document 02, request 3, promises of turns (crate `report`, specs/Claims: Fairness.antt,
-- Demand3.antt), of a table that is served.
use Rattle.std.specs.Prelude.{◌≡◌, cond, List, [], ◌∷◌, ◌++◌, ℕ, ◌+◌, ◌-◌, ◌*◌, ◌≤◌, length, eqb, Some}
use Rattle.store.specs.Contents.{cluster_of}
use Rattle.reporting.specs.declared.entry.ReportingConfig.{ReportingConfig}
use Rattle.reporting.specs.declared.entry.Entry.{Entry}
use Rattle.reporting.specs.Entries.{lookup_l}
use Rattle.reporting.specs.Claims.Events.{Event, configured, events}
use Rattle.reporting.specs.Demand3.{AcceptedRecord}
use Rattle.report.specs.Turn.{key_of}
use Rattle.report.specs.Claims.Words.{Each, OneOf}
use Rattle.report.specs.Claims.History as Happens
use Rattle.report.specs.Claims.History.{Happening, event, Met, Handed}
use Rattle.report.specs.Claims.Fairness.{count, of_cluster, found, reported, StoresOfBytes, Standing, EachAlone}
use Rattle.report.specs.Claims.Demand3.{Look, looks_of, LeftAlone, Present, Paced, SinceReport, Promised}
use Rattle.server.specs.Claims.History.{Request, requested, request_events, Use, request, direct, turn, used, uses}

-- ---- what happens to the table, told as turns and events

abbrev pub as_events : List Event → List Happening
as_events [] = []
as_events (e ∷ es) = event e ∷ as_events es

abbrev pub happens : ℕ → Use → List Entry → List Happening
happens limit (request r) l = as_events (request_events limit r l)
happens limit (direct c) l = as_events (events limit c l)
happens limit (turn u) l = Happens.turn u ∷ []

abbrev pub happenings : ℕ → List Use → List Entry → List Happening
happenings limit [] l = []
happenings limit (u ∷ us) l = happens limit u l ++ happenings limit us (used limit u l)

-- a use before these turns: a turn of the cluster is one of them, with the entries that it met
abbrev pub turn_before : ℕ → Use → List Entry → List Met → List Met
turn_before cluster (request r) l more = more
turn_before cluster (direct c) l more = more
turn_before cluster (turn u) l more = cond (eqb (cluster_of u.store) cluster) (record { turn = u; entries = l } ∷ more) more

-- the turns of a cluster, in their order
abbrev pub turns_in : ℕ → ℕ → List Use → List Entry → List Met
turns_in limit cluster [] l = []
turns_in limit cluster (u ∷ us) l = turn_before cluster u l (turns_in limit cluster us (used limit u l))

-- ---- the turn is fair, to any n turns in a row among requests, calls and other clusters' turns

abbrev pub FairInUses : Type 0
FairInUses =
    (limit cluster id : ℕ) (us : List Use) (l : List Entry) (pre row post : List Met)
    → Standing cluster (happenings limit us l)
    → turns_in limit cluster us l ≡ pre ++ (row ++ post)
    → StoresOfBytes (turns_in limit cluster us l)
    → Handed 8 (turns_in limit cluster us l)
    → EachAlone 8 (turns_in limit cluster us l)
    → 1 ≤ length row
    → count (of_cluster cluster) l ≤ length row
    → Each (found 8 id) row
    → OneOf (reported 8 id) row

-- ---- demand 3 with turns

-- Any uses of an empty table; then a request with a record that is accepted, any record of its frame; then uses.
abbrev pub Demand3OfTurnsServed : Type 0
Demand3OfTurnsServed =
    (limit cluster id : ℕ) (before : List Use) (r : Request) (g : ReportingConfig) (earlier rest : List Event) (G : ℕ) (after : List Use)
    → request_events limit r (uses limit before []) ≡ earlier ++ (configured (key_of cluster id) g ∷ rest)
    → 1 ≤ g.max_interval
    → g.max_interval ≤ 65534
    → LeftAlone (key_of cluster id) (as_events rest ++ happenings limit after (requested limit r (uses limit before [])))
    → Each (Present 8 id) (turns_in limit cluster after (requested limit r (uses limit before [])))
    → Paced G (looks_of 8 id (turns_in limit cluster after (requested limit r (uses limit before []))))
    → Promised g (looks_of 8 id (turns_in limit cluster after (requested limit r (uses limit before []))))

-- From any table that uses of an empty one left, with an entry of the attribute: the terms need hold from then on.
abbrev pub MostApartServed : Type 0
MostApartServed =
    (limit cluster id G : ℕ) (before : List Use) (e : Entry) (after : List Use)
    → lookup_l (key_of cluster id) (uses limit before []) ≡ Some e
    → AcceptedRecord e.config
    → LeftAlone (key_of cluster id) (happenings limit after (uses limit before []))
    → Each (Present 8 id) (turns_in limit cluster after (uses limit before []))
    → Paced G (looks_of 8 id (turns_in limit cluster after (uses limit before [])))
    → Standing cluster (happenings limit after (uses limit before []))
    → StoresOfBytes (turns_in limit cluster after (uses limit before []))
    → Handed 8 (turns_in limit cluster after (uses limit before []))
    → EachAlone 8 (turns_in limit cluster after (uses limit before []))
    → (y z : Look)
    → SinceReport (looks_of 8 id (turns_in limit cluster after (uses limit before []))) y z
    → z.time ≤ y.time + (e.config.max_interval + count (of_cluster cluster) (uses limit before []) * G - 1)
