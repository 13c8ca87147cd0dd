-- Claims. REPORT TURNS IN WHAT THE FUNCTIONS TOWARDS C LEFT: what document 02, request 3, promises of turns (crate `report`, specs/Claims: Fairness.antt, Demand3.antt; of a table that is
-- served: crate `server`, Turns.antt), of a log of one table's bytes (Log.antt).
use Rattle.std.specs.Prelude.{◌≡◌, cond, List, [], ◌∷◌, ◌++◌, ℕ, ◌+◌, ◌-◌, ◌*◌, ◌≤◌, length, eqb, None, Option, Some}
use Rattle.frame.specs.Encoded.{encode_all}
use Rattle.frame.specs.Reply.{padded}
use Rattle.store.specs.declared.lookup.Attribute.{Attribute}
use Rattle.store.specs.Contents.{cluster_of}
use Rattle.reporting.specs.declared.entry.ReportingConfig.{ReportingConfig}
use Rattle.reporting.specs.declared.entry.Entry.{Entry}
use Rattle.reporting.specs.Entries.{lookup_l}
use Rattle.reporting.specs.Carried.{table_in}
use Rattle.reporting.specs.Claims.Events.{Event, configured}
use Rattle.reporting.specs.Demand3.{AcceptedRecord}
use Rattle.report.specs.Report.{report_head}
use Rattle.report.specs.Turn.{Turn, key_of, record_in}
use Rattle.report.specs.Claims.Words.{Each, OneOf}
use Rattle.report.specs.Claims.Turns.{frame_of, given_back}
use Rattle.report.specs.Claims.History as Happens
use Rattle.report.specs.Claims.History.{Happening, Met, Handed}
use Rattle.report.specs.Claims.Fairness.{count, of_cluster, found, reported, Standing, EachAlone}
use Rattle.report.specs.Claims.Demand3.{Look, looks_of, LeftAlone, Present, Paced, SinceReport, Promised}
use Rattle.server.specs.Claims.Turns.{as_events}
use Rattle.hingedrift.specs.Claims.Log.{Handled, Turning, Made, configure, clear, mark, ask, configuration, handle, save, restore, turn, next, last, Log, turn_as, events_of, Begin, Begins}

-- ---- a log's calls, told as turns and events

-- the turn that a call was, if it was one
abbrev pub turn_in : Made → Option Turn
turn_in (configure a g number accepted table) = None
turn_in (clear a number table) = None
turn_in (mark a x number table) = None
turn_in (ask a x number due) = None
turn_in (configuration a number found) = None
turn_in (handle h) = None
turn_in (save size number used buffer) = None
turn_in (restore form number table) = None
turn_in (turn t) = Some (turn_as t)

abbrev pub happens_by : Option Turn → List Event → List Happening
happens_by None es = as_events es
happens_by (Some u) es = Happens.turn u ∷ []

abbrev pub happenings_in : List Made → List ℕ → List Happening
happenings_in [] bs = []
happenings_in (c ∷ cs) bs = happens_by (turn_in c) (events_of c bs) ++ happenings_in cs (next c bs)

-- a turn of the cluster is one of these, with the entries that it met
abbrev pub turn_first : ℕ → Option Turn → List Entry → List Met → List Met
turn_first cluster None l more = more
turn_first cluster (Some u) l more = cond (eqb (cluster_of u.store) cluster) (record { turn = u; entries = l } ∷ more) more

-- the turns of a cluster, in their order
abbrev pub turns_made : ℕ → List Made → List ℕ → List Met
turns_made cluster [] bs = []
turns_made cluster (c ∷ cs) bs = turn_first cluster (turn_in c) (table_in bs) (turns_made cluster cs (next c bs))

-- ---- what a turn of a log told

-- the id through `last` is the one given back; where the frame has a record, the number is 0, and these records stand behind the header, then zeros
pub record Tells (t : Turning) (bs : List ℕ) : Type 0 where
  pub gives : t.last_after ≡ given_back 8 (turn_as t) (table_in bs)
  pub sends : (a : Attribute) (more : List Attribute) → frame_of 8 (turn_as t) (table_in bs) ≡ a ∷ more
      → (t.number ≡ 0) × (t.frame ≡ padded t.size (report_head t.sequence ++ encode_all (record_in t.store) (a ∷ more)))

abbrev pub TurnsTell : Type 0
TurnsTell =
    (how : Begin) (was bs : List ℕ) (before : List Made) (t : Turning) (after : List Made)
    → Begins how was bs
    → Log bs (before ++ (turn t ∷ after))
    → Tells t (last before bs)

-- ---- the turn is fair

-- of the calls after any others
abbrev pub FairInLog : Type 0
FairInLog =
    (how : Begin) (was bs : List ℕ) (before after : List Made) (cluster id : ℕ) (pre row post : List Met)
    → Begins how was bs
    → Log bs (before ++ after)
    → Standing cluster (happenings_in after (last before bs))
    → turns_made cluster after (last before bs) ≡ pre ++ (row ++ post)
    → Handed 8 (turns_made cluster after (last before bs))
    → EachAlone 8 (turns_made cluster after (last before bs))
    → 1 ≤ length row
    → count (of_cluster cluster) (table_in (last before bs)) ≤ length row
    → Each (found 8 id) row
    → OneOf (reported 8 id) row

-- ---- demand 3 with turns

-- after a request with a record that was accepted, any record of its frame
abbrev pub Demand3OfTurnsInLog : Type 0
Demand3OfTurnsInLog =
    (how : Begin) (was bs : List ℕ) (before : List Made) (h : Handled) (after : List Made) (earlier : List Event) (cluster id : ℕ) (g : ReportingConfig) (rest : List Event) (G : ℕ)
    → Begins how was bs
    → Log bs (before ++ (handle h ∷ after))
    → events_of (handle h) (last before bs) ≡ earlier ++ (configured (key_of cluster id) g ∷ rest)
    → 1 ≤ g.max_interval
    → g.max_interval ≤ 65534
    → LeftAlone (key_of cluster id) (as_events rest ++ happenings_in after h.table_after)
    → Each (Present 8 id) (turns_made cluster after h.table_after)
    → Paced G (looks_of 8 id (turns_made cluster after h.table_after))
    → Promised g (looks_of 8 id (turns_made cluster after h.table_after))

-- "at most M+nG-1 seconds apart": after any calls, where the attribute has an entry; it may be one that was read in
abbrev pub MostApartInLog : Type 0
MostApartInLog =
    (how : Begin) (was bs : List ℕ) (before after : List Made) (cluster id G : ℕ) (e : Entry)
    → Begins how was bs
    → Log bs (before ++ after)
    → lookup_l (key_of cluster id) (table_in (last before bs)) ≡ Some e
    → AcceptedRecord e.config
    → LeftAlone (key_of cluster id) (happenings_in after (last before bs))
    → Each (Present 8 id) (turns_made cluster after (last before bs))
    → Paced G (looks_of 8 id (turns_made cluster after (last before bs)))
    → Standing cluster (happenings_in after (last before bs))
    → Handed 8 (turns_made cluster after (last before bs))
    → EachAlone 8 (turns_made cluster after (last before bs))
    → (y z : Look)
    → SinceReport (looks_of 8 id (turns_made cluster after (last before bs))) y z
    → z.time ≤ y.time + (e.config.max_interval + count (of_cluster cluster) (table_in (last before bs)) * G - 1)
