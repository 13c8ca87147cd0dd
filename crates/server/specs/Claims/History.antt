-- Claims. What happens to a reporting table that is served: requests, direct calls and report turns, told as the events of crate `reporting` (specs/Claims/Events.antt).
use Rattle.std.specs.Prelude.{Bool, cond, ◌&&◌, List, [], ◌∷◌, ◌++◌, ℕ, drop, eqb, None, Option, Some}
use Rattle.frame.specs.declared.header.ZclHeader.{ZclHeader}
use Rattle.frame.specs.declared.command_identifier.CommandIdentifier.TheVariants.{ConfigureReporting}
use Rattle.frame.specs.Header.{header_of, is_command}
use Rattle.store.specs.Contents.{cluster_of}
use Rattle.store.specs.Layout.{is_store}
use Rattle.reporting.specs.declared.entry.Entry.{Entry}
use Rattle.reporting.specs.Table.{holding, entries_of}
use Rattle.reporting.specs.Claims.Events.{Event, Leads, Call, call, events}
use Rattle.report.specs.Turn.{Turn}
use Rattle.report.specs.Claims.Turns.{frame_of, turned}
use Rattle.report.specs.Claims.History.{marking}
use Rattle.configure.specs.Claims.History.{configure_events}
use Rattle.server.specs.Serve.{serve}

-- ---- a request

-- any frame, for any cluster, unicast or not, over any store, with any room
pub record Request : Type 0 where
  pub store : List ℕ
  pub cluster : ℕ
  pub unicast : Bool
  pub frame : List ℕ
  pub room : ℕ

-- the entries after a request
unfoldable pub requested : ℕ → Request → List Entry → List Entry
requested limit r l = entries_of (serve 8 limit r.store (holding l) r.cluster r.unicast r.frame r.room).state.table

-- the events of a request: those of a Configure Reporting frame over a store of its cluster; no other request has any
abbrev pub headed_events : ℕ → Request → List Entry → Option ZclHeader → List Event
headed_events limit r l None = []
headed_events limit r l (Some h) =
    cond (is_command ConfigureReporting h)
    (configure_events 8 limit r.store l h (drop h.body r.frame) r.room)
    []

unfoldable pub request_events : ℕ → Request → List Entry → List Event
request_events limit r l =
    cond (is_store 8 r.store && eqb r.cluster (cluster_of r.store)) (headed_events limit r l (header_of r.frame)) []

-- ---- uses of a table: requests, direct calls, and report turns

pub data Use : Type 0 where
  request : Request → Use
  direct : Call → Use
  turn : Turn → Use

abbrev pub used : ℕ → Use → List Entry → List Entry
used limit (request r) l = requested limit r l
used limit (direct c) l = call limit c l
used limit (turn u) l = turned 8 u l

abbrev pub use_events : ℕ → Use → List Entry → List Event
use_events limit (request r) l = request_events limit r l
use_events limit (direct c) l = events limit c l
use_events limit (turn u) l = marking u.store u.now (frame_of 8 u l)

-- the entries after uses, and all their events
abbrev pub uses : ℕ → List Use → List Entry → List Entry
uses limit [] l = l
uses limit (u ∷ us) l = uses limit us (used limit u l)

abbrev pub uses_events : ℕ → List Use → List Entry → List Event
uses_events limit [] l = []
uses_events limit (u ∷ us) l = use_events limit u l ++ uses_events limit us (used limit u l)

-- ---- the claim: a use is its events, and so are uses

abbrev pub UsesAreEvents : Type 0
UsesAreEvents = (limit : ℕ) (us : List Use) (l : List Entry) → Leads limit (uses_events limit us l) l (uses limit us l)
