-- Definitions. A request served (document 01, "What a call says back" and "Commands, step by step"; ZCL 2.5).
use Rattle.std.specs.Prelude.{ℕ, Bool, cond, List, drop, eqb, None, Option, Some}
use Rattle.frame.specs.declared.header.ZclHeader.{ZclHeader}
use Rattle.frame.specs.declared.header.FrameType.{FrameType}
use Rattle.frame.specs.declared.header.FrameType.TheVariants.{GlobalCommand, ClusterCommand, Reserved}
use Rattle.frame.specs.declared.command_identifier.CommandIdentifier.{CommandIdentifier}
use Rattle.frame.specs.declared.command_identifier.CommandIdentifier.TheVariants.{ReadAttributes, ReadAttributesResponse, WriteAttributes, WriteAttributesUndivided, WriteAttributesResponse, WriteAttributesNoResponse, ConfigureReporting, ConfigureReportingResponse, ReadReportingConfiguration, ReadReportingConfigurationResponse, ReportAttributes, DefaultResponse, DiscoverAttributes, DiscoverAttributesResponse, Other}
use Rattle.frame.specs.declared.status.Status.TheVariants.{UnsupCommand}
use Rattle.frame.specs.declared.answer.Refusal.TheVariants.{OtherCluster, HeaderShort, ReservedFrameType, NothingToSend, NotAStore, NotATable}
use Rattle.frame.specs.Header.{frame_type_of, header_of}
use Rattle.frame.specs.CommandIdentifier.{command_of}
use Rattle.frame.specs.Answer.{Outcome, within, no_state, refused}
use Rattle.store.specs.Contents.{cluster_of}
use Rattle.store.specs.Layout.{is_store}
use Rattle.reporting.specs.Table.{Table, holding, bad}
use Rattle.read.specs.Read.{read_of}
use Rattle.write.specs.Write.{write_attributes, write_undivided, write_silently}
use Rattle.discover.specs.Discover.{discover_of}
use Rattle.configure.specs.Configure.{configure_of}
use Rattle.configure.specs.Configuration.{configuration_of}
use Rattle.server.specs.DefaultResponse.{default_response}

-- what a request may change
pub record State : Type 0 where
  pub store : List ℕ
  pub table : Table

abbrev pub state : List ℕ → Table → State
state s t = record { store = s; table = t }

-- a command that changes nothing, the store, or the table
abbrev pub neither : List ℕ → Table → Outcome (Unit {0}) → Outcome State
neither s t o = within (λ u. state s t) o

abbrev pub storing : Table → Outcome (List ℕ) → Outcome State
storing t o = within (λ s. state s t) o

abbrev pub tabling : List ℕ → Outcome Table → Outcome State
tabling s o = within (state s) o

-- UNSUP_COMMAND
abbrev pub unsupported : List ℕ → Table → Bool → ZclHeader → ℕ → Outcome State
unsupported s t unicast h room = neither s t (default_response h unicast UnsupCommand room)

-- the seven; a Default Response gets nothing, whatever is in it, and that before the unicast test; any other global command gets UNSUP_COMMAND
unfoldable pub commanded : ℕ → ℕ → List ℕ → Table → Bool → ZclHeader → List ℕ → ℕ → CommandIdentifier → Outcome State
commanded form limit s t unicast h body room ReadAttributes = neither s t (read_of form s h body room)
commanded form limit s t unicast h body room WriteAttributes = storing t (write_attributes form s h body room)
commanded form limit s t unicast h body room WriteAttributesUndivided = storing t (write_undivided form s h body room)
commanded form limit s t unicast h body room WriteAttributesNoResponse = storing t (write_silently form s h body room)
commanded form limit s t unicast h body room ConfigureReporting = tabling s (configure_of form limit s t h body room)
commanded form limit s t unicast h body room ReadReportingConfiguration = neither s t (configuration_of form s t h body room)
commanded form limit s t unicast h body room DiscoverAttributes = neither s t (discover_of form s h body room)
commanded form limit s t unicast h body room ReadAttributesResponse = unsupported s t unicast h room
commanded form limit s t unicast h body room WriteAttributesResponse = unsupported s t unicast h room
commanded form limit s t unicast h body room ConfigureReportingResponse = unsupported s t unicast h room
commanded form limit s t unicast h body room ReadReportingConfigurationResponse = unsupported s t unicast h room
commanded form limit s t unicast h body room ReportAttributes = unsupported s t unicast h room
commanded form limit s t unicast h body room DefaultResponse = neither s t (refused room NothingToSend no_state)
commanded form limit s t unicast h body room DiscoverAttributesResponse = unsupported s t unicast h room
commanded form limit s t unicast h body room (Other b) = unsupported s t unicast h room

-- by the frame's type: every cluster command gets UNSUP_COMMAND; a reserved type is 3
unfoldable pub typed : ℕ → ℕ → List ℕ → Table → Bool → ZclHeader → List ℕ → ℕ → FrameType → Outcome State
typed form limit s t unicast h body room GlobalCommand = commanded form limit s t unicast h body room (command_of h.command_identifier.0)
typed form limit s t unicast h body room ClusterCommand = unsupported s t unicast h room
typed form limit s t unicast h body room Reserved = refused room ReservedFrameType (state s t)

-- by its header: a short one is 2
unfoldable pub by_header : ℕ → ℕ → List ℕ → Table → Bool → List ℕ → ℕ → Option ZclHeader → Outcome State
by_header form limit s t unicast frame room (Some h) = typed form limit s t unicast h (drop h.body frame) room (frame_type_of h.frame_control.0)
by_header form limit s t unicast frame room None = refused room HeaderShort (state s t)

-- for a table; a count above the limit is 8, another cluster 1
unfoldable pub tabled : ℕ → ℕ → List ℕ → ℕ → Bool → List ℕ → ℕ → Table → Outcome State
tabled form limit s cluster unicast frame room (holding l) =
    cond (eqb cluster (cluster_of s))
    (by_header form limit s (holding l) unicast frame room (header_of frame))
    (refused room OtherCluster (state s (holding l)))
tabled form limit s cluster unicast frame room (bad t) = refused room NotATable (state s (bad t))

-- A REQUEST SERVED. Order: 7, 8, 1, 2, 3, then the command
unfoldable pub serve : ℕ → ℕ → List ℕ → Table → ℕ → Bool → List ℕ → ℕ → Outcome State
serve form limit s t cluster unicast frame room =
    cond (is_store form s)
    (tabled form limit s cluster unicast frame room t)
    (refused room NotAStore (state s t))
