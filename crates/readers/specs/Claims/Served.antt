-- Claims. READING WHAT WAS SERVED gives the records that the command's definition made: for every store, table, request and room. Where the room
-- shortened a reply, the records are those that fit. Proved in proofs/ServesBack.antt.
use Rattle.frame.specs.declared.answer.Refusal.{Refusal}
use Rattle.std.specs.Prelude.{◌≡◌, ℕ, ◌-◌, ◌<◌, ◌^◌, Bool, List, [], take, drop, get_or, Ok, Some, Result}
use Rattle.types.specs.Number.{unsigned_at, AllBytes}
use Rattle.frame.specs.declared.header.ZclHeader.{ZclHeader}
use Rattle.frame.specs.declared.command_identifier.CommandIdentifier.{CommandIdentifier}
use Rattle.frame.specs.declared.command_identifier.CommandIdentifier.TheVariants.{ReadAttributes, ReadAttributesResponse, WriteAttributes, WriteAttributesUndivided, WriteAttributesResponse, WriteAttributesNoResponse, ConfigureReporting, ConfigureReportingResponse, ReadReportingConfiguration, ReadReportingConfigurationResponse, ReportAttributes, DefaultResponse, DiscoverAttributes, DiscoverAttributesResponse, Other}
use Rattle.frame.specs.declared.status.Status.TheVariants.{UnsupCommand, UnsupportedCluster}
use Rattle.frame.specs.Status.{status_code}
use Rattle.frame.specs.Header.{header_of}
use Rattle.frame.specs.Answer.{no_state, seen}
use Rattle.frame.specs.Walk.{Way, through, broken, stopped, reached, All}
use Rattle.frame.specs.Encoded.{fits}
use Rattle.frame.specs.Shortened.{shortened_from}
use Rattle.frame.specs.Failures.{pass}
use Rattle.store.specs.declared.lookup.Attribute.{Attribute}
use Rattle.store.specs.Contents.{name_of, attributes_of}
use Rattle.reporting.specs.declared.entry.Entry.{Entry}
use Rattle.reporting.specs.Table.{holding}
use Rattle.read.specs.Read as Read
use Rattle.write.specs.Request.{records}
use Rattle.write.specs.Reply as Write
use Rattle.write.specs.Write.{writing, checking}
use Rattle.configure.specs.Request.{configures, asked_from}
use Rattle.configure.specs.Configure as Configure
use Rattle.configure.specs.Configuration as Configuration
use Rattle.discover.specs.Discover.{at_or_after, listed, complete_byte, discovered_all}
use Rattle.server.specs.Serve.{State, serve}
use Rattle.server.specs.UnsupportedCluster.{unsupported_cluster}
use Rattle.report.specs.Report.{ReportRecord, all, report_from, report_of}
use Rattle.server.specs.Claims.Asks.{Asks, AsksCluster}
use Rattle.readers.specs.Replies.{Discovery, discovery, Response, read_reply_of, write_reply_of, configure_reply_of, configuration_reply_of, report_frame_of, discover_reply_of, default_response_of}

-- ---- the records that a command made, behind a head of three bytes

-- those that the reply holds; a walk that broke has no reply, and what is said of it here never counts
abbrev pub kept : {R : Type 0} → Way (List R) → List R
kept (through rs) = rs
kept (broken rs) = rs
kept (stopped rs more) = rs

-- by form, limit, store, entries, header, body and room
abbrev pub OfRequest : Type 0 → Type 0
OfRequest A = ℕ → ℕ → List ℕ → List Entry → ZclHeader → List ℕ → ℕ → A

abbrev pub read_made : OfRequest (List Read.ReadRecord)
read_made form limit s l h body room = kept (shortened_from Read.encode (Read.record_for form s h) room 3 [] (Read.ids_from body 0))

abbrev pub settings_made : OfRequest (List Configuration.SettingRecord)
settings_made form limit s l h body room =
    kept (shortened_from Configuration.encode (λ fit. Configuration.record_for form s l h) room 3 [] (asked_from body 0))

abbrev pub write_made : OfRequest (List Write.Failure)
write_made form limit s l h body room = (reached (pass (writing form h) (fits Write.encode room 3) (records body) s)).failures

-- nothing fails behind the first pass
abbrev pub undivided_made : OfRequest (List Write.Failure)
undivided_made form limit s l h body room = (reached (pass (checking form h) (fits Write.encode room 3) (records body) s)).failures

abbrev pub configure_made : OfRequest (List Configure.Failure)
configure_made form limit s l h body room =
    (reached (pass (Configure.configuring form limit s h) (fits Configure.encode room 3) (configures body) l)).failures

abbrev pub discovery_made : OfRequest Discovery
discovery_made form limit s l h body room =
    let asked : List Attribute = at_or_after (name_of h.manufacturer_code.0 (unsigned_at body 0 2)) (attributes_of form s) in
    let some : List Attribute = listed 3 (room - 4) (get_or body 2 0) asked in
    discovery (complete_byte asked some) (discovered_all some)

abbrev pub response_made : OfRequest Response
response_made form limit s l h body room = record { command = h.command_identifier.0; status = status_code UnsupCommand }

-- ---- the promise

-- what the types of the arguments say: bytes, and intervals of sixteen bits
abbrev pub Typed : List ℕ → List ℕ → List Entry → Type 0
Typed s frame l = AllBytes s × AllBytes frame × All (λ (e : Entry). (e.config.min_interval < 2 ^ 16) × (e.config.max_interval < 2 ^ 16)) l

-- whatever was answered to a frame, with a table of these entries, reads as that
abbrev pub Answered : {A : Type 0} → (List ℕ → ZclHeader → Type 0) → (List ℕ → Result A Refusal) → OfRequest A → Type 0
Answered Asking reader made =
    (form limit : ℕ) (s : List ℕ) (l : List Entry) (cluster : ℕ) (unicast : Bool) (frame : List ℕ) (room : ℕ) (h : ZclHeader)
    → Typed s frame l → Asking frame h
    → (size : ℕ) (reply : List ℕ) (after : State) → seen (Ok size) reply after ≡ serve form limit s (holding l) cluster unicast frame room
    → reader (take size reply) ≡ Ok (made form limit s l h (drop h.body frame) room)

abbrev pub Serves : {A : Type 0} → CommandIdentifier → (List ℕ → Result A Refusal) → OfRequest A → Type 0
Serves command reader made = Answered (Asks command) reader made

abbrev pub ReadServed : Type 0
ReadServed = Serves ReadAttributes read_reply_of read_made

abbrev pub WriteServed : Type 0
WriteServed = Serves WriteAttributes write_reply_of write_made

abbrev pub UndividedServed : Type 0
UndividedServed = Serves WriteAttributesUndivided write_reply_of undivided_made

abbrev pub ConfigureServed : Type 0
ConfigureServed = Serves ConfigureReporting configure_reply_of configure_made

abbrev pub ConfigurationServed : Type 0
ConfigurationServed = Serves ReadReportingConfiguration configuration_reply_of settings_made

abbrev pub DiscoverServed : Type 0
DiscoverServed = Serves DiscoverAttributes discover_reply_of discovery_made

-- every cluster command has a Default Response
abbrev pub ClusterServed : Type 0
ClusterServed = Answered AsksCluster default_response_of response_made

-- and so has every global command that is none of the seven and no Default Response
abbrev pub IsOther : CommandIdentifier → Type 0
IsOther ReadAttributes = ⊥
IsOther WriteAttributes = ⊥
IsOther WriteAttributesUndivided = ⊥
IsOther WriteAttributesNoResponse = ⊥
IsOther ConfigureReporting = ⊥
IsOther ReadReportingConfiguration = ⊥
IsOther DiscoverAttributes = ⊥
IsOther ReadAttributesResponse = Unit {0}
IsOther WriteAttributesResponse = Unit {0}
IsOther ConfigureReportingResponse = Unit {0}
IsOther ReadReportingConfigurationResponse = Unit {0}
IsOther ReportAttributes = Unit {0}
IsOther DefaultResponse = ⊥
IsOther DiscoverAttributesResponse = Unit {0}
IsOther (Other b) = Unit {0}

abbrev pub OtherServed : Type 0
OtherServed = (command : CommandIdentifier) → IsOther command → Serves command default_response_of response_made

-- ---- the responder, and a report

abbrev pub UnsupportedClusterServed : Type 0
UnsupportedClusterServed =
    (served : List ℕ) (cluster : ℕ) (unicast : Bool) (frame : List ℕ) (room : ℕ) (h : ZclHeader) → header_of frame ≡ Some h
    → (size : ℕ) (reply : List ℕ) → seen (Ok size) reply no_state ≡ unsupported_cluster served cluster unicast frame room
    → default_response_of (take size reply) ≡ Ok (record { command = h.command_identifier.0; status = status_code UnsupportedCluster })

-- a report's records are made one by one from its list of ids
abbrev pub ReportSent : Type 0
ReportSent =
    (form : ℕ) (s : List ℕ) (sequence : ℕ) (ids : List ℕ) (room : ℕ) → All (λ (id : ℕ). id < 2 ^ 16) ids
    → (size : ℕ) (reply : List ℕ) → seen (Ok size) reply no_state ≡ report_of form s sequence ids room
    → (rs : List ReportRecord) × (report_from form s room 3 [] ids ≡ all rs) × (report_frame_of (take size reply) ≡ Ok rs)
