-- Claims. How every reply starts (document 01, "Frames and values": "Every reply starts 18, sequence, reply command").
use Rattle.std.specs.Prelude.{◌≡◌, Bool, List, [], ◌∷◌, ℕ, take, Some}
use Rattle.frame.specs.declared.header.ZclHeader.{ZclHeader}
use Rattle.frame.specs.declared.header.FrameType.{FrameType}
use Rattle.frame.specs.declared.header.FrameType.TheVariants.{GlobalCommand, ClusterCommand, Reserved}
use Rattle.frame.specs.declared.command_identifier.CommandIdentifier.{CommandIdentifier}
use Rattle.frame.specs.declared.command_identifier.CommandIdentifier.TheVariants.{ReadAttributes, ReadAttributesResponse, WriteAttributes, WriteAttributesUndivided, WriteAttributesResponse, WriteAttributesNoResponse, ConfigureReporting, ConfigureReportingResponse, ReadReportingConfiguration, ReadReportingConfigurationResponse, ReportAttributes, DefaultResponse, DiscoverAttributes, DiscoverAttributesResponse, Other}
use Rattle.frame.specs.Header.{frame_type_of, header_of}
use Rattle.frame.specs.CommandIdentifier.{command_code, command_of}
use Rattle.frame.specs.Answer.{Outcome}
use Rattle.reporting.specs.Table.{Table}
use Rattle.server.specs.Serve.{serve}
use Rattle.server.specs.UnsupportedCluster.{unsupported_cluster}
use Rattle.report.specs.Report.{report_of}
use Rattle.report.specs.Turn.{Turn, turn_of}

-- where the number is 0, the first three of the reply's bytes
abbrev pub Starts : {S : Type 0} → ℕ → CommandIdentifier → Outcome S → Type 0
Starts sequence command o = o.number ≡ 0 → take 3 (take o.size o.reply) ≡ 0x18 ∷ sequence ∷ command_code command ∷ []

-- the command that answers a global command: 00 by 01, 02 and 03 by 04, 06 by 07, 08 by 09, 0c by 0d, every other by 0b; 05 and 0b get no reply
abbrev pub reply_to : CommandIdentifier → CommandIdentifier
reply_to ReadAttributes = ReadAttributesResponse
reply_to WriteAttributes = WriteAttributesResponse
reply_to WriteAttributesUndivided = WriteAttributesResponse
reply_to WriteAttributesNoResponse = DefaultResponse
reply_to ConfigureReporting = ConfigureReportingResponse
reply_to ReadReportingConfiguration = ReadReportingConfigurationResponse
reply_to DiscoverAttributes = DiscoverAttributesResponse
reply_to ReadAttributesResponse = DefaultResponse
reply_to WriteAttributesResponse = DefaultResponse
reply_to ConfigureReportingResponse = DefaultResponse
reply_to ReadReportingConfigurationResponse = DefaultResponse
reply_to ReportAttributes = DefaultResponse
reply_to DefaultResponse = DefaultResponse
reply_to DiscoverAttributesResponse = DefaultResponse
reply_to (Other b) = DefaultResponse

-- a cluster command of whatever number is answered by 0b; a reserved type gets no reply
abbrev pub answering : FrameType → ℕ → CommandIdentifier
answering GlobalCommand command = reply_to (command_of command)
answering ClusterCommand command = DefaultResponse
answering Reserved command = DefaultResponse

-- EVERY REPLY to a request starts so (a frame without a header gets no reply: `by_header` in Serve.antt, `respond` in UnsupportedCluster.antt)
abbrev pub RepliesStart : Type 0
RepliesStart =
    (form limit : ℕ) (s : List ℕ) (t : Table) (cluster : ℕ) (unicast : Bool) (frame : List ℕ) (room : ℕ) (h : ZclHeader)
    → header_of frame ≡ Some h
    → Starts h.sequence_number (answering (frame_type_of h.frame_control.0) h.command_identifier.0) (serve form limit s t cluster unicast frame room)

-- the responder's
abbrev pub ResponsesStart : Type 0
ResponsesStart =
    (served : List ℕ) (cluster : ℕ) (unicast : Bool) (frame : List ℕ) (room : ℕ) (h : ZclHeader)
    → header_of frame ≡ Some h
    → Starts h.sequence_number DefaultResponse (unsupported_cluster served cluster unicast frame room)

-- and a report, with the sequence number that it was given
abbrev pub ReportsStart : Type 0
ReportsStart =
    (form : ℕ) (s : List ℕ) (sequence : ℕ) (ids : List ℕ) (room : ℕ) → Starts sequence ReportAttributes (report_of form s sequence ids room)

-- and a report turn
abbrev pub TurnsStart : Type 0
TurnsStart = (form : ℕ) (u : Turn) (bs : List ℕ) → Starts u.sequence ReportAttributes (turn_of form u bs)
