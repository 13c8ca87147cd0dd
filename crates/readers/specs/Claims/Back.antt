-- Claims. THE READERS' PROMISE, both ways, for each reply: what was written is read back, exactly; and what is accepted was so written. Proved in
-- proofs/ReadsBack.antt.
use Rattle.frame.specs.declared.answer.Refusal.{Refusal}
use Rattle.std.specs.Prelude.{◌≡◌, ℕ, List, [], ◌∷◌, ◌++◌, take, drop, Ok, Result}
use Rattle.types.specs.Number.{AllBytes}
use Rattle.frame.specs.declared.header.ZclHeader.{ZclHeader}
use Rattle.frame.specs.declared.command_identifier.CommandIdentifier.{CommandIdentifier}
use Rattle.frame.specs.declared.command_identifier.CommandIdentifier.TheVariants.{ReadAttributesResponse, WriteAttributesResponse, ConfigureReportingResponse, ReadReportingConfigurationResponse, ReportAttributes, DefaultResponse, DiscoverAttributesResponse}
use Rattle.frame.specs.Header.{reply_head}
use Rattle.frame.specs.Walk.{All}
use Rattle.frame.specs.Encoded.{encode_all}
use Rattle.frame.specs.Failures.{encode_failures}
use Rattle.read.specs.Read as Read
use Rattle.write.specs.Reply as Write
use Rattle.configure.specs.Configure as Configure
use Rattle.configure.specs.Configuration as Configuration
use Rattle.discover.specs.Discover as Discover
use Rattle.report.specs.Report as Report
use Rattle.readers.specs.Reading.{body_of}
use Rattle.readers.specs.Replies.{Discovery, Response, read_reply_of, write_reply_of, configure_reply_of, configuration_reply_of, report_frame_of, discover_reply_of, default_response_of}
use Rattle.readers.specs.Claims.Sendable.{ReadSendable, WriteSendable, ConfigureSendable, SettingSendable, ReportSendable, DiscoverySendable}

-- ---- over a reply's content, its bytes, and which content can be sent

-- what was written behind the head of a reply to whatever request is read back
abbrev pub ReadsBack : {A : Type 0} → (List ℕ → Result A Refusal) → CommandIdentifier → (A → List ℕ) → (A → Type 0) → Type 0
ReadsBack {A} reader command bytes Sendable = (request : ZclHeader) (x : A) → Sendable x → reader (reply_head request command ++ bytes x) ≡ Ok x

-- a frame that is accepted has a body, and that is the bytes of what was read, which can be sent
abbrev pub AcceptsOnly : {A : Type 0} → (List ℕ → Result A Refusal) → CommandIdentifier → (A → List ℕ) → (A → Type 0) → Type 0
AcceptsOnly {A} reader command bytes Sendable =
    (f : List ℕ) (x : A) → AllBytes f → reader f ≡ Ok x
    → Sendable x × ((p : ℕ) × (body_of command f ≡ Ok p) × (drop p f ≡ bytes x))

abbrev pub BothWays : {A : Type 0} → (List ℕ → Result A Refusal) → CommandIdentifier → (A → List ℕ) → (A → Type 0) → Type 0
BothWays reader command bytes Sendable = ReadsBack reader command bytes Sendable × AcceptsOnly reader command bytes Sendable

-- ---- each reply

abbrev pub ReadReplies : Type 0
ReadReplies = BothWays read_reply_of ReadAttributesResponse (encode_all Read.encode) (All ReadSendable)

abbrev pub WriteReplies : Type 0
WriteReplies = BothWays write_reply_of WriteAttributesResponse (encode_failures Write.encode) (All WriteSendable)

abbrev pub ConfigureReplies : Type 0
ConfigureReplies = BothWays configure_reply_of ConfigureReportingResponse (encode_failures Configure.encode) (All ConfigureSendable)

abbrev pub ConfigurationReplies : Type 0
ConfigurationReplies = BothWays configuration_reply_of ReadReportingConfigurationResponse (encode_all Configuration.encode) (All SettingSendable)

abbrev pub ReportFrames : Type 0
ReportFrames = BothWays report_frame_of ReportAttributes (encode_all Report.encode) (All ReportSendable)

abbrev pub discovery_bytes : Discovery → List ℕ
discovery_bytes d = d.complete ∷ encode_all Discover.encode d.attributes

abbrev pub DiscoverReplies : Type 0
DiscoverReplies = BothWays discover_reply_of DiscoverAttributesResponse discovery_bytes DiscoverySendable

-- a Default Response may have bytes behind its two, which are ignored
abbrev pub response_bytes : Response → List ℕ
response_bytes r = r.command ∷ r.status ∷ []

abbrev pub DefaultResponsesBack : Type 0
DefaultResponsesBack =
    (request : ZclHeader) (x : Response) (more : List ℕ) → default_response_of (reply_head request DefaultResponse ++ response_bytes x ++ more) ≡ Ok x

abbrev pub DefaultResponsesOnly : Type 0
DefaultResponsesOnly =
    (f : List ℕ) (x : Response) → default_response_of f ≡ Ok x
    → (p : ℕ) × (body_of DefaultResponse f ≡ Ok p) × (take 2 (drop p f) ≡ response_bytes x)
