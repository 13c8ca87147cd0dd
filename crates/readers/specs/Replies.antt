-- Definitions. Each reply, and a report frame, read (document 01, "Readers give .."): its records, or why it is refused. The records are those that
-- the commands' definitions write.
use Rattle.frame.specs.declared.answer.Refusal.{Refusal}
use Rattle.std.specs.Prelude.{ℕ, ◌+◌, cond, ◌&&◌, false, List, [], length, get_or, drop, leb, eqb, Err, Ok, Result}
use Rattle.types.specs.Number.{unsigned_at}
use Rattle.frame.specs.declared.answer.Refusal.TheVariants.{RecordCut, NotSuchAReply}
use Rattle.frame.specs.declared.command_identifier.CommandIdentifier.{CommandIdentifier}
use Rattle.frame.specs.declared.command_identifier.CommandIdentifier.TheVariants.{ReadAttributesResponse, WriteAttributesResponse, ConfigureReportingResponse, ReadReportingConfigurationResponse, ReportAttributes, DefaultResponse, DiscoverAttributesResponse}
use Rattle.read.specs.Read.{ReadRecord, value, failure}
use Rattle.write.specs.Reply as Write
use Rattle.configure.specs.Request.{change_width}
use Rattle.configure.specs.Configure as Configure
use Rattle.configure.specs.Configuration as Configuration
use Rattle.discover.specs.Discover as Discover
use Rattle.report.specs.Report.{ReportRecord, report_record}
use Rattle.readers.specs.declared.layout.Layout.{Layout}
use Rattle.readers.specs.declared.layout.Layout.TheVariants.{ReadStatus, Report, WriteFailure, ConfigureFailure, Setting, Discovered}
use Rattle.readers.specs.Layout.{length_of}
use Rattle.readers.specs.declared.pass.Span.{Span}
use Rattle.readers.specs.Reading.{mapped, and_then, body_of, spans_from, records_of}

-- ---- replies that are nothing but records

unfoldable pub spans_of : CommandIdentifier → Layout → List ℕ → Result (List Span) Refusal
spans_of command layout f = and_then (body_of command f) (spans_from (length_of layout) f)

-- READ (01): id, 00, type, value; or id and status
unfoldable pub read_record : List ℕ → ReadRecord
read_record b =
    cond (eqb (get_or b 2 0) 0)
    (value (unsigned_at b 0 2) (get_or b 3 0) (drop 4 b))
    (failure (unsigned_at b 0 2) (get_or b 2 0))

unfoldable pub read_reply_of : List ℕ → Result (List ReadRecord) Refusal
read_reply_of f = records_of read_record f (spans_of ReadAttributesResponse ReadStatus f)

-- READ CONFIGURATION (09): status, direction, id, and on success type, minimum, maximum and, if analog, change
unfoldable pub setting_record : List ℕ → Configuration.SettingRecord
setting_record b =
    cond (eqb (get_or b 0 0) 0)
    (Configuration.setting (get_or b 1 0) (unsigned_at b 2 2) (get_or b 4 0)
    (record {
      min_interval = unsigned_at b 5 2;
      max_interval = unsigned_at b 7 2;
      reportable_change = unsigned_at b 9 (change_width (get_or b 4 0));
      unsigned = false;
    }))
    (Configuration.failure (get_or b 0 0) (get_or b 1 0) (unsigned_at b 2 2))

unfoldable pub configuration_reply_of : List ℕ → Result (List Configuration.SettingRecord) Refusal
configuration_reply_of f = records_of setting_record f (spans_of ReadReportingConfigurationResponse Setting f)

-- A REPORT (0a): id, type, value
unfoldable pub reported_record : List ℕ → ReportRecord
reported_record b = report_record (unsigned_at b 0 2) (get_or b 2 0) (drop 3 b)

unfoldable pub report_frame_of : List ℕ → Result (List ReportRecord) Refusal
report_frame_of f = records_of reported_record f (spans_of ReportAttributes Report f)

-- ---- replies that list failures: one byte 00 is success, an empty body is cut

unfoldable pub failures_from : Layout → List ℕ → ℕ → Result (List Span) Refusal
failures_from layout f p =
    cond (leb (length f) p) (Err RecordCut)  -- no byte
    (cond (eqb (length f) (p + 1) && eqb (get_or f p 0) 0) (Ok []) (spans_from (length_of layout) f p))

unfoldable pub failures_of : CommandIdentifier → Layout → List ℕ → Result (List Span) Refusal
failures_of command layout f = and_then (body_of command f) (failures_from layout f)

-- WRITE (04): status, id
unfoldable pub write_failure : List ℕ → Write.Failure
write_failure b = Write.failure (get_or b 0 0) (unsigned_at b 1 2)

unfoldable pub write_reply_of : List ℕ → Result (List Write.Failure) Refusal
write_reply_of f = records_of write_failure f (failures_of WriteAttributesResponse WriteFailure f)

-- CONFIGURE (07): status, direction, id
unfoldable pub configure_failure : List ℕ → Configure.Failure
configure_failure b = record { status = get_or b 0 0; direction = get_or b 1 0; id = unsigned_at b 2 2 }

unfoldable pub configure_reply_of : List ℕ → Result (List Configure.Failure) Refusal
configure_reply_of f = records_of configure_failure f (failures_of ConfigureReportingResponse ConfigureFailure f)

-- ---- DISCOVER (0d): a complete byte, above 1 it is 10; then id, type

pub record Discovery : Type 0 where
  pub complete : ℕ
  pub attributes : List Discover.Discovered

unfoldable pub discovered_record : List ℕ → Discover.Discovered
discovered_record b = record { id = unsigned_at b 0 2; type = get_or b 2 0 }

-- the records behind the complete byte at p
unfoldable pub discovered_from : List ℕ → ℕ → Result (List Span) Refusal
discovered_from f p =
    cond (leb (length f) p) (Err RecordCut)
    (cond (leb (get_or f p 0) 1) (spans_from (length_of Discovered) f (p + 1)) (Err NotSuchAReply))

abbrev pub discovery : ℕ → List Discover.Discovered → Discovery
discovery complete l = record { complete = complete; attributes = l }

abbrev pub discovery_at : List ℕ → ℕ → Result Discovery Refusal
discovery_at f p = mapped (discovery (get_or f p 0)) (records_of discovered_record f (discovered_from f p))

unfoldable pub discover_reply_of : List ℕ → Result Discovery Refusal
discover_reply_of f = and_then (body_of DiscoverAttributesResponse f) (discovery_at f)

-- ---- A DEFAULT RESPONSE (0b): command, status; bytes behind them are ignored

pub record Response : Type 0 where
  pub command : ℕ
  pub status : ℕ

abbrev pub response_at : List ℕ → ℕ → Result Response Refusal
response_at f p = cond (leb (p + 2) (length f)) (Ok (record { command = get_or f p 0; status = get_or f (p + 1) 0 })) (Err RecordCut)

unfoldable pub default_response_of : List ℕ → Result Response Refusal
default_response_of f = and_then (body_of DefaultResponse f) (response_at f)
