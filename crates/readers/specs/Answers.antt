-- Definitions. What each answer of a reader says: the records that stand in the frame, or the refusal.
use Rattle.frame.specs.declared.answer.Refusal.{Refusal}
use Rattle.std.specs.Prelude.{ℕ, List, length, take, drop, None, Option, Some, Result, option_map}
use Rattle.read.specs.Read as Read
use Rattle.write.specs.Reply as Write
use Rattle.configure.specs.Configure as Configure
use Rattle.configure.specs.Configuration as Configuration
use Rattle.discover.specs.Discover.{Discovered}
use Rattle.report.specs.Report.{ReportRecord, report_record}
use Rattle.readers.specs.declared.read_reply.ReadReplyRecord.{ReadReplyRecord}
use Rattle.readers.specs.declared.report_frame.ReportFrameRecord.{ReportFrameRecord}
use Rattle.readers.specs.declared.write_reply.WriteReplyFailure.{WriteReplyFailure}
use Rattle.readers.specs.declared.configure_reply.ConfigureReplyFailure.{ConfigureReplyFailure}
use Rattle.readers.specs.declared.configuration_reply.ConfigurationReplyRecord.{ConfigurationReplyRecord}
use Rattle.readers.specs.declared.discover_reply.DiscoverReply.{DiscoverReply}
use Rattle.readers.specs.declared.discover_reply.DiscoverReplyRecord.{DiscoverReplyRecord}
use Rattle.readers.specs.declared.default_reply.DefaultReply.{DefaultReply}
use Rattle.readers.specs.Reading.{mapped}
use Rattle.readers.specs.Replies.{Discovery, Response}
use Rattle.readers.specs.Values.{Held, held}

-- a value stands in the frame
abbrev pub read_record_is : List ℕ → ReadReplyRecord → Held Read.ReadRecord
read_record_is f (ReadReplyRecord.Value id v) = held (Read.value id.0 v.type_id.0 (take v.len (drop v.start f))) (Some v)
read_record_is f (ReadReplyRecord.Failure id status) = held (Read.failure id.0 status) None

abbrev pub report_record_is : List ℕ → ReportFrameRecord → Held ReportRecord
report_record_is f r = held (report_record r.id.0 r.value.type_id.0 (take r.value.len (drop r.value.start f))) (Some r.value)

abbrev pub write_record_is : WriteReplyFailure → Write.Failure
write_record_is r = Write.failure r.status r.id.0

abbrev pub configure_record_is : ConfigureReplyFailure → Configure.Failure
configure_record_is r = record { status = r.status; direction = r.direction; id = r.id.0 }

abbrev pub configuration_record_is : ConfigurationReplyRecord → Configuration.SettingRecord
configuration_record_is (ConfigurationReplyRecord.Setting direction id t g) = Configuration.setting direction id.0 t.0 g
configuration_record_is (ConfigurationReplyRecord.Failure status direction id) = Configuration.failure status direction id.0

-- record k, where there is one, of a frame that can be read
abbrev pub record_is : {A B : Type 0} → (A → B) → Result (Option A) Refusal → Result (Option B) Refusal
record_is f x = mapped (option_map f) x

-- a discover reply: its complete byte, and how many attributes
pub record Sized : Type 0 where
  pub complete : ℕ
  pub count : ℕ

abbrev pub sized : Result Discovery Refusal → Result Sized Refusal
sized x = mapped (λ d. record { complete = d.complete; count = length d.attributes }) x

abbrev pub attributes_in : Result Discovery Refusal → Result (List Discovered) Refusal
attributes_in x = mapped (λ d. d.attributes) x

abbrev pub discovery_is : DiscoverReply → Sized
discovery_is r = record { complete = r.complete; count = r.count }

abbrev pub discover_record_is : DiscoverReplyRecord → Discovered
discover_record_is r = record { id = r.id.0; type = r.type_id.0 }

abbrev pub response_is : DefaultReply → Response
response_is r = record { command = r.command.0; status = r.status }
