-- Claims. Each answer of a reader, case by case: document 01's number, and the values.
use Rattle.frame.specs.declared.answer.Refusal.{Refusal}
use Rattle.std.specs.Prelude.{◌≡◌, ℕ, List, None, Option, Some, Err, Ok, Result}
use Rattle.frame.specs.Answer.{refusal_number}
use Rattle.readers.specs.declared.read_reply.ReadReplyRecord.{ReadReplyRecord}
use Rattle.readers.specs.declared.report_frame.ReportFrameRecord.{ReportFrameRecord}
use Rattle.readers.specs.declared.write_reply.WriteReplyFailure.{WriteReplyFailure}
use Rattle.readers.specs.declared.configure_reply.ConfigureReplyFailure.{ConfigureReplyFailure}
use Rattle.readers.specs.declared.configuration_reply.ConfigurationReplyRecord.{ConfigurationReplyRecord}
use Rattle.readers.specs.declared.discover_reply.DiscoverReply.{DiscoverReply}
use Rattle.readers.specs.declared.discover_reply.DiscoverReplyRecord.{DiscoverReplyRecord}
use Rattle.readers.specs.declared.default_reply.DefaultReply.{DefaultReply}
use Rattle.readers.specs.Reading.{mapped}
use Rattle.readers.specs.Replies.{Response}
use Rattle.readers.specs.Answers.{Sized, record_is, read_record_is, report_record_is, write_record_is, configure_record_is, configuration_record_is, discovery_is, discover_record_is, response_is}
use Rattle.readers.specs.Told.{Told, told, count_told, no_value, value_fields, ReadFields, read_as, read_record_told, ReportFields, report_as, report_record_told, WriteFields, write_as, write_record_told, ConfigureFields, configure_as, configure_record_told, SettingFields, setting_as, configuration_record_told, sized_as, discovery_told, DiscoverFields, discover_as, discover_record_told, response_as, default_response_told}

-- how many records
abbrev pub count_tells : Result ℕ Refusal → Told ℕ
count_tells (Ok n) = told 0 n
count_tells (Err why) = told (refusal_number why) 0

-- record k of a read reply: a success has status 0
abbrev pub read_record_tells : Result (Option ReadReplyRecord) Refusal → Told ReadFields
read_record_tells (Ok (Some (ReadReplyRecord.Value id v))) = told 0 (read_as 1 id.0 0 (value_fields v))
read_record_tells (Ok (Some (ReadReplyRecord.Failure id status))) = told 0 (read_as 1 id.0 status no_value)
read_record_tells (Ok None) = told 0 (read_as 0 0 0 no_value)
read_record_tells (Err why) = told (refusal_number why) (read_as 0 0 0 no_value)

-- of a report
abbrev pub report_record_tells : Result (Option ReportFrameRecord) Refusal → Told ReportFields
report_record_tells (Ok (Some r)) = told 0 (report_as 1 r.id.0 (value_fields r.value))
report_record_tells (Ok None) = told 0 (report_as 0 0 no_value)
report_record_tells (Err why) = told (refusal_number why) (report_as 0 0 no_value)

-- of a write reply
abbrev pub write_record_tells : Result (Option WriteReplyFailure) Refusal → Told WriteFields
write_record_tells (Ok (Some r)) = told 0 (write_as 1 r.status r.id.0)
write_record_tells (Ok None) = told 0 (write_as 0 0 0)
write_record_tells (Err why) = told (refusal_number why) (write_as 0 0 0)

-- of a configure reply
abbrev pub configure_record_tells : Result (Option ConfigureReplyFailure) Refusal → Told ConfigureFields
configure_record_tells (Ok (Some r)) = told 0 (configure_as 1 r.status r.direction r.id.0)
configure_record_tells (Ok None) = told 0 (configure_as 0 0 0 0)
configure_record_tells (Err why) = told (refusal_number why) (configure_as 0 0 0 0)

-- of a read configuration reply
abbrev pub configuration_record_tells : Result (Option ConfigurationReplyRecord) Refusal → Told SettingFields
configuration_record_tells (Ok (Some (ConfigurationReplyRecord.Setting direction id t g))) =
    told 0 (setting_as (configure_as 1 0 direction id.0) t.0 g.min_interval g.max_interval g.reportable_change)
configuration_record_tells (Ok (Some (ConfigurationReplyRecord.Failure status direction id))) =
    told 0 (setting_as (configure_as 1 status direction id.0) 0 0 0 0)
configuration_record_tells (Ok None) = told 0 (setting_as (configure_as 0 0 0 0) 0 0 0 0)
configuration_record_tells (Err why) = told (refusal_number why) (setting_as (configure_as 0 0 0 0) 0 0 0 0)

-- a discover reply: its complete byte and how many attributes
abbrev pub discovery_tells : Result DiscoverReply Refusal → Told Sized
discovery_tells (Ok r) = told 0 (sized_as r.complete r.count)
discovery_tells (Err why) = told (refusal_number why) (sized_as 0 0)

-- and record k
abbrev pub discover_record_tells : Result (Option DiscoverReplyRecord) Refusal → Told DiscoverFields
discover_record_tells (Ok (Some r)) = told 0 (discover_as 1 r.id.0 r.type_id.0)
discover_record_tells (Ok None) = told 0 (discover_as 0 0 0)
discover_record_tells (Err why) = told (refusal_number why) (discover_as 0 0 0)

-- a Default Response: the command that it answers, and the status
abbrev pub response_tells : Result DefaultReply Refusal → Told Response
response_tells (Ok r) = told 0 (response_as r.command.0 r.status)
response_tells (Err why) = told (refusal_number why) (response_as 0 0)

-- ---- a law, to be proved: each answer tells what its contract says of the frame

-- the contract is `is r ≡ x`
abbrev pub ByContract : {E A R : Type 0} → (Result E Refusal → Result A Refusal) → (Result A Refusal → Told R) → (Result E Refusal → Told R) → Type 0
ByContract {E} {A} is says tells = (r : Result E Refusal) (x : Result A Refusal) → is r ≡ x → tells r ≡ says x

pub record AnswersTell : Type 0 where
  pub count : (r x : Result ℕ Refusal) → r ≡ x → count_tells r ≡ count_told x
  pub reads : (frame : List ℕ) → ByContract (record_is (read_record_is frame)) read_record_told read_record_tells
  pub reports : (frame : List ℕ) → ByContract (record_is (report_record_is frame)) report_record_told report_record_tells
  pub writes : ByContract (record_is write_record_is) write_record_told write_record_tells
  pub configures : ByContract (record_is configure_record_is) configure_record_told configure_record_tells
  pub configurations : ByContract (record_is configuration_record_is) configuration_record_told configuration_record_tells
  pub discovery : ByContract (mapped discovery_is) discovery_told discovery_tells
  pub discovers : ByContract (record_is discover_record_is) discover_record_told discover_record_tells
  pub response : ByContract (mapped response_is) default_response_told response_tells
