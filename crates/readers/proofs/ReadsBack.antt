-- THE READERS' PROMISE (specs/Claims/Back.antt), reply by reply: what was written is read back, and nothing else is accepted. Assumes nothing.
use mathlib.Core.List.{List, ◌++◌}
use Prim.Native.Nat.{ℕ}
use lib.ListN.{get_or}
use Rattle.frame.specs.declared.command_identifier.CommandIdentifier.TheVariants.{ReadAttributesResponse, WriteAttributesResponse, ConfigureReportingResponse, ReadReportingConfigurationResponse, ReportAttributes}
use Rattle.read.specs.Read as Read
use Rattle.write.specs.Reply as Write
use Rattle.configure.specs.Configure as Configure
use Rattle.configure.specs.Configuration as Configuration
use Rattle.report.specs.Report as Report
use Rattle.readers.specs.declared.layout.Layout.TheVariants as Layout
use Rattle.readers.specs.Replies.{read_record, write_failure, configure_failure, setting_record, reported_record, read_reply_of, write_reply_of, configure_reply_of, configuration_reply_of, report_frame_of}
use Rattle.readers.specs.Claims.Sendable.{Failed, ReadSendable, WriteSendable, ConfigureSendable, SettingSendable, ReportSendable}
use Rattle.readers.specs.Claims.Back.{ReadReplies, WriteReplies, ConfigureReplies, ConfigurationReplies, ReportFrames, DiscoverReplies, DefaultResponsesBack, DefaultResponsesOnly}
use Rattle.readers.proofs.Plain.{plain_both}
use Rattle.readers.proofs.Failing.{failing_both}
use Rattle.readers.proofs.Discovering.{discover_back, discover_only}
use Rattle.readers.proofs.Responding.{response_back, response_only}
use Rattle.readers.proofs.CodecFixed.{write_codec, configure_codec}
use Rattle.readers.proofs.CodecRead.{read_codec}
use Rattle.readers.proofs.CodecReport.{report_codec}
use Rattle.readers.proofs.CodecSetting.{setting_codec}

-- ---- replies that are nothing but records

pub read_replies : ReadReplies
unfolding read_reply_of
read_replies = plain_both ReadAttributesResponse Layout.ReadStatus read_record Read.encode ReadSendable read_codec

pub configuration_replies : ConfigurationReplies
unfolding configuration_reply_of
configuration_replies = plain_both ReadReportingConfigurationResponse Layout.Setting setting_record Configuration.encode SettingSendable setting_codec

pub report_frames : ReportFrames
unfolding report_frame_of
report_frames = plain_both ReportAttributes Layout.Report reported_record Report.encode ReportSendable report_codec

-- ---- replies that list failures

write_begins : (r : Write.Failure) (rest : List ℕ) → WriteSendable r → Failed (get_or (Write.encode r ++ rest) 0 0)
unfolding Write.encode
write_begins r rest h = h.0

pub write_replies : WriteReplies
unfolding write_reply_of
write_replies = failing_both WriteAttributesResponse Layout.WriteFailure write_failure Write.encode WriteSendable write_codec write_begins

pub configure_replies : ConfigureReplies
unfolding configure_reply_of
configure_replies =
    failing_both ConfigureReportingResponse Layout.ConfigureFailure configure_failure Configure.encode ConfigureSendable configure_codec (λ r rest h. h.0)

-- ---- a discover reply, and a Default Response

pub discover_replies : DiscoverReplies
discover_replies = (discover_back, discover_only)

pub default_responses_back : DefaultResponsesBack
default_responses_back = response_back

pub default_responses_only : DefaultResponsesOnly
default_responses_only = response_only
