-- No second answer fits a contract: one theorem for each public function, of two results that meet it for the same frame and record.
-- Assumes nothing.
use Rattle.std.specs.Prelude.{Result}
use mathlib.Core.Path.{sym, ◌∙◌}
use Prim.Native.Nat.{ℕ}
use Rattle.frame.specs.declared.answer.Refusal.{Refusal}
use Rattle.readers.specs.Reading.{counted, kth}
use Rattle.readers.specs.Replies.{read_reply_of, write_reply_of, configure_reply_of, configuration_reply_of, report_frame_of, discover_reply_of, default_response_of}
use Rattle.readers.specs.Values.{read_reply_held, report_frame_held}
use Rattle.readers.specs.Answers.{sized, attributes_in}
use Rattle.readers.specs.Claims.Unique.{OneIs, CheckConfigurationReplyOnce, ConfigurationReplyRecordOnce, CheckConfigureReplyOnce, ConfigureReplyRecordOnce, ReadDefaultResponseOnce, CheckDiscoverReplyOnce, DiscoverReplyRecordOnce, CheckReadReplyOnce, ReadReplyRecordOnce, CheckReportFrameOnce, ReportFrameRecordOnce, CheckWriteReplyOnce, WriteReplyRecordOnce}
use Rattle.readers.proofs.Views.{one_discovery, one_response, one_write_record, one_configure_record, one_configuration_record, one_discover_record, one_read_record, one_report_record}

one_is : (x : Result ℕ Refusal) → OneIs x
one_is x r q e f = e ∙ sym f

-- src/configuration_reply.rt
pub check_configuration_reply_once : CheckConfigurationReplyOnce
check_configuration_reply_once frame = one_is (counted (configuration_reply_of frame))

pub configuration_reply_record_once : ConfigurationReplyRecordOnce
configuration_reply_record_once frame k = one_configuration_record (kth k (configuration_reply_of frame))

-- src/configure_reply.rt
pub check_configure_reply_once : CheckConfigureReplyOnce
check_configure_reply_once frame = one_is (counted (configure_reply_of frame))

pub configure_reply_record_once : ConfigureReplyRecordOnce
configure_reply_record_once frame k = one_configure_record (kth k (configure_reply_of frame))

-- src/default_reply.rt
pub read_default_response_once : ReadDefaultResponseOnce
read_default_response_once frame = one_response (default_response_of frame)

-- src/discover_reply.rt
pub check_discover_reply_once : CheckDiscoverReplyOnce
check_discover_reply_once frame = one_discovery (sized (discover_reply_of frame))

pub discover_reply_record_once : DiscoverReplyRecordOnce
discover_reply_record_once frame k = one_discover_record (kth k (attributes_in (discover_reply_of frame)))

-- src/read_reply.rt
pub check_read_reply_once : CheckReadReplyOnce
check_read_reply_once frame = one_is (counted (read_reply_of frame))

pub read_reply_record_once : ReadReplyRecordOnce
read_reply_record_once frame k = one_read_record frame (kth k (read_reply_held frame))

-- src/report_frame.rt
pub check_report_frame_once : CheckReportFrameOnce
check_report_frame_once frame = one_is (counted (report_frame_of frame))

pub report_frame_record_once : ReportFrameRecordOnce
report_frame_record_once frame k = one_report_record frame (kth k (report_frame_held frame))

-- src/write_reply.rt
pub check_write_reply_once : CheckWriteReplyOnce
check_write_reply_once frame = one_is (counted (write_reply_of frame))

pub write_reply_record_once : WriteReplyRecordOnce
write_reply_record_once frame k = one_write_record (kth k (write_reply_of frame))
