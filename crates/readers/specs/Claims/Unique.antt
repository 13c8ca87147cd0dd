-- Claims. No second answer fits a contract: one claim for each public function, of two results that meet it for the same frame and record.
use Rattle.std.specs.Prelude.{◌≡◌, List, ℕ, Result}
use Rattle.frame.specs.declared.answer.Refusal.{Refusal}
use Rattle.readers.specs.Reading.{mapped, counted, kth}
use Rattle.readers.specs.Replies.{read_reply_of, write_reply_of, configure_reply_of, configuration_reply_of, report_frame_of, discover_reply_of, default_response_of}
use Rattle.readers.specs.Values.{read_reply_held, report_frame_held}
use Rattle.readers.specs.Answers.{record_is, read_record_is, report_record_is, write_record_is, configure_record_is, configuration_record_is, discovery_is, discover_record_is, response_is, sized, attributes_in}

-- two counts that are the same are equal
abbrev pub OneIs : Result ℕ Refusal → Type 0
OneIs x = (r q : Result ℕ Refusal) → r ≡ x → q ≡ x → r ≡ q

-- two answers that say the same are equal
abbrev pub OneSays : {A B : Type 0} → (A → B) → B → Type 0
OneSays {A} says x = (r q : A) → says r ≡ x → says q ≡ x → r ≡ q

-- src/configuration_reply.rt
abbrev pub CheckConfigurationReplyOnce : Type 0
CheckConfigurationReplyOnce = (frame : List ℕ) → OneIs (counted (configuration_reply_of frame))

abbrev pub ConfigurationReplyRecordOnce : Type 0
ConfigurationReplyRecordOnce = (frame : List ℕ) (k : ℕ) → OneSays (record_is configuration_record_is) (kth k (configuration_reply_of frame))

-- src/configure_reply.rt
abbrev pub CheckConfigureReplyOnce : Type 0
CheckConfigureReplyOnce = (frame : List ℕ) → OneIs (counted (configure_reply_of frame))

abbrev pub ConfigureReplyRecordOnce : Type 0
ConfigureReplyRecordOnce = (frame : List ℕ) (k : ℕ) → OneSays (record_is configure_record_is) (kth k (configure_reply_of frame))

-- src/default_reply.rt
abbrev pub ReadDefaultResponseOnce : Type 0
ReadDefaultResponseOnce = (frame : List ℕ) → OneSays (mapped response_is) (default_response_of frame)

-- src/discover_reply.rt
abbrev pub CheckDiscoverReplyOnce : Type 0
CheckDiscoverReplyOnce = (frame : List ℕ) → OneSays (mapped discovery_is) (sized (discover_reply_of frame))

abbrev pub DiscoverReplyRecordOnce : Type 0
DiscoverReplyRecordOnce = (frame : List ℕ) (k : ℕ) → OneSays (record_is discover_record_is) (kth k (attributes_in (discover_reply_of frame)))

-- src/read_reply.rt
abbrev pub CheckReadReplyOnce : Type 0
CheckReadReplyOnce = (frame : List ℕ) → OneIs (counted (read_reply_of frame))

abbrev pub ReadReplyRecordOnce : Type 0
ReadReplyRecordOnce = (frame : List ℕ) (k : ℕ) → OneSays (record_is (read_record_is frame)) (kth k (read_reply_held frame))

-- src/report_frame.rt
abbrev pub CheckReportFrameOnce : Type 0
CheckReportFrameOnce = (frame : List ℕ) → OneIs (counted (report_frame_of frame))

abbrev pub ReportFrameRecordOnce : Type 0
ReportFrameRecordOnce = (frame : List ℕ) (k : ℕ) → OneSays (record_is (report_record_is frame)) (kth k (report_frame_held frame))

-- src/write_reply.rt
abbrev pub CheckWriteReplyOnce : Type 0
CheckWriteReplyOnce = (frame : List ℕ) → OneIs (counted (write_reply_of frame))

abbrev pub WriteReplyRecordOnce : Type 0
WriteReplyRecordOnce = (frame : List ℕ) (k : ℕ) → OneSays (record_is write_record_is) (kth k (write_reply_of frame))
