-- Definitions. The readers' functions towards C: those of crate `readers`. Each gives document 01's number and results: what the reader's answer
-- tells.
use Rattle.std.specs.Prelude.{ℕ, List}
use Rattle.readers.specs.Reading.{counted, kth}
use Rattle.readers.specs.Replies.{Response, write_reply_of, configure_reply_of, configuration_reply_of, report_frame_of, read_reply_of, discover_reply_of, default_response_of}
use Rattle.readers.specs.Values.{read_reply_held, report_frame_held}
use Rattle.readers.specs.Answers.{Sized, sized, attributes_in}
use Rattle.readers.specs.Told.{Told, count_told, ReadFields, read_record_told, ReportFields, report_record_told, WriteFields, write_record_told, ConfigureFields, configure_record_told, SettingFields, configuration_record_told, discovery_told, DiscoverFields, discover_record_told, default_response_told}

-- ---- the checks: how many records

abbrev pub read_checked : List ℕ → Told ℕ
read_checked f = count_told (counted (read_reply_of f))

abbrev pub write_checked : List ℕ → Told ℕ
write_checked f = count_told (counted (write_reply_of f))

abbrev pub configure_checked : List ℕ → Told ℕ
configure_checked f = count_told (counted (configure_reply_of f))

abbrev pub configuration_checked : List ℕ → Told ℕ
configuration_checked f = count_told (counted (configuration_reply_of f))

abbrev pub report_checked : List ℕ → Told ℕ
report_checked f = count_told (counted (report_frame_of f))

abbrev pub discover_checked : List ℕ → Told Sized
discover_checked f = discovery_told (sized (discover_reply_of f))

-- ---- record k

abbrev pub read_recorded : List ℕ → ℕ → Told ReadFields
read_recorded f k = read_record_told (kth k (read_reply_held f))

abbrev pub report_recorded : List ℕ → ℕ → Told ReportFields
report_recorded f k = report_record_told (kth k (report_frame_held f))

abbrev pub write_recorded : List ℕ → ℕ → Told WriteFields
write_recorded f k = write_record_told (kth k (write_reply_of f))

abbrev pub configure_recorded : List ℕ → ℕ → Told ConfigureFields
configure_recorded f k = configure_record_told (kth k (configure_reply_of f))

abbrev pub configuration_recorded : List ℕ → ℕ → Told SettingFields
configuration_recorded f k = configuration_record_told (kth k (configuration_reply_of f))

abbrev pub discover_recorded : List ℕ → ℕ → Told DiscoverFields
discover_recorded f k = discover_record_told (kth k (attributes_in (discover_reply_of f)))

-- ---- a Default Response

abbrev pub response_told : List ℕ → Told Response
response_told f = default_response_told (default_response_of f)
