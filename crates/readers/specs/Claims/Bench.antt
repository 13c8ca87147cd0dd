-- Claims. BENCH REPLIES, READ: the replies of document 01's bench frames 1, 2, 3, 5, 6, 7, 9, 10 and 11, and the points that it leaves open, as one
-- list under one claim.
use Rattle.frame.specs.declared.answer.Refusal.{Refusal}
use Rattle.std.specs.Prelude.{false, ◌≡◌, List, [], ◌∷◌, ℕ, pos, negsuc, None, Option, Some, Err, Ok, Result, ℤ}
use Rattle.frame.specs.declared.answer.Refusal.TheVariants.{HeaderShort, RecordCut, NotSuchAReply}
use Rattle.reporting.specs.declared.entry.ReportingConfig.{ReportingConfig}
use Rattle.read.specs.Read.{ReadRecord, value, failure}
use Rattle.write.specs.Reply as Write
use Rattle.configure.specs.Configure as Configure
use Rattle.configure.specs.Configuration as Configuration
use Rattle.discover.specs.Discover.{Discovered}
use Rattle.report.specs.Report.{ReportRecord, report_record}
use Rattle.readers.specs.declared.value.ValueIn.{ValueIn}
use Rattle.readers.specs.Replies.{Discovery, discovery, Response, read_reply_of, write_reply_of, configure_reply_of, configuration_reply_of}
use Rattle.readers.specs.Replies.{report_frame_of, discover_reply_of, default_response_of}
use Rattle.readers.specs.Values.{Held, held, read_reply_held, report_frame_held}

-- ---- what a row may claim: a frame, and what its reader says

pub data Claim : Type 0 where
  read_reply : List ℕ → Result (List ReadRecord) Refusal → Claim
  read_values : List ℕ → Result (List (Held ReadRecord)) Refusal → Claim  -- with the values' places and numbers
  write_reply : List ℕ → Result (List Write.Failure) Refusal → Claim
  configure_reply : List ℕ → Result (List Configure.Failure) Refusal → Claim
  configuration_reply : List ℕ → Result (List Configuration.SettingRecord) Refusal → Claim
  report_frame : List ℕ → Result (List ReportRecord) Refusal → Claim
  report_values : List ℕ → Result (List (Held ReportRecord)) Refusal → Claim
  discover_reply : List ℕ → Result Discovery Refusal → Claim
  default_response : List ℕ → Result Response Refusal → Claim

abbrev pub Holds : Claim → Type 0
Holds (read_reply frame said) = read_reply_of frame ≡ said
Holds (read_values frame said) = read_reply_held frame ≡ said
Holds (write_reply frame said) = write_reply_of frame ≡ said
Holds (configure_reply frame said) = configure_reply_of frame ≡ said
Holds (configuration_reply frame said) = configuration_reply_of frame ≡ said
Holds (report_frame frame said) = report_frame_of frame ≡ said
Holds (report_values frame said) = report_frame_held frame ≡ said
Holds (discover_reply frame said) = discover_reply_of frame ≡ said
Holds (default_response frame said) = default_response_of frame ≡ said

abbrev pub AllHold : List Claim → Type 0
AllHold [] = Unit
AllHold (c ∷ more) = Holds c × AllHold more

-- ---- the refusals 2, 4 and 10, and records in short

abbrev pub short : {A : Type 0} → Result A Refusal
short = Err HeaderShort

abbrev pub cut : {A : Type 0} → Result A Refusal
cut = Err RecordCut

abbrev pub other : {A : Type 0} → Result A Refusal
other = Err NotSuchAReply

abbrev pub value_at : ℕ → ℕ → ℕ → Option ℤ → ValueIn
value_at t start len number = record { type_id = record { 0 = t }; start = start; len = len; number = number }

abbrev pub config : ℕ → ℕ → ℕ → ReportingConfig
config least most change = record { min_interval = least; max_interval = most; reportable_change = change; unsigned = false }

abbrev pub discovered : ℕ → ℕ → Discovered
discovered id t = record { id = id; type = t }

abbrev pub response : ℕ → ℕ → Response
response command status = record { command = command; status = status }

-- ---- the list

abbrev pub replies : List Claim
replies =
    -- read: bench frames 1, 2 and 3
    read_reply (0x18 ∷ 0x2a ∷ 0x01 ∷ 0x00 ∷ 0x00 ∷ 0x00 ∷ 0x23 ∷ 0x00 ∷ 0x00 ∷ 0x00 ∷ 0x80 ∷ 0x09 ∷ 0x00 ∷ 0x86 ∷ [])
    (Ok (value 0 0x23 (0x00 ∷ 0x00 ∷ 0x00 ∷ 0x80 ∷ []) ∷ failure 9 0x86 ∷ []))
    ∷ read_reply (0x18 ∷ 0x2a ∷ 0x01 ∷ 0x00 ∷ 0x00 ∷ 0x00 ∷ 0x23 ∷ 0x00 ∷ 0x00 ∷ 0x00 ∷ 0x80 ∷ []) (Ok (value 0 0x23 (0x00 ∷ 0x00 ∷ 0x00 ∷ 0x80 ∷ []) ∷ []))
    ∷ read_reply (0x18 ∷ 0x2a ∷ 0x01 ∷ 0x00 ∷ 0x00 ∷ 0x89 ∷ 0x09 ∷ 0x00 ∷ 0x86 ∷ []) (Ok (failure 0 0x89 ∷ failure 9 0x86 ∷ []))
    -- the counter's number has no sign; a failure has no value
    ∷ read_values (0x18 ∷ 0x2a ∷ 0x01 ∷ 0x00 ∷ 0x00 ∷ 0x00 ∷ 0x23 ∷ 0x00 ∷ 0x00 ∷ 0x00 ∷ 0x80 ∷ 0x09 ∷ 0x00 ∷ 0x86 ∷ [])
    (Ok (held (value 0 0x23 (0x00 ∷ 0x00 ∷ 0x00 ∷ 0x80 ∷ [])) (Some (value_at 0x23 7 4 (Some (pos 2147483648)))) ∷ held (failure 9 0x86) None ∷ []))
    -- no records; a cut record, and one behind a whole one; an unknown type; an unknown status
    ∷ read_reply (0x18 ∷ 0x00 ∷ 0x01 ∷ []) (Ok [])
    ∷ read_reply (0x18 ∷ 0x00 ∷ 0x01 ∷ 0x00 ∷ 0x00 ∷ []) cut
    ∷ read_reply (0x18 ∷ 0x00 ∷ 0x01 ∷ 0x00 ∷ 0x00 ∷ 0x00 ∷ []) cut
    ∷ read_reply (0x18 ∷ 0x00 ∷ 0x01 ∷ 0x00 ∷ 0x00 ∷ 0x00 ∷ 0x23 ∷ 0x00 ∷ 0x00 ∷ 0x00 ∷ []) cut
    ∷ read_reply (0x18 ∷ 0x2a ∷ 0x01 ∷ 0x00 ∷ 0x00 ∷ 0x00 ∷ 0x23 ∷ 0x00 ∷ 0x00 ∷ 0x00 ∷ 0x80 ∷ 0x09 ∷ 0x00 ∷ []) cut
    ∷ read_values (0x18 ∷ 0x2a ∷ 0x01 ∷ 0x00 ∷ 0x00 ∷ 0x00 ∷ 0x23 ∷ 0x00 ∷ 0x00 ∷ 0x00 ∷ 0x80 ∷ 0x09 ∷ 0x00 ∷ []) cut
    ∷ read_reply (0x18 ∷ 0x00 ∷ 0x01 ∷ 0x00 ∷ 0x00 ∷ 0x00 ∷ 0xff ∷ 0x00 ∷ []) cut
    ∷ read_reply (0x18 ∷ 0x00 ∷ 0x01 ∷ 0x00 ∷ 0x00 ∷ 0x42 ∷ []) (Ok (failure 0 0x42 ∷ []))
    -- short headers; a manufacturer code is passed over; another frame type, another command
    ∷ read_reply [] short
    ∷ read_reply (0x18 ∷ []) short
    ∷ read_reply (0x18 ∷ 0x00 ∷ []) short
    ∷ read_reply (0x1c ∷ 0x34 ∷ 0x12 ∷ 0x00 ∷ []) short
    ∷ read_reply (0x1c ∷ 0x34 ∷ 0x12 ∷ 0x00 ∷ 0x01 ∷ []) (Ok [])
    ∷ read_reply (0x1c ∷ 0x34 ∷ 0x12 ∷ 0x00 ∷ 0x01 ∷ 0x09 ∷ 0x00 ∷ 0x86 ∷ []) (Ok (failure 9 0x86 ∷ []))
    ∷ read_reply (0x19 ∷ 0x00 ∷ 0x01 ∷ []) other
    ∷ read_reply (0x1a ∷ 0x00 ∷ 0x01 ∷ []) other
    ∷ read_reply (0x18 ∷ 0x00 ∷ 0x00 ∷ []) other
    -- write: bench frames 5, 6 and 7; two failures; an unknown status
    ∷ write_reply (0x18 ∷ 0x2b ∷ 0x04 ∷ 0x00 ∷ []) (Ok [])
    ∷ write_reply (0x18 ∷ 0x2b ∷ 0x04 ∷ 0x88 ∷ 0x00 ∷ 0x00 ∷ []) (Ok (Write.failure 0x88 0 ∷ []))
    ∷ write_reply (0x18 ∷ 0x2b ∷ 0x04 ∷ 0x87 ∷ 0x07 ∷ 0x00 ∷ []) (Ok (Write.failure 0x87 7 ∷ []))
    ∷ write_reply (0x18 ∷ 0x2b ∷ 0x04 ∷ 0x86 ∷ 0x09 ∷ 0x00 ∷ 0x88 ∷ 0x00 ∷ 0x00 ∷ []) (Ok (Write.failure 0x86 9 ∷ Write.failure 0x88 0 ∷ []))
    ∷ write_reply (0x18 ∷ 0x00 ∷ 0x04 ∷ 0x01 ∷ 0x00 ∷ 0xff ∷ []) (Ok (Write.failure 0x01 0xff00 ∷ []))
    -- 00 in a longer list, met before a cut; an empty reply; a cut failure
    ∷ write_reply (0x18 ∷ 0x00 ∷ 0x04 ∷ 0x00 ∷ 0x00 ∷ []) other
    ∷ write_reply (0x18 ∷ 0x00 ∷ 0x04 ∷ 0x86 ∷ 0x00 ∷ 0x00 ∷ 0x00 ∷ []) other
    ∷ write_reply (0x18 ∷ 0x00 ∷ 0x04 ∷ 0x00 ∷ 0x86 ∷ 0x09 ∷ 0x00 ∷ []) other
    ∷ write_reply (0x18 ∷ 0x00 ∷ 0x04 ∷ 0x00 ∷ 0x09 ∷ 0x00 ∷ []) other
    ∷ write_reply (0x18 ∷ 0x00 ∷ 0x04 ∷ []) cut
    ∷ write_reply (0x18 ∷ 0x00 ∷ 0x04 ∷ 0x86 ∷ []) cut
    ∷ write_reply (0x18 ∷ 0x00 ∷ 0x04 ∷ 0x86 ∷ 0x09 ∷ []) cut
    ∷ write_reply (0x18 ∷ 0x00 ∷ 0x04 ∷ 0x86 ∷ 0x09 ∷ 0x00 ∷ 0x88 ∷ []) cut
    ∷ write_reply (0x18 ∷ 0x00 ∷ []) short
    ∷ write_reply (0x1c ∷ 0x34 ∷ 0x12 ∷ 0x00 ∷ 0x04 ∷ 0x00 ∷ []) (Ok [])
    ∷ write_reply (0x19 ∷ 0x00 ∷ 0x04 ∷ 0x00 ∷ []) other
    ∷ write_reply (0x18 ∷ 0x00 ∷ 0x07 ∷ 0x00 ∷ []) other
    -- configure: bench frame 11; failures
    ∷ configure_reply (0x18 ∷ 0x2d ∷ 0x07 ∷ 0x00 ∷ []) (Ok [])
    ∷ configure_reply (0x18 ∷ 0x00 ∷ 0x07 ∷ 0x8c ∷ 0x01 ∷ 0x05 ∷ 0x00 ∷ 0x86 ∷ 0x00 ∷ 0x09 ∷ 0x00 ∷ [])
    (Ok (Configure.failure 0x8c 1 5 ∷ Configure.failure 0x86 0 9 ∷ []))
    ∷ configure_reply (0x18 ∷ 0x00 ∷ 0x07 ∷ 0x00 ∷ 0x00 ∷ []) other
    ∷ configure_reply (0x18 ∷ 0x00 ∷ 0x07 ∷ 0x86 ∷ 0x00 ∷ 0x09 ∷ 0x00 ∷ 0x00 ∷ []) other
    ∷ configure_reply (0x18 ∷ 0x00 ∷ 0x07 ∷ []) cut
    ∷ configure_reply (0x18 ∷ 0x00 ∷ 0x07 ∷ 0x86 ∷ 0x00 ∷ 0x09 ∷ []) cut
    ∷ configure_reply (0x18 ∷ []) short
    ∷ configure_reply (0x1c ∷ 0x34 ∷ 0x12 ∷ 0x00 ∷ 0x07 ∷ 0x00 ∷ []) (Ok [])
    ∷ configure_reply (0x19 ∷ 0x00 ∷ 0x07 ∷ 0x00 ∷ []) other
    ∷ configure_reply (0x18 ∷ 0x00 ∷ 0x04 ∷ 0x00 ∷ []) other
    -- read configuration: what frame 11 configured; direction 1; an unknown type has no change field; a change as it is sent, without a sign
    ∷ configuration_reply (0x18 ∷ 0x2d ∷ 0x09 ∷ 0x00 ∷ 0x00 ∷ 0x05 ∷ 0x00 ∷ 0x29 ∷ 0x0a ∷ 0x00 ∷ 0x3c ∷ 0x00 ∷ 0x32 ∷ 0x00 ∷ [])
    (Ok (Configuration.setting 0 5 0x29 (config 10 60 50) ∷ []))
    ∷ configuration_reply (0x18 ∷ 0x00 ∷ 0x09 ∷ 0x00 ∷ 0x01 ∷ 0x05 ∷ 0x00 ∷ 0x29 ∷ 0x0a ∷ 0x00 ∷ 0x3c ∷ 0x00 ∷ 0x32 ∷ 0x00 ∷ [])
    (Ok (Configuration.setting 1 5 0x29 (config 10 60 50) ∷ []))
    ∷ configuration_reply (0x18 ∷ 0x00 ∷ 0x09 ∷ 0x00 ∷ 0x00 ∷ 0x05 ∷ 0x00 ∷ 0xff ∷ 0x0a ∷ 0x00 ∷ 0x3c ∷ 0x00 ∷ [])
    (Ok (Configuration.setting 0 5 0xff (config 10 60 0) ∷ []))
    ∷ configuration_reply (0x18 ∷ 0x00 ∷ 0x09 ∷ 0x00 ∷ 0x00 ∷ 0x01 ∷ 0x00 ∷ 0x28 ∷ 0x0a ∷ 0x00 ∷ 0x3c ∷ 0x00 ∷ 0xc8 ∷ [])
    (Ok (Configuration.setting 0 1 0x28 (config 10 60 200) ∷ []))
    ∷ configuration_reply (0x18 ∷ 0x00 ∷ 0x09 ∷ 0x8b ∷ 0x00 ∷ 0x05 ∷ 0x00 ∷ 0x86 ∷ 0x01 ∷ 0x09 ∷ 0x00 ∷ [])
    (Ok (Configuration.failure 0x8b 0 5 ∷ Configuration.failure 0x86 1 9 ∷ []))
    ∷ configuration_reply (0x18 ∷ 0x00 ∷ 0x09 ∷ []) (Ok [])
    ∷ configuration_reply (0x18 ∷ 0x00 ∷ 0x09 ∷ 0x86 ∷ 0x01 ∷ 0x09 ∷ []) cut
    ∷ configuration_reply (0x18 ∷ 0x00 ∷ 0x09 ∷ 0x00 ∷ 0x00 ∷ 0x05 ∷ 0x00 ∷ []) cut
    ∷ configuration_reply (0x18 ∷ 0x00 ∷ 0x09 ∷ 0x00 ∷ 0x00 ∷ 0x05 ∷ 0x00 ∷ 0x29 ∷ 0x0a ∷ 0x00 ∷ 0x3c ∷ 0x00 ∷ 0x32 ∷ []) cut
    ∷ configuration_reply (0x1c ∷ 0x34 ∷ 0x12 ∷ 0x00 ∷ []) short
    ∷ configuration_reply (0x1c ∷ 0x34 ∷ 0x12 ∷ 0x00 ∷ 0x09 ∷ []) (Ok [])
    ∷ configuration_reply (0x19 ∷ 0x00 ∷ 0x09 ∷ []) other
    ∷ configuration_reply (0x18 ∷ 0x00 ∷ 0x08 ∷ []) other
    -- a report: its records, their numbers
    ∷ report_frame (0x18 ∷ 0x00 ∷ 0x0a ∷ 0x05 ∷ 0x00 ∷ 0x29 ∷ 0x38 ∷ 0xff ∷ 0x00 ∷ 0x00 ∷ 0x23 ∷ 0x00 ∷ 0x00 ∷ 0x00 ∷ 0x80 ∷ [])
    (Ok (report_record 5 0x29 (0x38 ∷ 0xff ∷ []) ∷ report_record 0 0x23 (0x00 ∷ 0x00 ∷ 0x00 ∷ 0x80 ∷ []) ∷ []))
    ∷ report_values (0x18 ∷ 0x00 ∷ 0x0a ∷ 0x05 ∷ 0x00 ∷ 0x29 ∷ 0x38 ∷ 0xff ∷ 0x00 ∷ 0x00 ∷ 0x23 ∷ 0x00 ∷ 0x00 ∷ 0x00 ∷ 0x80 ∷ [])
    (Ok (held (report_record 5 0x29 (0x38 ∷ 0xff ∷ [])) (Some (value_at 0x29 6 2 (Some (negsuc 199)))) ∷
    held (report_record 0 0x23 (0x00 ∷ 0x00 ∷ 0x00 ∷ 0x80 ∷ [])) (Some (value_at 0x23 11 4 (Some (pos 2147483648)))) ∷ []))
    ∷ report_values (0x18 ∷ 0x00 ∷ 0x0a ∷ 0x07 ∷ 0x00 ∷ 0x42 ∷ 0x02 ∷ 0x54 ∷ 0x56 ∷ [])
    (Ok (held (report_record 7 0x42 (0x02 ∷ 0x54 ∷ 0x56 ∷ [])) (Some (value_at 0x42 6 3 None)) ∷ []))
    ∷ report_frame (0x18 ∷ 0x00 ∷ 0x0a ∷ []) (Ok [])
    ∷ report_frame (0x18 ∷ 0x00 ∷ 0x0a ∷ 0x05 ∷ 0x00 ∷ []) cut
    ∷ report_frame (0x18 ∷ 0x00 ∷ 0x0a ∷ 0x05 ∷ 0x00 ∷ 0x29 ∷ 0x38 ∷ []) cut
    ∷ report_frame (0x18 ∷ 0x00 ∷ 0x0a ∷ 0x05 ∷ 0x00 ∷ 0xff ∷ 0x38 ∷ []) cut
    ∷ report_frame [] short
    ∷ report_frame (0x1c ∷ 0x34 ∷ 0x12 ∷ 0x00 ∷ 0x0a ∷ []) (Ok [])
    ∷ report_frame (0x19 ∷ 0x00 ∷ 0x0a ∷ []) other
    ∷ report_frame (0x18 ∷ 0x00 ∷ 0x01 ∷ []) other
    -- discover: bench frames 9, with maximum 2 and 3, and 10
    ∷ discover_reply (0x18 ∷ 0x2c ∷ 0x0d ∷ 0x00 ∷ 0x01 ∷ 0x00 ∷ 0x20 ∷ 0x05 ∷ 0x00 ∷ 0x29 ∷ []) (Ok (discovery 0 (discovered 1 0x20 ∷ discovered 5 0x29 ∷ [])))
    ∷ discover_reply (0x18 ∷ 0x2c ∷ 0x0d ∷ 0x01 ∷ 0x01 ∷ 0x00 ∷ 0x20 ∷ 0x05 ∷ 0x00 ∷ 0x29 ∷ 0x07 ∷ 0x00 ∷ 0x42 ∷ [])
    (Ok (discovery 1 (discovered 1 0x20 ∷ discovered 5 0x29 ∷ discovered 7 0x42 ∷ [])))
    ∷ discover_reply (0x18 ∷ 0x2c ∷ 0x0d ∷ 0x01 ∷ []) (Ok (discovery 1 []))
    -- a complete byte above 1, met before a cut; no complete byte; a cut record
    ∷ discover_reply (0x18 ∷ 0x00 ∷ 0x0d ∷ 0x02 ∷ 0x01 ∷ []) other
    ∷ discover_reply (0x18 ∷ 0x00 ∷ 0x0d ∷ 0x02 ∷ []) other
    ∷ discover_reply (0x18 ∷ 0x00 ∷ 0x0d ∷ []) cut
    ∷ discover_reply (0x18 ∷ 0x00 ∷ 0x0d ∷ 0x01 ∷ 0x01 ∷ 0x00 ∷ []) cut
    ∷ discover_reply (0x18 ∷ 0x00 ∷ []) short
    ∷ discover_reply (0x1c ∷ 0x34 ∷ 0x12 ∷ 0x00 ∷ 0x0d ∷ 0x01 ∷ []) (Ok (discovery 1 []))
    ∷ discover_reply (0x19 ∷ 0x00 ∷ 0x0d ∷ 0x01 ∷ []) other
    ∷ discover_reply (0x18 ∷ 0x00 ∷ 0x0c ∷ 0x01 ∷ []) other
    -- a Default Response; bytes behind its two are ignored
    ∷ default_response (0x18 ∷ 0x00 ∷ 0x0b ∷ 0x00 ∷ 0x81 ∷ []) (Ok (response 0x00 0x81))
    ∷ default_response (0x18 ∷ 0x00 ∷ 0x0b ∷ 0x00 ∷ 0x81 ∷ 0x00 ∷ 0xff ∷ []) (Ok (response 0x00 0x81))
    ∷ default_response (0x18 ∷ 0x00 ∷ 0x0b ∷ 0x00 ∷ []) cut
    ∷ default_response (0x18 ∷ 0x00 ∷ 0x0b ∷ []) cut
    ∷ default_response (0x18 ∷ []) short
    ∷ default_response (0x1c ∷ 0x34 ∷ 0x12 ∷ 0x00 ∷ 0x0b ∷ 0x00 ∷ 0x81 ∷ []) (Ok (response 0x00 0x81))
    ∷ default_response (0x19 ∷ 0x00 ∷ 0x0b ∷ 0x00 ∷ 0x81 ∷ []) other
    ∷ default_response (0x18 ∷ 0x00 ∷ 0x01 ∷ 0x00 ∷ 0x81 ∷ []) other
    ∷ []

-- THE CLAIM
abbrev pub BenchRepliesRead : Type 0
BenchRepliesRead = AllHold replies
