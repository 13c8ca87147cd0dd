-- Frames that a reader can check by hand, as one list under one claim: antt computes both sides. Assumes nothing.
use mathlib.Core.Path.{◌≡◌, refl}
use mathlib.Core.Bool.{false}
use mathlib.Core.List.{List, [], ◌∷◌}
use Prim.Native.Nat.{ℕ}
use Rattle.types.specs.Number.{le, unsigned_at, signed_at, signed_of, bytes_of}
use Rattle.types.specs.Ids.{size_of, is_analog, is_signed, is_float}
use Rattle.types.specs.Value.{change_at}
use Rattle.frame.specs.declared.header.ZclHeader.{ZclHeader}
use Rattle.frame.specs.declared.answer.Refusal.TheVariants.{RecordCut}
use Rattle.frame.specs.Header.{reply_head}
use Rattle.frame.specs.Reply.{padded}
use Rattle.frame.specs.Answer.{Outcome, replied, refused}
use Rattle.frame.specs.Walk.{records_in, records_from, walk, taken}
use Rattle.frame.specs.Encoded.{encode_all, fits}
use Rattle.frame.specs.Failures.{done_with, pass_from, encode_failures, answered, concluded, performed, headed}
use Rattle.store.specs.Contents.{attribute_at, attributes_from, attributes_of, find_in, find_of}
use Rattle.reporting.specs.declared.entry.Key.{Key}
use Rattle.reporting.specs.declared.entry.ReportingConfig.{ReportingConfig}
use Rattle.reporting.specs.declared.entry.Entry.{Entry}
use Rattle.reporting.specs.Entries.{fresh}
use Rattle.reporting.specs.Claims.Events.{Event, configured, cleared}
use Rattle.reporting.specs.Table.{capacity}
use Rattle.configure.specs.Request.{change_width, configure_at}
use Rattle.configure.specs.Configure.{setting, tried, configure_entries}
use Rattle.configure.specs.Claims.History.{record_events, all_events, records_done, configure_events}

-- document 01's store T: attribute 0 may be reported, 1 not, 5 is an Int16 that may
abbrev T : List ℕ
T =
    0x21 ∷ 0xfc ∷ 0x04 ∷ 0x00 ∷ 0x00 ∷ 0x00 ∷ 0x23 ∷ 0x02 ∷ 0x24 ∷ 0x00 ∷ 0x04 ∷ 0x00 ∷ 0x01 ∷ 0x00 ∷ 0x20 ∷ 0x01 ∷ 0x28 ∷ 0x00 ∷ 0x01 ∷ 0x00 ∷ 0x05 ∷ 0x00 ∷ 0x29 ∷ 0x03
    ∷ 0x29 ∷ 0x00 ∷ 0x02 ∷ 0x00 ∷ 0x07 ∷ 0x00 ∷ 0x42 ∷ 0x01 ∷ 0x2b ∷ 0x00 ∷ 0x05 ∷ 0x00 ∷ 0x00 ∷ 0x00 ∷ 0x00 ∷ 0x80 ∷ 0x07 ∷ 0x38 ∷ 0xff ∷ 0x02 ∷ 0x54 ∷ 0x56 ∷ 0x00 ∷ 0x00 ∷ []

abbrev request : ZclHeader
request = record { frame_control = record { 0 = 0 }; manufacturer_code = record { 0 = 0 }; sequence_number = 0x2d; command_identifier = record { 0 = 0x06 }; body = 3 }

abbrev five : Key
five = record { cluster = record { 0 = 0xfc21 }; attribute = record { 0 = 5 } }

-- an Int16's: it compares with a sign
abbrev set_to : ℕ → ℕ → ℕ → ReportingConfig
set_to min max change = record { min_interval = min; max_interval = max; reportable_change = change; unsigned = false }

-- a body, what comes of it in an empty table, the buffer having 16 bytes, and the events
record Case : Type 0 where
  body : List ℕ
  comes : Outcome (List Entry)
  events : List Event

abbrev reply : List ℕ → List ℕ → List Entry → List Event → Case
reply body out l es = record { body = body; comes = replied 16 (0x18 ∷ 0x2d ∷ 0x07 ∷ out) l; events = es }

abbrev All : List Case → Type 0
All [] = Unit {0}
All (c ∷ cs) = ((configure_entries 8 capacity T [] request c.body 16 ≡ c.comes) × (configure_events 8 capacity T [] request c.body 16 ≡ c.events)) × All cs

abbrev cases : List Case
cases =
    -- maximum 0 with minimum 1 is set; the change -2 of an Int16 loses its sign
    reply (0x00 ∷ 0x05 ∷ 0x00 ∷ 0x29 ∷ 0x01 ∷ 0x00 ∷ 0x00 ∷ 0x00 ∷ 0xfe ∷ 0xff ∷ []) (0x00 ∷ [])
    (fresh five (set_to 1 0 2) ∷ []) (configured five (set_to 1 0 2) ∷ [])
    -- maximum 0 with minimum ffff clears, here what the record before it set
    ∷ reply (0x00 ∷ 0x05 ∷ 0x00 ∷ 0x29 ∷ 0x01 ∷ 0x00 ∷ 0x00 ∷ 0x00 ∷ 0xfe ∷ 0xff ∷ 0x00 ∷ 0x05 ∷ 0x00 ∷ 0x29 ∷ 0xff ∷ 0xff ∷ 0x00 ∷ 0x00 ∷ 0x00 ∷ 0x00 ∷ []) (0x00 ∷ [])
    [] (configured five (set_to 1 0 2) ∷ cleared five ∷ [])
    -- a maximum below the minimum: 87
    ∷ reply (0x00 ∷ 0x05 ∷ 0x00 ∷ 0x29 ∷ 0x0a ∷ 0x00 ∷ 0x09 ∷ 0x00 ∷ 0x00 ∷ 0x00 ∷ []) (0x87 ∷ 0x00 ∷ 0x05 ∷ 0x00 ∷ []) [] []
    -- direction 1 and its timeout, 8c; then attribute 1 as another type, 8c all the same, as it may not be reported
    ∷ reply (0x01 ∷ 0x05 ∷ 0x00 ∷ 0x1e ∷ 0x00 ∷ 0x00 ∷ 0x01 ∷ 0x00 ∷ 0x10 ∷ 0x0a ∷ 0x00 ∷ 0x3c ∷ 0x00 ∷ []) (0x8c ∷ 0x01 ∷ 0x05 ∷ 0x00 ∷ 0x8c ∷ 0x00 ∷ 0x01 ∷ 0x00 ∷ []) [] []
    -- attribute 9 is not there, its type unknown and without a change: 86; attribute 5 as a Uint16: 8d
    ∷ reply (0x00 ∷ 0x09 ∷ 0x00 ∷ 0xfe ∷ 0x0a ∷ 0x00 ∷ 0x3c ∷ 0x00 ∷ 0x00 ∷ 0x05 ∷ 0x00 ∷ 0x21 ∷ 0x0a ∷ 0x00 ∷ 0x3c ∷ 0x00 ∷ 0x32 ∷ 0x00 ∷ []) (0x86 ∷ 0x00 ∷ 0x09 ∷ 0x00 ∷ 0x8d ∷ 0x00 ∷ 0x05 ∷ 0x00 ∷ []) [] []
    -- the second record is cut: 4, and the first stays done
    ∷ record {
      body = 0x00 ∷ 0x05 ∷ 0x00 ∷ 0x29 ∷ 0x0a ∷ 0x00 ∷ 0x3c ∷ 0x00 ∷ 0x32 ∷ 0x00 ∷ 0x01 ∷ 0x05 ∷ 0x00 ∷ 0x1e ∷ [];
      comes = refused 16 RecordCut (fresh five (set_to 10 60 50) ∷ []);
      events = configured five (set_to 10 60 50) ∷ [];
    }
    ∷ []

worked : All cases
unfolding configure_entries configure_events records_done all_events record_events taken headed performed pass_from done_with walk concluded answered encode_failures encode_all fits reply_head padded records_from records_in configure_at change_width change_at unsigned_at le signed_at signed_of bytes_of size_of is_analog is_signed is_float tried setting find_of find_in attributes_of attributes_from attribute_at
worked = ((refl, refl), ((refl, refl), ((refl, refl), ((refl, refl), ((refl, refl), ((refl, refl), tt))))))
