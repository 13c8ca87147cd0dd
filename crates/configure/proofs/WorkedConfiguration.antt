-- Frames that a reader can check by hand: each equation holds by computing. Assumes nothing.
use mathlib.Core.Path.{◌≡◌, refl}
use mathlib.Core.Bool.{false}
use mathlib.Core.List.{List, [], ◌∷◌, ◌++◌}
use Prim.Native.Nat.{ℕ}
use lib.ListN.{take}
use Rattle.types.specs.Number.{zeros, bytes_of, le, unsigned_at}
use Rattle.types.specs.Ids.{size_of, is_analog}
use Rattle.frame.specs.declared.header.ZclHeader.{ZclHeader}
use Rattle.frame.specs.Header.{reply_head}
use Rattle.frame.specs.Reply.{padded}
use Rattle.frame.specs.Answer.{Outcome}
use Rattle.frame.specs.Walk.{records_in, records_from, walk}
use Rattle.frame.specs.Encoded.{encode_all, fits}
use Rattle.frame.specs.Shortened.{with_record_for, shortened_from, shortened_reply, shortened}
use Rattle.store.specs.Contents.{attribute_at, attributes_from, attributes_of, find_in, find_of}
use Rattle.reporting.specs.Entries.{fresh}
use Rattle.reporting.specs.Table.{holding}
use Rattle.configure.specs.Request.{change_width, asked_at}
use Rattle.configure.specs.Configuration.{encode, record_by, record_for, configuration_of}

-- document 01's store T, its contents alone: attributes 0 and 5 can be reported, 1 and 7 cannot; 5 is an Int16
abbrev contents : List ℕ
contents =
    0x21 ∷ 0xfc ∷ 0x04 ∷ 0x00
    ∷ 0x00 ∷ 0x00 ∷ 0x23 ∷ 0x02 ∷ 0x24 ∷ 0x00 ∷ 0x04 ∷ 0x00
    ∷ 0x01 ∷ 0x00 ∷ 0x20 ∷ 0x01 ∷ 0x28 ∷ 0x00 ∷ 0x01 ∷ 0x00
    ∷ 0x05 ∷ 0x00 ∷ 0x29 ∷ 0x03 ∷ 0x29 ∷ 0x00 ∷ 0x02 ∷ 0x00
    ∷ 0x07 ∷ 0x00 ∷ 0x42 ∷ 0x01 ∷ 0x2b ∷ 0x00 ∷ 0x05 ∷ 0x00
    ∷ []

abbrev header : ZclHeader
header =
    record {
      frame_control = record { 0 = 0x00 };
      manufacturer_code = record { 0 = 0 };
      sequence_number = 0x2e;
      command_identifier = record { 0 = 0x08 };
      body = 3;
    }

-- the configuration of attribute 5 by bench frame 11, but for a change of three bytes; asked for 5, 0, 1, 5 of the other direction, and 9
abbrev answer : ℕ → Outcome (Unit {0})
answer room =
    configuration_of 8 contents
    (holding (fresh (record { cluster = record { 0 = 0xfc21 }; attribute = record { 0 = 5 } }) (record { min_interval = 0x0a; max_interval = 0x3c; reportable_change = 0x010032; unsigned = false }) ∷ []))
    header
    (0x00 ∷ 0x05 ∷ 0x00 ∷ 0x00 ∷ 0x00 ∷ 0x00 ∷ 0x00 ∷ 0x01 ∷ 0x00 ∷ 0x01 ∷ 0x05 ∷ 0x00 ∷ 0x01 ∷ 0x09 ∷ 0x00 ∷ [])
    room

-- with room for all: the change is cut to two bytes; then 8b, 8c, 8c and 86
abbrev whole : List ℕ
whole =
    0x18 ∷ 0x2e ∷ 0x09
    ∷ 0x00 ∷ 0x00 ∷ 0x05 ∷ 0x00 ∷ 0x29 ∷ 0x0a ∷ 0x00 ∷ 0x3c ∷ 0x00 ∷ 0x32 ∷ 0x00
    ∷ 0x8b ∷ 0x00 ∷ 0x00 ∷ 0x00
    ∷ 0x8c ∷ 0x00 ∷ 0x01 ∷ 0x00
    ∷ 0x8c ∷ 0x01 ∷ 0x05 ∷ 0x00
    ∷ 0x86 ∷ 0x01 ∷ 0x09 ∷ 0x00
    ∷ []

-- the room is 30 bytes, just enough; or 29, too little for the last record; or 13, too little for the first, and the rest is not read
worked : ((answer 30).reply ≡ whole) × (((answer 29).reply ≡ take 26 whole ++ zeros 3) × ((answer 13).size ≡ 3))
unfolding configuration_of shortened shortened_from shortened_reply with_record_for walk records_from records_in encode_all fits asked_at record_for record_by encode change_width is_analog size_of bytes_of unsigned_at le padded reply_head attribute_at attributes_from attributes_of find_in find_of
worked = (refl, (refl, refl))
