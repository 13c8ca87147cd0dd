-- Frames that a reader can check by hand: each equation holds by computing. Assumes nothing.
use Rattle.std.specs.Prelude.{None, Some}
use mathlib.Core.Path.{◌≡◌, refl}
use mathlib.Core.List.{[], ◌∷◌}
use Prim.Native.Nat.{ℕ}
use Rattle.types.specs.Number.{le, unsigned_at}
use Rattle.frame.specs.Header.{header_of, reply_head}
use Rattle.frame.specs.declared.command_identifier.CommandIdentifier.TheVariants.{ReadAttributesResponse}
use Rattle.frame.specs.declared.header.ZclHeader.{ZclHeader}

-- a header with the sequence number 2a and the command 00: its control byte, its manufacturer code and where its body starts
abbrev worked : ℕ → ℕ → ℕ → ZclHeader
worked control code start =
    record {
      frame_control = record { 0 = control };
      manufacturer_code = record { 0 = code };
      sequence_number = 0x2a;
      command_identifier = record { 0 = 0x00 };
      body = start;
    }

-- Read Attributes with the sequence number 2a
a_plain_header : header_of (0x00 ∷ 0x2a ∷ 0x00 ∷ []) ≡ Some (worked 0x00 0 3)
unfolding header_of
a_plain_header = refl

-- the same with the manufacturer code fc21, its low byte first
a_coded_header : header_of (0x1c ∷ 0x21 ∷ 0xfc ∷ 0x2a ∷ 0x00 ∷ []) ≡ Some (worked 0x1c 0xfc21 5)
unfolding header_of unsigned_at le
a_coded_header = refl

-- four bytes are too few where a manufacturer code follows
a_short_frame : header_of (0x04 ∷ 0x21 ∷ 0xfc ∷ 0x2a ∷ []) ≡ None
unfolding header_of
a_short_frame = refl

-- the reply to the second of them starts with 18 2a 01
a_reply_head : reply_head (worked 0x1c 0xfc21 5) ReadAttributesResponse ≡ 0x18 ∷ 0x2a ∷ 0x01 ∷ []
unfolding reply_head
a_reply_head = refl
