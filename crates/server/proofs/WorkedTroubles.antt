-- Frames over store T (specs/Claims/Bench.antt) that meet what the claims of writes in specs/Claims/Troubles.antt suppose, computed, and what each claim then says of them. Assumes nothing.
use mathlib.Core.Path.{◌≡◌, refl, ap, ◌∙◌}
use mathlib.Core.Bool.{true}
use mathlib.Core.List.{List, [], ◌∷◌, ◌++◌}
use Prim.Native.Nat.{ℕ}
use native.Mathlib.Omega.{arith}
use Rattle.types.specs.Number.{all_zero, le, bytes_of, unsigned_at}
use Rattle.types.specs.Ids.{size_of, shape_of}
use Rattle.types.specs.Extent.{upto, times, count, text, series, member, structure, by_shape, value_at, series_at, structure_at}
use Rattle.frame.specs.declared.header.ZclHeader.{ZclHeader}
use Rattle.frame.specs.declared.command_identifier.CommandIdentifier.{CommandIdentifier}
use Rattle.frame.specs.declared.command_identifier.CommandIdentifier.TheVariants.{WriteAttributes, WriteAttributesUndivided}
use Rattle.frame.specs.declared.answer.Refusal.TheVariants.{RecordCut, ReplyTooLong}
use Rattle.frame.specs.Header.{frame_type_of, header_of, reply_head}
use Rattle.frame.specs.CommandIdentifier.{command_of}
use Rattle.frame.specs.Reply.{padded}
use Rattle.frame.specs.Answer.{Outcome, replied, refused}
use Rattle.frame.specs.Walk.{done, Records, records_in, records_from, walk}
use Rattle.frame.specs.Encoded.{encode_all, fits}
use Rattle.frame.specs.Failures.{done_with, pass_from, encode_failures, answered, concluded, performed, headed}
use Rattle.frame.specs.Claims.Troubles.{single}
use Rattle.store.specs.Contents.{attribute_at, attributes_from, attributes_of, find_in, find_of}
use Rattle.store.specs.Layout.{each, ascending, room_ok, is_text, length_ok, follow_on, end_from, unused_ok, is_store}
use Rattle.store.specs.Value.{fitted, stored}
use Rattle.store.specs.Write.{too_long, is_writable, check_of, write_of}
use Rattle.reporting.specs.Table.{capacity, holding}
use Rattle.write.specs.Request.{record_at, records_at, records}
use Rattle.write.specs.Reply.{encode}
use Rattle.write.specs.Write.{written, checked, write_attributes, written_all, write_undivided}
use Rattle.server.specs.Serve.{State, state, commanded, typed, by_header, tabled, serve}
use Rattle.server.specs.Claims.Asks.{Asks}
use Rattle.server.specs.Claims.Bench.{T, cluster, bench_answer}
use Rattle.server.specs.Claims.Troubles.{Unread}
use Rattle.server.proofs.Troubles.{write_cut_is_four, write_five_stays, write_five_done, write_five_at_header, write_cut_is_four_at_header}
use Rattle.server.proofs.Undivided.{undivided_cut_untouched, undivided_cut_is_four, undivided_five_stays, undivided_five_at_header, undivided_cut_is_four_at_header}

-- ---- records

-- attribute 1 becomes 9, or 10
abbrev nine : List ℕ
nine = 0x01 ∷ 0x00 ∷ 0x20 ∷ 0x09 ∷ []

abbrev ten : List ℕ
ten = 0x01 ∷ 0x00 ∷ 0x20 ∷ 0x0a ∷ []

-- attribute 0 is read only: 88
abbrev fixed : List ℕ
fixed = 0x00 ∷ 0x00 ∷ 0x23 ∷ 0x01 ∷ 0x00 ∷ 0x00 ∷ 0x00 ∷ []

-- attribute 7 has room for four characters: 87
abbrev wordy : List ℕ
wordy = 0x07 ∷ 0x00 ∷ 0x42 ∷ 0x05 ∷ 0x41 ∷ 0x42 ∷ 0x43 ∷ 0x44 ∷ 0x45 ∷ []

-- there is no attribute 9: 86
abbrev absent : List ℕ
absent = 0x09 ∷ 0x00 ∷ 0x20 ∷ 0x00 ∷ []

-- a value of type 20 that is not there
abbrev short : List ℕ
short = 0x01 ∷ 0x00 ∷ 0x20 ∷ []

-- ---- frames

abbrev pub frame_of : ℕ → List ℕ → List ℕ
frame_of command body = 0x00 ∷ 0x2b ∷ command ∷ body

abbrev pub header : ℕ → ZclHeader
header command =
    record {
      frame_control = record { 0 = 0x00 };
      manufacturer_code = record { 0 = 0 };
      sequence_number = 0x2b;
      command_identifier = record { 0 = command };
      body = 3;
    }

abbrev left : ℕ → State
left level = state (T level) (holding [])

-- the reply of one 00
abbrev success : List ℕ
success = 0x18 ∷ 0x2b ∷ 0x04 ∷ 0x00 ∷ []

-- what a frame whose records can all be read is answered in a room
pub record Frame {R : Type 0} (asked : CommandIdentifier) (reading : List ℕ → Records R) (command : ℕ) (body : List ℕ) (room : ℕ) (o : Outcome State) : Type 0 where
  pub asks : Asks asked (frame_of command body) (header command)
  pub readable : (reading body).ending ≡ done
  pub answer : bench_answer (frame_of command body) room ≡ o

pub record Computed : Type 0 where
  pub cut_off : Unread records short
  pub one : records fixed ≡ single (record { id = 0; type = 0x23; value = 0x01 ∷ 0x00 ∷ 0x00 ∷ 0x00 ∷ [] })
  -- Write Attributes: 9 with room for the header alone, with one byte more and with many; with a record that fails
  pub narrow : Frame WriteAttributes records 0x02 nine 3 (refused 3 ReplyTooLong (left 0x09))
  pub just : Frame WriteAttributes records 0x02 nine 4 (replied 4 success (left 0x09))
  pub wide : Frame WriteAttributes records 0x02 nine 64 (replied 64 success (left 0x09))
  pub full : Frame WriteAttributes records 0x02 (nine ++ fixed) 4 (refused 4 ReplyTooLong (left 0x09))
  pub listed : Frame WriteAttributes records 0x02 (nine ++ fixed) 64 (replied 64 (0x18 ∷ 0x2b ∷ 0x04 ∷ 0x88 ∷ 0x00 ∷ 0x00 ∷ []) (left 0x09))
  -- Undivided: 9; and with a failure that does not fit, or does
  pub together : Frame WriteAttributesUndivided records 0x03 nine 64 (replied 64 success (left 0x09))
  pub tied : Frame WriteAttributesUndivided records 0x03 (nine ++ wordy) 5 (refused 5 ReplyTooLong (left 0x07))
  pub undone : Frame WriteAttributesUndivided records 0x03 (nine ++ wordy) 6 (replied 6 (0x18 ∷ 0x2b ∷ 0x04 ∷ 0x87 ∷ 0x07 ∷ 0x00 ∷ []) (left 0x07))
  -- and with two, in their order
  pub two : Frame WriteAttributesUndivided records 0x03 (wordy ++ absent) 9 (replied 9 (0x18 ∷ 0x2b ∷ 0x04 ∷ 0x87 ∷ 0x07 ∷ 0x00 ∷ 0x86 ∷ 0x09 ∷ 0x00 ∷ []) (left 0x07))
  pub not_two : Frame WriteAttributesUndivided records 0x03 (wordy ++ absent) 8 (refused 8 ReplyTooLong (left 0x07))

computed : Computed
unfolding all_zero le bytes_of unsigned_at size_of shape_of upto times count text series member structure by_shape value_at series_at structure_at frame_type_of header_of reply_head command_of padded records_in records_from walk encode_all fits done_with pass_from encode_failures answered concluded performed headed attribute_at attributes_from attributes_of find_in find_of each ascending room_ok is_text length_ok follow_on end_from unused_ok is_store fitted stored too_long is_writable check_of write_of record_at records_at encode written checked write_attributes written_all write_undivided commanded typed by_header tabled serve
computed =
    record {
      cut_off = refl;
      one = refl;
      narrow = record { asks = record { header = refl; global = refl; command = refl }; readable = refl; answer = refl };
      just = record { asks = record { header = refl; global = refl; command = refl }; readable = refl; answer = refl };
      wide = record { asks = record { header = refl; global = refl; command = refl }; readable = refl; answer = refl };
      full = record { asks = record { header = refl; global = refl; command = refl }; readable = refl; answer = refl };
      listed = record { asks = record { header = refl; global = refl; command = refl }; readable = refl; answer = refl };
      together = record { asks = record { header = refl; global = refl; command = refl }; readable = refl; answer = refl };
      tied = record { asks = record { header = refl; global = refl; command = refl }; readable = refl; answer = refl };
      undone = record { asks = record { header = refl; global = refl; command = refl }; readable = refl; answer = refl };
      two = record { asks = record { header = refl; global = refl; command = refl }; readable = refl; answer = refl };
      not_two = record { asks = record { header = refl; global = refl; command = refl }; readable = refl; answer = refl };
    }

pub number : {o p : Outcome State} → o ≡ p → o.number ≡ p.number
number e = ap (λ (o : Outcome State). o.number) e

-- ---- what the claims say of them

-- 4, and attribute 1 is 9
four : bench_answer (frame_of 0x02 (nine ++ short)) 64 ≡ refused 64 RecordCut (left 0x09)
four =
    let f = computed.wide in
    write_cut_is_four 8 capacity (T 0x07) (holding []) cluster true (frame_of 0x02 nine) (header 0x02) f.asks f.readable short 64 computed.cut_off (number f.answer)
    ∙ ap (λ (o : Outcome State). refused 64 RecordCut o.state) f.answer

-- 5 stays, and attribute 1 does not become 10, nor is a record behind it that cannot be read met
five : bench_answer (frame_of 0x02 (nine ++ fixed ++ ten)) 4 ≡ refused 4 ReplyTooLong (left 0x09)
five =
    let f = computed.full in
    write_five_stays 8 capacity (T 0x07) (holding []) cluster true (frame_of 0x02 (nine ++ fixed)) (header 0x02) f.asks f.readable ten 4 (omega arith) (number f.answer) ∙ f.answer

five_still : bench_answer (frame_of 0x02 (nine ++ fixed ++ short)) 4 ≡ refused 4 ReplyTooLong (left 0x09)
five_still =
    let f = computed.full in
    write_five_stays 8 capacity (T 0x07) (holding []) cluster true (frame_of 0x02 (nine ++ fixed)) (header 0x02) f.asks f.readable short 4 (omega arith) (number f.answer) ∙ f.answer

-- the record that did not fit is done as it is with room
five_done : (bench_answer (frame_of 0x02 (nine ++ fixed)) 4).state ≡ (bench_answer (frame_of 0x02 (nine ++ fixed)) 64).state
five_done =
    let f = computed.just in
    write_five_done 8 capacity (T 0x07) (holding []) cluster true (frame_of 0x02 nine) (header 0x02) f.asks f.readable fixed _ 4 64 computed.one
    (λ n. omega (arith, n, number f.answer)) (λ n. omega (arith, n, number computed.listed.answer))

-- room for the header alone
five_at_header : bench_answer (frame_of 0x02 nine) 3 ≡ refused 3 ReplyTooLong (left 0x09)
five_at_header =
    let f = computed.wide in
    write_five_at_header 8 capacity (T 0x07) (holding []) cluster true (frame_of 0x02 nine) (header 0x02) f.asks f.readable 64 (number f.answer, ap (λ (o : Outcome State). o.size) f.answer)
    ∙ ap (λ (o : Outcome State). refused 3 ReplyTooLong o.state) f.answer

four_at_header : bench_answer (frame_of 0x02 (nine ++ short)) 3 ≡ refused 3 RecordCut (left 0x09)
four_at_header =
    let f = computed.wide in
    write_cut_is_four_at_header 8 capacity (T 0x07) (holding []) cluster true (frame_of 0x02 nine) (header 0x02) f.asks f.readable short 64 computed.cut_off
    (number f.answer, ap (λ (o : Outcome State). o.size) f.answer)
    ∙ ap (λ (o : Outcome State). refused 3 RecordCut o.state) f.answer

-- undivided: 4, and attribute 1 is 7 as it was
untouched : (bench_answer (frame_of 0x03 (nine ++ short)) 64).state ≡ left 0x07
untouched =
    let f = computed.together in
    undivided_cut_untouched 8 capacity (T 0x07) (holding []) cluster true (frame_of 0x03 nine) (header 0x03) f.asks f.readable short 64 computed.cut_off

undivided_four : bench_answer (frame_of 0x03 (nine ++ short)) 64 ≡ refused 64 RecordCut (left 0x07)
undivided_four =
    let f = computed.together in
    undivided_cut_is_four 8 capacity (T 0x07) (holding []) cluster true (frame_of 0x03 nine) (header 0x03) f.asks f.readable short 64 computed.cut_off (number f.answer)

-- a failure that does not fit is 5, whatever is behind it, and attribute 1 is 7 as it was
undivided_five : bench_answer (frame_of 0x03 (nine ++ wordy ++ short)) 5 ≡ refused 5 ReplyTooLong (left 0x07)
undivided_five =
    let f = computed.tied in
    (undivided_five_stays 8 capacity (T 0x07) (holding []) cluster true (frame_of 0x03 (nine ++ wordy)) (header 0x03) f.asks f.readable short 5 (omega arith) (number f.answer)).1

-- room for the header alone: bench frame 8, and with a record behind it that cannot be read
undivided_at_header : bench_answer (frame_of 0x03 nine) 3 ≡ refused 3 ReplyTooLong (left 0x09)
undivided_at_header =
    let f = computed.together in
    undivided_five_at_header 8 capacity (T 0x07) (holding []) cluster true (frame_of 0x03 nine) (header 0x03) f.asks f.readable 64 (number f.answer, ap (λ (o : Outcome State). o.size) f.answer)
    ∙ ap (λ (o : Outcome State). refused 3 ReplyTooLong o.state) f.answer

undivided_four_at_header : bench_answer (frame_of 0x03 (nine ++ short)) 3 ≡ refused 3 RecordCut (left 0x07)
undivided_four_at_header =
    let f = computed.together in
    undivided_cut_is_four_at_header 8 capacity (T 0x07) (holding []) cluster true (frame_of 0x03 nine) (header 0x03) f.asks f.readable short 64 computed.cut_off
    (number f.answer, ap (λ (o : Outcome State). o.size) f.answer)
