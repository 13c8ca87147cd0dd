-- Numbers over document 01's store T, served and read back, by computing: an unsigned counter with its top bit set, and a negative one.
-- Assumes nothing.
use Rattle.frame.specs.declared.answer.Refusal.{Refusal}
use Rattle.std.specs.Prelude.{None, Option, Some, Err, Ok, Result}
use mathlib.Core.Path.{◌≡◌, refl}
use mathlib.Core.List.{List, [], ◌∷◌}
use Prim.Native.Nat.{ℕ}
use lib.IntN.{ℤ, pos, negsuc}
use Rattle.types.specs.Number.{all_zero, le, bytes_of, unsigned_at, signed_of, signed_at}
use Rattle.types.specs.Ids.{size_of, shape_of, is_signed}
use Rattle.types.specs.Value.{number_at}
use Rattle.types.specs.Extent.{upto, count, by_shape, value_at}
use Rattle.frame.specs.Header.{frame_type_of, header_of, reply_head}
use Rattle.frame.specs.CommandIdentifier.{command_of}
use Rattle.frame.specs.Reply.{padded}
use Rattle.frame.specs.Walk.{records_in, records_from, walk}
use Rattle.frame.specs.Encoded.{encode_all, fits}
use Rattle.frame.specs.Shortened.{with_record_for, shortened_from, shortened_reply, shortened}
use Rattle.store.specs.Contents.{attribute_at, attributes_from, attributes_of, find_in, find_of}
use Rattle.store.specs.Layout.{each, ascending, room_ok, is_text, length_ok, follow_on, end_from, unused_ok, is_store}
use Rattle.store.specs.Value.{used_of, value_of}
use Rattle.read.specs.Read.{id_at, encode, record_by, record_for, read_of}
use Rattle.server.specs.Serve.{commanded, typed, by_header, tabled, serve}
use Rattle.server.specs.Claims.Bench.{T, bench_answer}
use Rattle.report.specs.Report.{encode as encode_report, report_from, report_reply, report_of}
use Rattle.readers.specs.declared.value.ValueIn.{ValueIn}
use Rattle.readers.specs.Reading.{kth, body_of, spans_in, spans_from}
use Rattle.readers.specs.Layout.{valued, length_of}
use Rattle.readers.specs.Replies.{spans_of, read_record, reported_record}
use Rattle.readers.specs.Values.{value_in, Held, read_reply_held, report_frame_held}
use Rattle.readers.proofs.Outs.{out_of}

-- the value that a record came with
abbrev came_with : {R : Type 0} → Result (Option (Held R)) Refusal → Option ValueIn
came_with (Ok (Some h)) = h.value
came_with (Ok None) = None
came_with (Err why) = None

-- type, place, length and number
abbrev value_at_place : ℕ → ℕ → ℕ → ℤ → Option ValueIn
value_at_place t start len z = Some (record { type_id = record { 0 = t }; start = start; len = len; number = Some z })

-- attributes 0 and 5 asked for
abbrev answer : List ℕ
answer = out_of (bench_answer (0x00 ∷ 0x2a ∷ 0x00 ∷ 0x00 ∷ 0x00 ∷ 0x05 ∷ 0x00 ∷ []) 64)

read_worked : (came_with (kth 0 (read_reply_held answer)) ≡ value_at_place 0x23 7 4 (pos 2147483648))
    × (came_with (kth 1 (read_reply_held answer)) ≡ value_at_place 0x29 15 2 (negsuc 199))
unfolding all_zero le bytes_of unsigned_at signed_of signed_at size_of shape_of is_signed number_at upto count by_shape value_at frame_type_of header_of reply_head command_of padded records_in records_from walk encode_all fits with_record_for shortened_from shortened_reply shortened attribute_at attributes_from attributes_of find_in find_of each ascending room_ok is_text length_ok follow_on end_from unused_ok is_store used_of value_of id_at encode record_by record_for read_of commanded typed by_header tabled serve body_of spans_in spans_from valued length_of spans_of read_record value_in read_reply_held
read_worked = (refl, refl)

-- and reported
abbrev report : List ℕ
report = out_of (report_of 8 (T 0x07) 0x2e (0 ∷ 5 ∷ []) 64)

report_worked : (came_with (kth 0 (report_frame_held report)) ≡ value_at_place 0x23 6 4 (pos 2147483648))
    × (came_with (kth 1 (report_frame_held report)) ≡ value_at_place 0x29 13 2 (negsuc 199))
unfolding all_zero le bytes_of unsigned_at signed_of signed_at size_of shape_of is_signed number_at upto count by_shape value_at frame_type_of header_of reply_head padded walk encode_all fits attribute_at attributes_from attributes_of find_in find_of each ascending room_ok is_text length_ok follow_on end_from unused_ok is_store used_of value_of encode_report report_from report_reply report_of body_of spans_in spans_from valued length_of spans_of reported_record value_in report_frame_held
report_worked = (refl, refl)
