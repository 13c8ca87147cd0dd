-- Configure Reporting frames over store T (specs/Claims/Bench.antt) and an empty table that meet what specs/Claims/Troubles.antt supposes, computed, and what each claim
-- then says of them. Assumes nothing.
use mathlib.Core.Path.{◌≡◌, refl, ap, ◌∙◌}
use mathlib.Core.Bool.{true}
use mathlib.Core.List.{List, [], ◌∷◌, ◌++◌}
use Prim.Native.Nat.{ℕ}
use native.Mathlib.Omega.{arith}
use Rattle.types.specs.Number.{all_zero, le, bytes_of, unsigned_at, signed_of, signed_at}
use Rattle.types.specs.Ids.{size_of, shape_of, is_analog, is_signed, is_float}
use Rattle.types.specs.Value.{change_at}
use Rattle.types.specs.Extent.{upto, count}
use Rattle.frame.specs.declared.command_identifier.CommandIdentifier.TheVariants.{ConfigureReporting}
use Rattle.frame.specs.declared.answer.Refusal.TheVariants.{RecordCut, ReplyTooLong}
use Rattle.frame.specs.Header.{frame_type_of, header_of, reply_head}
use Rattle.frame.specs.CommandIdentifier.{command_of}
use Rattle.frame.specs.Reply.{padded}
use Rattle.frame.specs.Answer.{Outcome, replied, refused}
use Rattle.frame.specs.Walk.{records_in, records_from, walk}
use Rattle.frame.specs.Encoded.{encode_all, fits}
use Rattle.frame.specs.Failures.{done_with, pass_from, encode_failures, answered, concluded, performed, headed}
use Rattle.frame.specs.Claims.Troubles.{single}
use Rattle.store.specs.Contents.{attribute_at, attributes_from, attributes_of, find_in, find_of}
use Rattle.store.specs.Layout.{each, ascending, room_ok, is_text, length_ok, follow_on, end_from, unused_ok, is_store}
use Rattle.reporting.specs.Table.{capacity, holding}
use Rattle.configure.specs.Request.{received, change_width, configure_at, configures}
use Rattle.configure.specs.Configure.{setting, tried, configure_entries, configure_of}
use Rattle.server.specs.Serve.{State, state, commanded, typed, by_header, tabled, serve}
use Rattle.server.specs.Claims.Bench.{T, cluster, bench_answer, unmarked, configuration}
use Rattle.server.specs.Claims.Troubles.{Unread}
use Rattle.server.proofs.Troubles.{configure_cut_is_four, configure_five_stays, configure_five_done, configure_five_at_header, configure_cut_is_four_at_header}
use Rattle.server.proofs.WorkedTroubles.{frame_of, header, Frame, number}

-- ---- records

-- attribute 5: minimum 10, maximum 60, change 50
abbrev sets : List ℕ
sets = 0x00 ∷ 0x05 ∷ 0x00 ∷ 0x29 ∷ 0x0a ∷ 0x00 ∷ 0x3c ∷ 0x00 ∷ 0x32 ∷ 0x00 ∷ []

-- maximum ffff clears it
abbrev clears : List ℕ
clears = 0x00 ∷ 0x05 ∷ 0x00 ∷ 0x29 ∷ 0x00 ∷ 0x00 ∷ 0xff ∷ 0xff ∷ 0x00 ∷ 0x00 ∷ []

-- direction 1: 8c
abbrev other : List ℕ
other = 0x01 ∷ 0x05 ∷ 0x00 ∷ 0x1e ∷ 0x00 ∷ []

-- the intervals are not there
abbrev short : List ℕ
short = 0x00 ∷ 0x05 ∷ 0x00 ∷ 0x29 ∷ []

-- ---- frames

-- the store as it was, and attribute 5 in the table
abbrev left : State
left = state (T 0x07) (holding (unmarked configuration ∷ []))

-- the reply of one 00
abbrev success : List ℕ
success = 0x18 ∷ 0x2b ∷ 0x07 ∷ 0x00 ∷ []

pub record Computed : Type 0 where
  pub cut_off : Unread configures short
  pub one : configures other ≡ single (received 0x01 0x0005)
  -- with room for one byte behind the header, and for many; with a record that fails
  pub just : Frame ConfigureReporting configures 0x06 sets 4 (replied 4 success left)
  pub wide : Frame ConfigureReporting configures 0x06 sets 64 (replied 64 success left)
  pub full : Frame ConfigureReporting configures 0x06 (sets ++ other) 4 (refused 4 ReplyTooLong left)
  pub listed : Frame ConfigureReporting configures 0x06 (sets ++ other) 64 (replied 64 (0x18 ∷ 0x2b ∷ 0x07 ∷ 0x8c ∷ 0x01 ∷ 0x05 ∷ 0x00 ∷ []) left)

computed : Computed
unfolding all_zero le bytes_of unsigned_at signed_of signed_at size_of shape_of is_analog is_signed is_float change_at upto count frame_type_of header_of reply_head command_of padded records_in records_from walk encode_all fits done_with pass_from encode_failures answered concluded performed headed attribute_at attributes_from attributes_of find_in find_of each ascending room_ok is_text length_ok follow_on end_from unused_ok is_store change_width configure_at setting tried configure_entries configure_of commanded typed by_header tabled serve
computed =
    record {
      cut_off = refl;
      one = refl;
      just = record { asks = record { header = refl; global = refl; command = refl }; readable = refl; answer = refl };
      wide = record { asks = record { header = refl; global = refl; command = refl }; readable = refl; answer = refl };
      full = record { asks = record { header = refl; global = refl; command = refl }; readable = refl; answer = refl };
      listed = record { asks = record { header = refl; global = refl; command = refl }; readable = refl; answer = refl };
    }

-- ---- what the claims say of them

-- 4, and attribute 5 is configured
four : bench_answer (frame_of 0x06 (sets ++ short)) 64 ≡ refused 64 RecordCut left
four =
    let f = computed.wide in
    configure_cut_is_four 8 capacity (T 0x07) (holding []) cluster true (frame_of 0x06 sets) (header 0x06) f.asks f.readable short 64 computed.cut_off (number f.answer)
    ∙ ap (λ (o : Outcome State). refused 64 RecordCut o.state) f.answer

-- 5 stays, and attribute 5 is not cleared, nor is a record behind it that cannot be read met
five : bench_answer (frame_of 0x06 (sets ++ other ++ clears)) 4 ≡ refused 4 ReplyTooLong left
five =
    let f = computed.full in
    configure_five_stays 8 capacity (T 0x07) (holding []) cluster true (frame_of 0x06 (sets ++ other)) (header 0x06) f.asks f.readable clears 4 (omega arith) (number f.answer) ∙ f.answer

five_still : bench_answer (frame_of 0x06 (sets ++ other ++ short)) 4 ≡ refused 4 ReplyTooLong left
five_still =
    let f = computed.full in
    configure_five_stays 8 capacity (T 0x07) (holding []) cluster true (frame_of 0x06 (sets ++ other)) (header 0x06) f.asks f.readable short 4 (omega arith) (number f.answer) ∙ f.answer

-- the record that did not fit is done as it is with room
five_done : (bench_answer (frame_of 0x06 (sets ++ other)) 4).state ≡ (bench_answer (frame_of 0x06 (sets ++ other)) 64).state
five_done =
    let f = computed.just in
    configure_five_done 8 capacity (T 0x07) (holding []) cluster true (frame_of 0x06 sets) (header 0x06) f.asks f.readable other _ 4 64 computed.one
    (λ n. omega (arith, n, number f.answer)) (λ n. omega (arith, n, number computed.listed.answer))

-- room for the header alone
five_at_header : bench_answer (frame_of 0x06 sets) 3 ≡ refused 3 ReplyTooLong left
five_at_header =
    let f = computed.wide in
    configure_five_at_header 8 capacity (T 0x07) (holding []) cluster true (frame_of 0x06 sets) (header 0x06) f.asks f.readable 64 (number f.answer, ap (λ (o : Outcome State). o.size) f.answer)
    ∙ ap (λ (o : Outcome State). refused 3 ReplyTooLong o.state) f.answer

four_at_header : bench_answer (frame_of 0x06 (sets ++ short)) 3 ≡ refused 3 RecordCut left
four_at_header =
    let f = computed.wide in
    configure_cut_is_four_at_header 8 capacity (T 0x07) (holding []) cluster true (frame_of 0x06 sets) (header 0x06) f.asks f.readable short 64 computed.cut_off
    (number f.answer, ap (λ (o : Outcome State). o.size) f.answer)
    ∙ ap (λ (o : Outcome State). refused 3 RecordCut o.state) f.answer
