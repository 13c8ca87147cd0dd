-- Where the laws of splitting do not hold, computed over store T (specs/Claims/SplitExample.antt). Assumes nothing.
use mathlib.Core.Path.{◌≡◌, refl, sym, ap, ◌∙◌}
use mathlib.Core.List.{[]}
use Prim.Native.Nat.{ℕ}
use native.Mathlib.Omega.{arith}
use lib.ListN.{length, get_or}
use Rattle.types.specs.Number.{all_zero, le, bytes_of, unsigned_at, signed_of, signed_at, residue}
use Rattle.types.specs.Ids.{size_of, shape_of, is_analog, is_reportable, is_signed, is_float}
use Rattle.types.specs.Value.{number_at, change_at}
use Rattle.types.specs.Extent.{upto, times, count, text, series, member, structure, by_shape, value_at, series_at, structure_at}
use Rattle.frame.specs.Header.{frame_type_of, header_of, reply_head}
use Rattle.frame.specs.CommandIdentifier.{command_of}
use Rattle.frame.specs.Reply.{padded}
use Rattle.frame.specs.Inside.Buffer.{put}
use Rattle.frame.specs.Walk.{records_in, records_from, walk}
use Rattle.frame.specs.Encoded.{encode_all, fits}
use Rattle.frame.specs.Shortened.{with_record_for, shortened_from, shortened_reply, shortened}
use Rattle.frame.specs.Failures.{done_with, pass_from, encode_failures, answered, concluded, performed, headed}
use Rattle.frame.specs.Inside.Failures.{noting, concluded_at}
use Rattle.store.specs.Contents.{attribute_at, attributes_from, attributes_of, find_in, find_of}
use Rattle.store.specs.Layout.{each, ascending, room_ok, is_text, length_ok, follow_on, end_from, unused_ok, is_store}
use Rattle.store.specs.Value.{used_of, value_of, fitted, stored, number_of}
use Rattle.store.specs.Write.{too_long, is_writable, check_of, write_of}
use Rattle.reporting.specs.Due.{moved_by}
use Rattle.read.specs.Read.{id_at, encode, record_by, record_for, read_of}
use Rattle.write.specs.Request.{record_at, records_at}
use Rattle.write.specs.Reply.{encode as encode-write-reply}
use Rattle.write.specs.Write.{written, checked, write_attributes, written_all, write_undivided, write_silently}
use Rattle.discover.specs.Discover.{encode as encode-discover-discover, at_or_after, listed, complete_byte, discovered_all, discover_reply, discover_of}
use Rattle.configure.specs.Request.{change_width, configure_at, asked_at}
use Rattle.configure.specs.Configure.{setting, tried, configure_entries, configure_of}
use Rattle.configure.specs.Configuration.{encode as encode-configure-configuration, record_by as recordBy-configure-configuration, record_for as recordFor-configure-configuration, configuration_of}
use Rattle.server.specs.DefaultResponse.{default_reply, default_response}
use Rattle.server.specs.Serve.{commanded, typed, by_header, tabled, serve}
use Rattle.reporting.specs.Table.{Table, holding, bad}
use Rattle.server.specs.Serve.{State, state}
use Rattle.server.specs.Claims.Bench.{T}
use Rattle.server.specs.Claims.SplitExample.{SplitsFail}

-- two states with different levels
module _ (m n : ℕ) (differ : m ≡ n → ⊥) where
  unlike : (x y : State) → x ≡ state (T m) (holding []) → y ≡ state (T n) (holding []) → x ≡ y → ⊥
  unlike x y e f k = differ (ap (λ (z : State). get_or z.store 40 0) (sym e ∙ k ∙ f))

seven_nine : ◌≡◌ {A = ℕ} 7 9 → ⊥
seven_nine e = omega arith

nine_seven : ◌≡◌ {A = ℕ} 9 7 → ⊥
nine_seven e = omega arith

ten_nine : ◌≡◌ {A = ℕ} 10 9 → ⊥
ten_nine e = omega arith

-- how many entries a table holds
abbrev entries : Table → ℕ
entries (holding l) = length l
entries (bad t) = 0

counted : (x y : State) → entries x.table ≡ 0 → entries y.table ≡ 1 → x ≡ y → ⊥
counted x y e f k = let z : ◌≡◌ {A = ℕ} 0 1 = sym e ∙ ap (λ (s : State). entries s.table) k ∙ f in omega arith

pub splits_fail : SplitsFail
unfolding all_zero le bytes_of unsigned_at signed_of signed_at residue size_of shape_of is_analog is_reportable is_signed is_float number_at change_at upto times count text series member structure by_shape value_at series_at structure_at frame_type_of header_of reply_head command_of padded put records_in records_from walk encode_all fits with_record_for shortened_from shortened_reply shortened done_with pass_from encode_failures answered concluded performed headed noting concluded_at attribute_at attributes_from attributes_of find_in find_of each ascending room_ok is_text length_ok follow_on end_from unused_ok is_store used_of value_of fitted stored number_of too_long is_writable check_of write_of moved_by id_at encode record_by record_for read_of record_at records_at encode-write-reply written checked write_attributes written_all write_undivided write_silently encode-discover-discover at_or_after listed complete_byte discovered_all discover_reply discover_of change_width configure_at asked_at setting tried configure_entries configure_of encode-configure-configuration recordBy-configure-configuration recordFor-configure-configuration configuration_of default_reply default_response commanded typed by_header tabled serve
splits_fail =
    record {
      cut_write = unlike 7 9 seven_nine _ _ refl refl;
      cut_silent = unlike 7 9 seven_nine _ _ refl refl;
      without_write = unlike 9 7 nine_seven _ _ refl refl;
      without_silent = unlike 9 7 nine_seven _ _ refl refl;
      refused = unlike 9 7 nine_seven _ _ refl refl;
      less_room = unlike 7 9 seven_nine _ _ refl refl;
      by_silent = unlike 7 9 seven_nine _ _ refl refl;
      undivided = unlike 9 7 nine_seven _ _ refl refl;
      cut_configure = counted _ _ refl refl;
      in_common = unlike 10 9 ten_nine _ _ refl refl;
    }
