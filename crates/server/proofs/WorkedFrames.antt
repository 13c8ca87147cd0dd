-- A served history (specs/Claims/ServedHistory.antt), computed: it meets all that demand 3 with frames supposes. Assumes nothing.
use mathlib.Core.Path.{refl, sym, subst}
use mathlib.Core.Logic.{inr}
use mathlib.Core.List.{List, [], ◌∷◌}
use native.Mathlib.Omega.{arith}
use Rattle.types.specs.Number.{all_zero, le, unsigned_at, signed_of, signed_at}
use Rattle.types.specs.Ids.{size_of, shape_of, is_analog, is_signed, is_float}
use Rattle.types.specs.Value.{change_at}
use Rattle.types.specs.Extent.{upto, count}
use Rattle.frame.specs.Header.{frame_type_of, header_of, reply_head}
use Rattle.frame.specs.CommandIdentifier.{command_of}
use Rattle.frame.specs.Walk.{records_in, records_from, walk, taken}
use Rattle.frame.specs.Encoded.{encode_all, fits}
use Rattle.frame.specs.Failures.{done_with, pass_from, encode_failures, answered, concluded, performed, headed}
use Rattle.store.specs.Contents.{attribute_at, attributes_from, attributes_of, find_in, find_of}
use Rattle.store.specs.Layout.{each, ascending, room_ok, is_text, length_ok, follow_on, end_from, unused_ok, is_store}
use Rattle.reporting.specs.Due.{moved_by}
use Rattle.reporting.specs.Table.{capacity}
use Rattle.reporting.specs.Claims.Events.{Event, configured, cleared}
use Rattle.reporting.specs.Demand3.{asks_of, Supposed, Promised}
use Rattle.configure.specs.Request.{change_width, configure_at}
use Rattle.configure.specs.Configure.{setting, tried, configure_entries, configure_of}
use Rattle.configure.specs.Claims.History.{record_events, all_events, records_done, configure_events}
use Rattle.server.specs.Serve.{commanded, typed, by_header, tabled, serve}
use Rattle.server.specs.Claims.Bench.{key}
use Rattle.server.specs.Claims.History.{requested, request_events}
use Rattle.server.specs.Claims.ServedHistory.{zeroth, g, f, before, configuring, after, told, HistoryIs, SuppositionsMet}
use Rattle.server.proofs.Frames.{demand_3_of_frames}

pub computed : HistoryIs
unfolding all_zero le unsigned_at signed_of signed_at size_of shape_of is_analog is_signed is_float change_at upto count frame_type_of header_of reply_head command_of records_in records_from walk taken encode_all fits done_with pass_from encode_failures answered concluded performed headed attribute_at attributes_from attributes_of find_in find_of each ascending room_ok is_text length_ok follow_on end_from unused_ok is_store moved_by change_width configure_at setting tried configure_entries configure_of record_events all_events records_done configure_events commanded typed by_header tabled serve requested request_events
computed = (refl, refl)

pub supposed : SuppositionsMet
supposed =
    record {
      undisturbed = (refl, (refl, tt));
      paced = (omega arith, omega arith, (omega arith, omega arith, (omega arith, omega arith, (omega arith, omega arith, (omega arith, omega arith, tt)))));
      positive = omega arith;
      marked_asks = (refl, (refl, (refl, (refl, (refl, inr refl)))));
      not_before = refl;
    }

pub promised : Promised g 59 (asks_of key told)
promised =
    subst (λ (es : List Event). Promised g 59 (asks_of key es)) computed.1
    (demand_3_of_frames capacity before configuring key g (configured zeroth f ∷ []) (cleared zeroth ∷ []) 59 after computed.0 (omega arith) (omega arith)
    (subst (Supposed key 59) (sym computed.1) supposed))
