-- A log of the server and of the table's methods (specs/Claims/LogExample.antt), computed: it meets all that demand 3 of the server supposes. Assumes nothing.
use Rattle.std.specs.Prelude.{Ok}
use mathlib.Core.Path.{refl, sym, subst}
use mathlib.Core.Logic.{inr}
use mathlib.Core.List.{List, []}
use native.Mathlib.Omega.{arith}
use Rattle.types.specs.Number.{all_zero, le, bytes_of, unsigned_at, signed_of, signed_at}
use Rattle.types.specs.Ids.{size_of, shape_of, is_analog, is_signed, is_float}
use Rattle.types.specs.Value.{change_at}
use Rattle.types.specs.Extent.{upto, count}
use Rattle.frame.specs.Header.{frame_type_of, header_of, reply_head}
use Rattle.frame.specs.CommandIdentifier.{command_of}
use Rattle.frame.specs.Reply.{padded}
use Rattle.frame.specs.Walk.{records_in, records_from, walk, taken}
use Rattle.frame.specs.Encoded.{encode_all, fits}
use Rattle.frame.specs.Shortened.{with_record_for, shortened_from, shortened_reply, shortened}
use Rattle.frame.specs.Failures.{done_with, pass_from, encode_failures, answered, concluded, performed, headed}
use Rattle.store.specs.Contents.{attribute_at, attributes_from, attributes_of, find_in, find_of}
use Rattle.store.specs.Layout.{each, ascending, room_ok, is_text, length_ok, follow_on, end_from, unused_ok, is_store}
use Rattle.reporting.specs.Due.{moved_by}
use Rattle.reporting.specs.Claims.Events.{Event}
use Rattle.reporting.specs.Demand3.{asks_of, Supposed, Promised}
use Rattle.reporting.specs.Claims.LogExample.{table_with}
use Rattle.read.specs.Read.{id_at, encode, record_by, record_for, read_of}
use Rattle.configure.specs.Request.{change_width, configure_at}
use Rattle.configure.specs.Configure.{setting, tried, configure_entries, configure_of}
use Rattle.configure.specs.Claims.History.{record_events, all_events, records_done, configure_events}
use Rattle.server.specs.Serve.{commanded, typed, by_header, tabled, serve}
use Rattle.server.specs.Claims.History.{request_events}
use Rattle.server.specs.Claims.Bench.{T, key}
use Rattle.server.specs.Claims.ServedHistory.{g}
use Rattle.server.specs.Claims.LogExample.{configuring, accepted, before, after, configured_table, told, LogStands, LogEvents, LogSupposed}
use Rattle.server.proofs.Logged.{demand_3_of_server}

pub log_stands : LogStands
unfolding all_zero le bytes_of unsigned_at signed_of signed_at size_of shape_of is_analog is_signed is_float change_at upto count frame_type_of header_of reply_head command_of padded records_in records_from walk encode_all fits with_record_for shortened_from shortened_reply shortened done_with pass_from encode_failures answered concluded performed headed attribute_at attributes_from attributes_of find_in find_of each ascending room_ok is_text length_ok follow_on end_from unused_ok is_store moved_by id_at encode record_by record_for read_of change_width configure_at setting tried configure_entries configure_of commanded typed by_header tabled serve
log_stands = (refl, (refl, (refl, (refl, (refl, (refl, (refl, (refl, tt))))))))

pub log_events : LogEvents
unfolding all_zero le bytes_of unsigned_at signed_of signed_at size_of shape_of is_analog is_signed is_float change_at upto count frame_type_of header_of reply_head command_of records_in records_from taken encode_all fits done_with attribute_at attributes_from attributes_of find_in find_of each ascending room_ok is_text length_ok follow_on end_from unused_ok is_store moved_by change_width configure_at setting tried record_events all_events records_done configure_events request_events
log_events = (refl, refl)

pub log_supposed : LogSupposed
log_supposed = (
  omega arith,
  omega arith,
  record {
    undisturbed = tt;
    paced = (omega arith, omega arith, (omega arith, omega arith, tt));
    positive = omega arith;
    marked_asks = (refl, (refl, inr refl));
    not_before = refl;
  },
)

pub log_promised : Promised g 59 (asks_of key told)
log_promised =
    subst (λ (es : List Event). Promised g 59 (asks_of key es)) log_events.1
    (demand_3_of_server (table_with []) before configuring (record { table = configured_table; answer = Ok 4 }) (padded 64 accepted) (T 0x07) after [] key g [] 59 log_stands.0 log_stands.1 log_events.0 log_supposed.0 log_supposed.1
    (subst (Supposed key 59) (sym log_events.1) log_supposed.2))
