-- A log with report turns (specs/Claims/TurnLog.antt), computed: it meets all that demand 3 with turns supposes. Assumes nothing.
use mathlib.Core.Path.{refl}
use mathlib.Core.List.{[]}
use native.Mathlib.Omega.{arith}
use Rattle.types.specs.Number.{AllBytes, all_zero, le, bytes_of, unsigned_at, signed_of, signed_at, residue}
use Rattle.types.specs.Ids.{size_of, shape_of, is_signed}
use Rattle.types.specs.Value.{number_at}
use Rattle.types.specs.Extent.{upto, count}
use Rattle.frame.specs.Header.{reply_head}
use Rattle.frame.specs.Reply.{padded}
use Rattle.frame.specs.Encoded.{encode_all, fits}
use Rattle.store.specs.Contents.{attribute_at, attributes_from, attributes_of}
use Rattle.store.specs.Layout.{each, ascending, room_ok, is_text, length_ok, follow_on, end_from, unused_ok, is_store}
use Rattle.store.specs.Value.{used_of, value_of}
use Rattle.reporting.specs.Due.{moved_by}
use Rattle.reporting.specs.Carried.{laid, numbers_in, rows_laid, rows_in, numbers_of, entry_of, is_slot, table_bytes, slots_in, table_in, are_slots, is_table}
use Rattle.report.specs.Report.{encode}
use Rattle.report.specs.Turn.{is_due, record_in, turn_of}
use Rattle.report.specs.Claims.Turns.{begins}
use Rattle.server.specs.Claims.Bench.{T, cluster}
use Rattle.server.specs.Claims.ServedHistory.{g}
use Rattle.server.proofs.Bytes.{bytes_small}
use Rattle.hingedrift.specs.Claims.Log.{made}
use Rattle.hingedrift.specs.Claims.LogExample.{was, new, first}
use Rattle.hingedrift.specs.Claims.TurnLog.{turns, TurnLogStands, TurnLogMeets}
use Rattle.hingedrift.proofs.LogExample.{log_stands, log_events}
use Rattle.hingedrift.proofs.Turned.{demand_3_of_turns_in_log}

store_bytes : AllBytes (T 0x07)
store_bytes = bytes_small (T 0x07) refl

-- the first call is that of the other log
pub turn_log_stands : TurnLogStands
unfolding all_zero le bytes_of unsigned_at signed_of signed_at residue size_of shape_of is_signed number_at upto count reply_head padded encode_all fits attribute_at attributes_from attributes_of each ascending room_ok is_text length_ok follow_on end_from unused_ok is_store used_of value_of moved_by laid numbers_in rows_laid rows_in numbers_of entry_of is_slot table_bytes slots_in table_in are_slots is_table encode is_due record_in turn_of
turn_log_stands = (
  log_stands.0,
  (log_stands.1.0, log_stands.1.1, ((store_bytes, omega arith), refl, ((store_bytes, omega arith), refl, ((store_bytes, omega arith), refl, tt)))),
)

pub turn_log_meets : TurnLogMeets
unfolding all_zero le bytes_of unsigned_at signed_of signed_at residue size_of shape_of is_signed upto count reply_head padded attribute_at attributes_from attributes_of each ascending room_ok is_text length_ok follow_on end_from unused_ok is_store begins
turn_log_meets =
    record {
      alone = tt;
      present = (refl, (refl, (refl, tt)));
      paced = (omega arith, omega arith, (omega arith, omega arith, tt));
      promised =
          demand_3_of_turns_in_log made was new [] first turns [] cluster 5 g [] 59 turn_log_stands.0 turn_log_stands.1 log_events.0 (omega arith) (omega arith) tt
          (refl, (refl, (refl, tt))) (omega arith, omega arith, (omega arith, omega arith, tt));
    }
