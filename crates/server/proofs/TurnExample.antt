-- Report turns over store T, computed (specs/Claims/TurnExample.antt). Assumes nothing.
use mathlib.Core.Path.{refl}
use mathlib.Core.List.{[]}
use native.Mathlib.Omega.{arith}
use Rattle.types.specs.Number.{AllBytes, all_zero, le, bytes_of, unsigned_at, signed_of, signed_at}
use Rattle.types.specs.Ids.{size_of, shape_of, is_signed}
use Rattle.types.specs.Value.{number_at}
use Rattle.types.specs.Extent.{upto, count}
use Rattle.frame.specs.Header.{reply_head}
use Rattle.frame.specs.Encoded.{encode_all, fits}
use Rattle.store.specs.Contents.{attribute_at, attributes_from, attributes_of}
use Rattle.store.specs.Layout.{each, ascending, room_ok, is_text, length_ok, follow_on, end_from, unused_ok, is_store}
use Rattle.store.specs.Value.{used_of, value_of}
use Rattle.reporting.specs.Due.{moved_by}
use Rattle.reporting.specs.Table.{capacity}
use Rattle.report.specs.Report.{encode}
use Rattle.report.specs.Turn.{is_due, record_in}
use Rattle.report.specs.Claims.Turns.{begins}
use Rattle.server.specs.Claims.Bench.{T}
use Rattle.server.specs.Claims.TurnExample.{pair, twice, met, TurnsAre, FairnessMet}
use Rattle.server.proofs.Bytes.{bytes_small}
use Rattle.server.proofs.Turns.{fair_in_uses}

pub turns_are : TurnsAre
unfolding all_zero le bytes_of unsigned_at signed_of signed_at size_of shape_of is_signed number_at upto count reply_head encode_all fits attribute_at attributes_from attributes_of each ascending room_ok is_text length_ok follow_on end_from unused_ok is_store used_of value_of moved_by encode is_due record_in begins
turns_are = record { both = refl; one = refl; around = refl; full = refl; quiet = refl }

store_bytes : AllBytes (T 0x07)
store_bytes = bytes_small (T 0x07) refl

pub fairness_met : FairnessMet
unfolding all_zero le bytes_of unsigned_at signed_of signed_at size_of shape_of is_signed number_at upto count reply_head encode_all fits attribute_at attributes_from attributes_of each ascending room_ok is_text length_ok follow_on end_from unused_ok is_store used_of value_of moved_by encode is_due record_in begins
fairness_met =
    record {
      standing = tt;
      bytes = (store_bytes, (store_bytes, tt));
      handed = (refl, tt);
      alone = ((refl, (refl, tt)), ((refl, (refl, tt)), tt));
      enough = omega arith;
      due = (refl, (refl, tt));
      reports =
          fair_in_uses capacity 0xfc21 5 twice pair [] met [] tt refl (store_bytes, (store_bytes, tt)) (refl, tt) ((refl, (refl, tt)), ((refl, (refl, tt)), tt)) (omega arith) (omega arith)
          (refl, (refl, tt));
    }
