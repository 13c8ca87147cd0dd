-- The nine readings at their places are the entry of the slot's numbers. Assumes nothing.
use mathlib.Core.Path.{ap, sym, ◌∙◌}
use Prim.Native.Nat.{◌+◌}
use lib.ListN.{get_or}
use lib.Dec.{eqb}
use Rattle.types.specs.Number.{signed_of, signed_at}
use Rattle.types.proofs.Machine.{came_back}
use Rattle.reporting.proofs.CarriageCode.{entry_at}
use Rattle.reporting.proofs.carried.read_slot.Goals as goal

pub returns : goal.returns
unfolding signed_at
returns c =
    let bs = c.args.bytes.now in
    let at = c.args.at in
    (λ i. record {
      key = record { cluster = record { 0 = c.u16_in-cluster.ensures i }; attribute = record { 0 = c.u16_in-attribute.ensures i } };
      config = record { min_interval = c.u16_in-min_interval.ensures i; max_interval = c.u16_in-max_interval.ensures i; reportable_change = c.u64_in-reportable_change.ensures i; unsigned = eqb (get_or bs (at + 16) 0) 1 };
      marked = eqb (get_or bs (at + 17) 0) 1;
      last_time = c.u32_in-last_time.ensures i;
      last_value = (came_back _ c.bits_i64-last_value.type_inv ∙ c.bits_i64-last_value.ensures ∙ ap (signed_of 8) c.u64_in.ensures) i;
    })
    ∙ sym (entry_at bs at)
