-- The conditions of a table, each test giving the definition's Bool. Assumes nothing.
use native.Mathlib.Omega.{arith}
use mathlib.Core.Path.{◌≡◌, ap, ◌∙◌}
use Prim.Native.Nat.{ℕ, ◌+◌, ◌-◌, ◌*◌}
use mathlib.Core.Bool.{Bool}
use mathlib.Core.List.{List}
use lib.ListN.{length, take, drop, length-drop}
use lib.Seq.{take_all}
use Rattle.types.specs.Number.{all_zero}
use Rattle.reporting.specs.Carried.{count_in, slot_bytes}
use Rattle.reporting.proofs.CarriageLoops.{not_sized, not_counted, not_ended, by_slots}
use Rattle.reporting.proofs.carried.is_table.Goals as goal

pub returns-then-bytes-ne-TABLE_BYTES : goal.returns-then-bytes-ne-TABLE_BYTES
returns-then-bytes-ne-TABLE_BYTES c = not_sized c.args.bytes.now c.if-bytes-ne-TABLE_BYTES.true

pub overflow_cast-count : goal.overflow_cast-count
overflow_cast-count c = omega (arith, c.type_inv.bytes 0)

pub returns-then-count-gt-LIMIT : goal.returns-then-count-gt-LIMIT
returns-then-count-gt-LIMIT c = not_counted c.args.bytes.now c.if-bytes-ne-TABLE_BYTES.false c.if-count-gt-LIMIT.true

-- what is looked at is all that lies behind the slots
to_the_end : (bs : List ℕ) (at : ℕ) (z : Bool) → z ≡ all_zero (take (length bs - at) (drop at bs)) → z ≡ all_zero (drop at bs)
to_the_end bs at z e = e ∙ ap all_zero (take_all (length bs - at) (drop at bs) (simp length-drop (omega arith)))

pub returns-then-all_zero : goal.returns-then-all_zero
returns-then-all_zero c =
    let bs = c.args.bytes.now in
    c.slots_in_form.ensures ∙ by_slots bs c.if-bytes-ne-TABLE_BYTES.false c.if-count-gt-LIMIT.false _ (to_the_end bs (1 + slot_bytes * count_in bs) _ c.all_zero.ensures) c.if-all_zero.true

pub returns-else-all_zero : goal.returns-else-all_zero
returns-else-all_zero c =
    let bs = c.args.bytes.now in
    c.if-all_zero.false ∙ not_ended bs c.if-bytes-ne-TABLE_BYTES.false c.if-count-gt-LIMIT.false _ (to_the_end bs (1 + slot_bytes * count_in bs) _ c.all_zero.ensures) c.if-all_zero.false
