-- The last slot goes into the one that the scan came to, zeros into the last, and the count is one less. Assumes nothing.
use native.Mathlib.Omega.{arith}
use mathlib.Core.Path.{◌≡◌, ◌∙◌}
use Prim.Native.Nat.{◌-◌}
use lib.ListN.{length, get_or, length-set}
use Rattle.types.specs.Number.{AllBytes}
use Rattle.reporting.proofs.CarriageLoops.{known_size, known_count}
use Rattle.reporting.proofs.Lending.{FoundSlot, clear_absent, clear_moved, clear_seen}
use Rattle.reporting.proofs.held.clear_in.Goals as goal

pub bounds-bytes-0 : goal.bounds-bytes-0
bounds-bytes-0 c = omega (arith, known_size c.args.bytes.now c.requires)

pub overflow_cast-n : goal.overflow_cast-n
overflow_cast-n c = omega (arith, c.slice_known-2-1.given 0)

pub returns-then-n-at : goal.returns-then-n-at
returns-then-n-at c =
    let all_bytes : AllBytes c.args.bytes.now = λ i. (c.slice_known-1.given i).fits in
    let found : FoundSlot c.args.bytes.now c.args.key c.find_slot-at.result = record { known = c.requires; place = c.find_slot-at.ensures } in
    clear_seen c.args.bytes.now all_bytes c.requires c.args.key _ (clear_absent found all_bytes c.if-n-at.true)

pub overflow_mul-last : goal.overflow_mul-last
overflow_mul-last c = omega (arith, known_count c.args.bytes.now c.requires)

pub overflow_add-last : goal.overflow_add-last
overflow_add-last c = omega (arith, known_count c.args.bytes.now c.requires)

pub read_slot-e-requires : goal.read_slot-e-requires
read_slot-e-requires c = omega (arith, known_count c.args.bytes.now c.requires, known_size c.args.bytes.now c.requires, c.if-n-at.false)

pub overflow_mul-at : goal.overflow_mul-at
overflow_mul-at c = omega (arith, known_count c.args.bytes.now c.requires, c.if-n-at.false)

pub overflow_add-at : goal.overflow_add-at
overflow_add-at c = omega (arith, known_count c.args.bytes.now c.requires, c.if-n-at.false)

pub write_slot-requires : goal.write_slot-requires
write_slot-requires c = omega (arith, known_count c.args.bytes.now c.requires, known_size c.args.bytes.now c.requires, c.if-n-at.false)

pub overflow_mul-last-2 : goal.overflow_mul-last-2
overflow_mul-last-2 c = omega (arith, known_count c.args.bytes.now c.requires)

pub overflow_add-last-2 : goal.overflow_add-last-2
overflow_add-last-2 c = omega (arith, known_count c.args.bytes.now c.requires)

pub blank_slot-requires : goal.blank_slot-requires
blank_slot-requires c =
    let size_filled : length c.write_slot.new.bytes ≡ length c.args.bytes.now = c.write_slot.auto.bytes in
    omega (arith, known_count c.args.bytes.now c.requires, known_size c.args.bytes.now c.requires, c.if-n-at.false, size_filled)

pub overflow_cast-bytes : goal.overflow_cast-bytes
overflow_cast-bytes c = omega (arith, known_count c.args.bytes.now c.requires)

pub bounds-bytes-0-2 : goal.bounds-bytes-0-2
bounds-bytes-0-2 c =
    let size_filled : length c.write_slot.new.bytes ≡ length c.args.bytes.now = c.write_slot.auto.bytes in
    let size_after : length c.blank_slot.new.bytes ≡ length c.args.bytes.now = c.blank_slot.auto.bytes ∙ size_filled in
    omega (arith, size_after, known_size c.args.bytes.now c.requires)

pub shape_of-bytes : goal.shape_of-bytes
shape_of-bytes c =
    let size_filled : length c.write_slot.new.bytes ≡ length c.args.bytes.now = c.write_slot.auto.bytes in
    let size_after : length c.blank_slot.new.bytes ≡ length c.args.bytes.now = c.blank_slot.auto.bytes ∙ size_filled in
    length-set c.blank_slot.new.bytes 0 _ ∙ size_after

pub returns : goal.returns
returns c =
    let all_bytes : AllBytes c.args.bytes.now = λ i. (c.slice_known-1.given i).fits in
    let found : FoundSlot c.args.bytes.now c.args.key c.find_slot-at.result = record { known = c.requires; place = c.find_slot-at.ensures } in
    let bs = c.args.bytes.now in
    clear_seen bs all_bytes c.requires c.args.key _
    (clear_moved found all_bytes (get_or bs 0 0 - 1) c.read_slot-e.result c.write_slot.new.bytes c.blank_slot.new.bytes
    c.if-n-at.false (omega (arith, c.if-n-at.false)) c.read_slot-e.ensures c.write_slot.ensures.bytes_after c.blank_slot.ensures)
