-- The slot that the scan came to is written over, or the one behind the last, and then the count is one more. Assumes nothing.
use Rattle.std.specs.Prelude.{false, true}
use native.Mathlib.Omega.{arith}
use mathlib.Core.Path.{◌≡◌, ◌∙◌}
use lib.ListN.{length, length-set}
use Rattle.types.specs.Number.{AllBytes}
use Rattle.reporting.specs.Entries.{fresh}
use Rattle.reporting.specs.Claims.RoundTrip.{Clean}
use Rattle.reporting.proofs.CarriageLoops.{known_size}
use Rattle.reporting.proofs.Lending.{FoundSlot, fresh_clean, configure_full, configure_new, configure_old, configure_seen}
use Rattle.reporting.proofs.held.configure_in.Goals as goal

pub bounds-bytes-0 : goal.bounds-bytes-0
bounds-bytes-0 c = omega (arith, known_size c.args.bytes.now c.requires)

pub overflow_cast-n : goal.overflow_cast-n
overflow_cast-n c = omega (arith, c.slice_known-2-1.given 0)

pub returns-then-at-ge-LIMIT : goal.returns-then-at-ge-LIMIT
returns-then-at-ge-LIMIT c =
    let all_bytes : AllBytes c.args.bytes.now = λ i. (c.slice_known-1.given i).fits in
    let clean : Clean (fresh c.args.key c.args.config) = fresh_clean c.args.key c.args.config (omega arith) (omega arith) (omega arith) (omega arith) (omega arith) in
    let found : FoundSlot c.args.bytes.now c.args.key c.find_slot-at.result = record { known = c.requires; place = c.find_slot-at.ensures } in
    configure_seen c.args.bytes.now all_bytes c.requires c.args.key c.args.config false _ clean (configure_full found all_bytes _ c.if-at-ge-LIMIT.true)

pub write_slot-requires : goal.write_slot-requires
write_slot-requires c = omega (arith, c.if-at-ge-LIMIT.false, known_size c.args.bytes.now c.requires)

pub overflow_cast-bytes : goal.overflow_cast-bytes
overflow_cast-bytes c = omega (arith, c.if-at-ge-LIMIT.false, c.if-n-at.true)

pub bounds-bytes-0-then-n-at : goal.bounds-bytes-0-then-n-at
bounds-bytes-0-then-n-at c =
    let size_after : length c.write_slot.new.bytes ≡ length c.args.bytes.now = c.write_slot.auto.bytes in
    omega (arith, size_after, known_size c.args.bytes.now c.requires)

pub shape_of-bytes-then-n-at : goal.shape_of-bytes-then-n-at
shape_of-bytes-then-n-at c =
    let size_after : length c.write_slot.new.bytes ≡ length c.args.bytes.now = c.write_slot.auto.bytes in
    length-set c.write_slot.new.bytes 0 _ ∙ size_after

pub returns-then-n-at : goal.returns-then-n-at
returns-then-n-at c =
    let all_bytes : AllBytes c.args.bytes.now = λ i. (c.slice_known-1.given i).fits in
    let clean : Clean (fresh c.args.key c.args.config) = fresh_clean c.args.key c.args.config (omega arith) (omega arith) (omega arith) (omega arith) (omega arith) in
    let found : FoundSlot c.args.bytes.now c.args.key c.find_slot-at.result = record { known = c.requires; place = c.find_slot-at.ensures } in
    configure_seen c.args.bytes.now all_bytes c.requires c.args.key c.args.config true _ clean
    (configure_new found all_bytes _ _ c.fresh.result c.fresh.ensures c.if-n-at.true c.if-at-ge-LIMIT.false c.write_slot.ensures.bytes_after)

pub shape_of-bytes-else-n-at : goal.shape_of-bytes-else-n-at
shape_of-bytes-else-n-at c =
    let size_after : length c.write_slot.new.bytes ≡ length c.args.bytes.now = c.write_slot.auto.bytes in
    size_after

pub returns-else-n-at : goal.returns-else-n-at
returns-else-n-at c =
    let all_bytes : AllBytes c.args.bytes.now = λ i. (c.slice_known-1.given i).fits in
    let clean : Clean (fresh c.args.key c.args.config) = fresh_clean c.args.key c.args.config (omega arith) (omega arith) (omega arith) (omega arith) (omega arith) in
    let found : FoundSlot c.args.bytes.now c.args.key c.find_slot-at.result = record { known = c.requires; place = c.find_slot-at.ensures } in
    configure_seen c.args.bytes.now all_bytes c.requires c.args.key c.args.config true _ clean
    (configure_old found all_bytes _ _ c.fresh.result c.fresh.ensures c.if-n-at.false c.write_slot.ensures.bytes_after)
