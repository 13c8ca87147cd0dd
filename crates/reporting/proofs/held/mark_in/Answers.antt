-- The slot that the scan came to is written over. Assumes nothing.
use native.Mathlib.Omega.{arith}
use mathlib.Core.Path.{ap, ◌∙◌}
use mir.Facts.{to_z-of_z}
use Rattle.types.specs.Number.{AllBytes}
use Rattle.reporting.specs.Entries.{mark_e}
use Rattle.reporting.proofs.CarriageLoops.{known_size, known_count}
use Rattle.reporting.proofs.Lending.{FoundSlot, mark_absent, mark_is, mark_seen}
use Rattle.reporting.proofs.held.mark_in.Goals as goal

pub bounds-bytes-0 : goal.bounds-bytes-0
bounds-bytes-0 c = omega (arith, known_size c.args.bytes.now c.requires)

pub overflow_cast-n : goal.overflow_cast-n
overflow_cast-n c = omega (arith, c.slice_known-2-1.given 0)

pub returns-then-n-at : goal.returns-then-n-at
returns-then-n-at c =
    let all_bytes : AllBytes c.args.bytes.now = λ i. (c.slice_known-1.given i).fits in
    let found : FoundSlot c.args.bytes.now c.args.key c.find_slot-at.result = record { known = c.requires; place = c.find_slot-at.ensures } in
    mark_seen c.args.bytes.now all_bytes c.requires c.args.key _ _ _ c.ranges.time.fits c.ranges.value.sfits (mark_absent found all_bytes _ _ c.if-n-at.true)

pub overflow_mul-place : goal.overflow_mul-place
overflow_mul-place c = omega (arith, known_count c.args.bytes.now c.requires)

pub overflow_add-place : goal.overflow_add-place
overflow_add-place c = omega (arith, known_count c.args.bytes.now c.requires)

pub read_slot-e-requires : goal.read_slot-e-requires
read_slot-e-requires c = omega (arith, known_count c.args.bytes.now c.requires, known_size c.args.bytes.now c.requires)

pub write_slot-requires : goal.write_slot-requires
write_slot-requires c = omega (arith, known_count c.args.bytes.now c.requires, known_size c.args.bytes.now c.requires)

pub returns : goal.returns
returns c =
    let all_bytes : AllBytes c.args.bytes.now = λ i. (c.slice_known-1.given i).fits in
    let found : FoundSlot c.args.bytes.now c.args.key c.find_slot-at.result = record { known = c.requires; place = c.find_slot-at.ensures } in
    let m = c.mark-marked in
    mark_seen c.args.bytes.now all_bytes c.requires c.args.key _ _ _ c.ranges.time.fits c.ranges.value.sfits
    (mark_is found all_bytes _ m.result c.args.time c.args.value _ (to_z-of_z c.ranges.value)
    (m.ensures ∙ ap (mark_e c.args.time _) c.read_slot-e.ensures) c.if-n-at.false c.write_slot.ensures.bytes_after)
