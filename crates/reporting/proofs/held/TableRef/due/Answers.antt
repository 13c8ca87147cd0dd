-- The answer of the slot that the scan came to. Assumes nothing.
use native.Mathlib.Omega.{arith}
use mir.Facts.{to_z-of_z}
use Rattle.reporting.proofs.CarriageLoops.{known_size, known_count}
use Rattle.reporting.proofs.Lending.{FoundSlot, due_absent, due_is}
use Rattle.reporting.proofs.held.TableRef.due.Goals as goal

pub bounds-self-0 : goal.bounds-self-0
bounds-self-0 c = omega (arith, known_size c.args.self.bytes.now c.args.self.whole)

pub overflow_mul-at : goal.overflow_mul-at
overflow_mul-at c = omega (arith, known_count c.args.self.bytes.now c.args.self.whole)

pub overflow_add-at : goal.overflow_add-at
overflow_add-at c = omega (arith, known_count c.args.self.bytes.now c.args.self.whole)

pub read_slot-e-requires : goal.read_slot-e-requires
read_slot-e-requires c = omega (arith, known_count c.args.self.bytes.now c.args.self.whole, known_size c.args.self.bytes.now c.args.self.whole)

pub returns-then-n-at : goal.returns-then-n-at
returns-then-n-at c =
    let found : FoundSlot c.args.self.bytes.now c.args.key c.find_slot-at.result = record { known = c.args.self.whole; place = c.find_slot-at.ensures } in
    due_absent found _ _ c.if-n-at.true

pub returns : goal.returns
returns c =
    let found : FoundSlot c.args.self.bytes.now c.args.key c.find_slot-at.result = record { known = c.args.self.whole; place = c.find_slot-at.ensures } in
    due_is found c.read_slot-e.result _ _ _ _ c.read_slot-e.ensures (to_z-of_z c.ranges.value) c.if-n-at.false c.due.ensures
