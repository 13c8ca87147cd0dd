-- The loop's invariant: the scan has passed i slots, none of them the key's. Assumes nothing.
use native.Mathlib.Omega.{arith}
use mathlib.Core.Path.{sym, ◌∙◌}
use Rattle.reporting.proofs.CarriageLoops.{known_size, known_count}
use Rattle.reporting.proofs.Lending.{passed_none, passed_all, passed_here, passed_more}
use Rattle.reporting.proofs.held.TableRef.find_slot.Goals as goal

pub bounds-self-0 : goal.bounds-self-0
bounds-self-0 c = omega (arith, known_size c.args.self.bytes.now c.args.self.whole)

pub loop-i-init : goal.loop-i-init
loop-i-init c = passed_none c.args.key c.args.self.bytes.now

pub overflow_mul-i : goal.overflow_mul-i
overflow_mul-i c = omega (arith, known_count c.args.self.bytes.now c.args.self.whole)

pub overflow_add-i : goal.overflow_add-i
overflow_add-i c = omega (arith, known_count c.args.self.bytes.now c.args.self.whole)

pub slot_is_of-requires : goal.slot_is_of-requires
slot_is_of-requires c = omega (arith, known_count c.args.self.bytes.now c.args.self.whole, known_size c.args.self.bytes.now c.args.self.whole)

pub overflow_add-i-in-loop-i : goal.overflow_add-i-in-loop-i
overflow_add-i-in-loop-i c = omega (arith, known_count c.args.self.bytes.now c.args.self.whole)

pub loop-i-preserved : goal.loop-i-preserved
loop-i-preserved c =
    let a = c.args in
    let l = c.loop-i in
    passed_more a.key a.self.bytes.now l.i l.invariant c.if-n-i.false (sym c.slot_is_of.ensures ∙ c.if-slot_is_of.false)

pub returns-then-n-i : goal.returns-then-n-i
returns-then-n-i c =
    let a = c.args in
    let l = c.loop-i in
    passed_all a.key a.self.bytes.now l.i l.invariant c.if-n-i.true

pub returns-then-slot_is_of : goal.returns-then-slot_is_of
returns-then-slot_is_of c =
    let a = c.args in
    let l = c.loop-i in
    passed_here a.key a.self.bytes.now l.i l.invariant c.if-n-i.false (sym c.slot_is_of.ensures ∙ c.if-slot_is_of.true)
