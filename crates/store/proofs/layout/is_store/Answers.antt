-- The conditions on the attributes that are left are those on all of them. Assumes nothing.
use native.Mathlib.Omega.{arith}
use Rattle.store.proofs.Layouts.{left_start, left_many, left_cut, left_exact, left_over, left_bad, left_more}
use Rattle.store.proofs.layout.is_store.Goals as goal

pub returns-then-n-gt64 : goal.returns-then-n-gt64
returns-then-n-gt64 c = left_many c.args.s.now (omega (arith, c.count_of-n.ensures))

pub returns-then-s-from : goal.returns-then-s-from
returns-then-s-from c = left_cut c.args.s.now (omega (arith, c.count_of-n.ensures, c.if-s-from.true))

pub loop-i-init : goal.loop-i-init
loop-i-init c = record { fits = omega arith; rest = left_start c.args.s.now c.count_of-n.result c.count_of-n.ensures c.if-n-gt64.false }

pub returns-then-not-entry_ok : goal.returns-then-not-entry_ok
returns-then-not-entry_ok c =
    let l = c.loop-i in
    left_bad _ _ l.i l.least l.from l.invariant.rest _ c.attribute_in-a.ensures (omega arith) c.entry_ok.ensures (c.if-not-entry_ok.true)

pub loop-i-preserved : goal.loop-i-preserved
loop-i-preserved c =
    let l = c.loop-i in
    record {
      fits = omega arith;
      rest = left_more _ _ l.i l.least l.from l.invariant.rest _ c.attribute_in-a.ensures (omega arith) c.entry_ok.ensures c.if-not-entry_ok.false;
    }

pub returns-then-from-s : goal.returns-then-from-s
returns-then-from-s c =
    let l = c.loop-i in
    left_exact _ _ l.i l.least l.from l.invariant.rest (omega arith) c.if-from-s.true

pub returns-else-from-s : goal.returns-else-from-s
returns-else-from-s c =
    let l = c.loop-i in
    left_over _ _ l.i l.least l.from l.invariant.rest (omega arith) c.if-from-s.false
