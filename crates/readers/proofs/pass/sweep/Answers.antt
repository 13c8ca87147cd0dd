-- What lies behind and what lies ahead are all; each turn moves on. Assumes nothing.
use mathlib.Core.Path.{◌≡◌, ◌∙◌}
use native.Mathlib.Omega.{arith}
use Rattle.std.proofs.Common.{rules}
use Rattle.std.specs.Prelude.{Err}
use Rattle.readers.proofs.Lengths.{advancing}
use Rattle.readers.proofs.Sweeping.{passed_none, passed_all, passed_refused, passed_ahead, passed_here, passed_on}
use Rattle.readers.proofs.pass.sweep.Goals as goal
use Rattle.readers.proofs.pass.sweep.Goals.{then-count-k, else-count-k}

pub loop-at-init : goal.loop-at-init
loop-at-init c = passed_none _ _ _ _

pub overflow_add-at : goal.overflow_add-at
overflow_add-at c =
    omega (arith, passed_ahead _ _ _ _ _ _ _ c.loop-at.invariant _ c.record_length.ensures c.loop-at-test.true (advancing _) _ c.in_ok-size.was)

pub overflow_add-count : goal.overflow_add-count
overflow_add-count c =
    let few = c.loop-at.invariant.few in
    omega (arith, few, c.loop-at-test.true)

pub loop-at-smaller : goal.loop-at-smaller
loop-at-smaller c =
    let h = c.loop-at-test.true in
    omega (arith, h, passed_ahead _ _ _ _ _ _ _ c.loop-at.invariant _ c.record_length.ensures h (advancing _) _ c.in_ok-size.was)

pub loop-at-preserved : goal.loop-at-preserved
loop-at-preserved c =
    let x = c.loop-at.invariant in
    let g = c.record_length.ensures in
    let h = c.loop-at-test.true in
    elim c.if-count-k.branch [
      | then-count-k w ↦ passed_here _ _ _ _ _ _ _ x _ g h (advancing _) _ c.in_ok-size.was _ w.if-count-k.true w.kth-is
      | else-count-k w ↦ passed_on _ _ _ _ _ _ _ x _ g h (advancing _) _ c.in_ok-size.was _ w.if-count-k.false w.kth-is
    ]

pub returns-in_err-size : goal.returns-in_err-size
returns-in_err-size c =
    let kept : c.from_residual.result ≡ Err c.in_err-size.field-0.0 = search rules in
    kept ∙ passed_refused _ _ _ _ _ _ _ c.loop-at.invariant _ c.record_length.ensures c.loop-at-test.true _ c.in_err-size.was

pub returns : goal.returns
returns c = passed_all _ _ _ _ _ _ _ c.loop-at.invariant c.loop-at-test.false
