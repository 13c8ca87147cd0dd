-- Each turn keeps what is left of the list the whole. Assumes nothing.
use Rattle.std.specs.Prelude.{Err}
use Rattle.std.proofs.Common.{rules}
use mathlib.Core.Path.{◌≡◌, refl, sym, ◌∙◌}
use Rattle.report.proofs.Going.{going_first, going_more, going_ends, going_done}
use Rattle.report.proofs.report.report_records.Goals as goal

pub loop-id-init : goal.loop-id-init
loop-id-init c = (refl, λ head w. going_first _ _ _ _ _ _ w)

pub returns-in_err-out : goal.returns-in_err-out
returns-in_err-out c =
    let kept : c.from_residual.result ≡ Err c.in_err-out.field-0.0 = search rules in
    λ head w. rw (kept ∙ sym c.in_err-out.was) (going_ends _ _ _ _ _ _ _ (c.loop-id.invariant.1 head w) c.loop-id.invariant.0 c.loop-id-test.true _ _ c.report_one.ensures _ c.in_err-out.was)

pub loop-id-preserved : goal.loop-id-preserved
loop-id-preserved c = (c.report_one.auto.frame ∙ c.loop-id.invariant.0, λ head w. going_more _ _ _ _ _ _ _ (c.loop-id.invariant.1 head w) c.loop-id.invariant.0 c.loop-id-test.true _ _ c.report_one.ensures _ c.in_ok-out.was)

pub returns : goal.returns
returns c = λ head w. going_done _ _ _ _ _ _ _ (c.loop-id.invariant.1 head w) c.loop-id.invariant.0 c.loop-id-test.false
