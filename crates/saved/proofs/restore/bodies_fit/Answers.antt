-- After i turns the first i offsets follow on and the first i marks are 0 or 1, and the others decide. Assumes nothing.
use Prim.Native.Nat.{ℕ}
use mathlib.Core.Path.{sym, ap, ◌∙◌}
use mathlib.Core.Bool.{Bool, ◌&&◌, and-false}
use lib.ListN.{get_or, drop}
use Rattle.reporting.specs.Carried.{numbers_in}
use Rattle.saved.specs.Saved.{form_of}
use Rattle.saved.proofs.Forms.{follows, all_marks_ok, follow_more, follow_not, follow_done, marks_more, marks_not, marks_done}
use Rattle.saved.proofs.restore.bodies_fit.Goals as goal

pub returns-then-offset-at : goal.returns-then-offset-at
returns-then-offset-at c =
    let a = c.args in
    ap (λ (b : Bool). b && all_marks_ok a.with_marks a.saved.now a.n)
    (follow_not a.with_marks a.saved.now a.n c.loop-i.i c.loop-i.invariant.offsets c.loop-i-test.true c.offset_in-offset.result c.offset_in-offset.ensures (λ q. c.if-offset-at.true (q ∙ sym c.body_at-at.ensures)))

pub returns-then-mark-gt1 : goal.returns-then-mark-gt1
returns-then-mark-gt1 c =
    let a = c.args in
    sym (and-false (follows a.with_marks a.saved.now a.n))
    ∙ ap (λ (b : Bool). follows a.with_marks a.saved.now a.n && b)
    (marks_not a.with_marks a.saved.now a.n c.loop-i.i c.loop-i.invariant.marks c.loop-i-test.true c.mark_in-mark.result (c.mark_in-mark.ensures ∙ ap (λ (p : ℕ). get_or (numbers_in (form_of a.with_marks).bodies (drop p a.saved.now)) 3 0) c.body_at-at.ensures) c.if-mark-gt1.true)

pub loop-i-preserved : goal.loop-i-preserved
loop-i-preserved c =
    let a = c.args in
    record {
      offsets = follow_more a.with_marks a.saved.now a.n c.loop-i.i c.loop-i.invariant.offsets c.loop-i-test.true c.offset_in-offset.result c.offset_in-offset.ensures (c.if-offset-at.false ∙ c.body_at-at.ensures);
      marks = marks_more a.with_marks a.saved.now a.n c.loop-i.i c.loop-i.invariant.marks c.loop-i-test.true c.mark_in-mark.result (c.mark_in-mark.ensures ∙ ap (λ (p : ℕ). get_or (numbers_in (form_of a.with_marks).bodies (drop p a.saved.now)) 3 0) c.body_at-at.ensures) c.if-mark-gt1.false;
    }

pub returns : goal.returns
returns c =
    let a = c.args in
    λ j. follow_done a.with_marks a.saved.now a.n c.loop-i.i c.loop-i.invariant.offsets c.loop-i-test.false j && marks_done a.with_marks a.saved.now a.n c.loop-i.i c.loop-i.invariant.marks c.loop-i-test.false j
