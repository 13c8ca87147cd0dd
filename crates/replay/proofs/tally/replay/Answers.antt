-- Each line leaves the same to count. Assumes nothing.
use Rattle.std.proofs.Common.{◌∙◌, Some, sym, ap, subst}
use Rattle.replay.specs.Inside.{parts}
use Rattle.replay.specs.declared.tally.Tally.{Tally}
use Rattle.replay.proofs.Words.{cut_less}
use Rattle.replay.proofs.Counts.{Counting, counting_first, counting_more}
use Rattle.replay.proofs.tally.replay.Goals as goal

pub loop-line-init : goal.loop-line-init
loop-line-init c = subst (λ (t : Tally). Counting c.args.list.now t c.args.list.now) (sym c.new-t.ensures) (counting_first c.args.list.now)

pub loop-line-smaller : goal.loop-line-smaller
loop-line-smaller c = cut_less _ _ _ _ (sym c.split_once.ensures ∙ ap parts c.in-Some.is)

pub loop-line-preserved : goal.loop-line-preserved
loop-line-preserved c =
    subst (λ (t : Tally). Counting c.args.list.now t c.in-Some.after.now) (sym c.with-t.ensures)
    (counting_more c.args.list.now _ _ c.loop-line.invariant _ _ (sym c.split_once.ensures ∙ ap parts c.in-Some.is) _ c.judge.ensures _ _ (c.in-Some-Case.is ∙ ap Some c.in-Some-Case.field-0-is))
