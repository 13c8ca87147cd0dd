-- The codes, to an input of their number. Assumes nothing.
use mathlib.Core.Path.{sym, ◌∙◌}
use borrow.Author.Tests.{not-true, not-false}
use Rattle.replay.proofs.Matches.{pointwise_same}
use Rattle.replay.proofs.Says.{names_says, names_other}
use Rattle.replay.proofs.names.of_names.Goals as goal

pub returns-then-ne : goal.returns-then-ne
returns-then-ne c =
    names_other c.args.input.now c.args.held.now (sym (pointwise_same _ _) ∙ not-true _ (sym c.ne.ensures ∙ c.if-ne.true))

pub returns : goal.returns
returns c =
    names_says c.args.input.now c.args.held.now (sym (pointwise_same _ _) ∙ not-false _ (sym c.ne.ensures ∙ c.if-ne.false)) _ c.codes.ensures _ (c.eq.ensures ∙ pointwise_same _ _)
