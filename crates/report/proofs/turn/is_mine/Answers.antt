-- The pass that is asked for. Assumes nothing.
use mathlib.Core.Path.{sym, ap, ◌∙◌}
use mathlib.Core.Bool.{not, cond}
use Rattle.report.specs.Round.{above}
use Rattle.report.proofs.turn.is_mine.Goals as goal

pub returns-then-upper : goal.returns-then-upper
returns-then-upper c = c.is_above-over.ensures ∙ sym (ap (λ b. cond b (above c.args.last c.args.a.name.0) (not (above c.args.last c.args.a.name.0))) c.if-upper.true)

pub returns : goal.returns
returns c = ap not c.is_above-over.ensures ∙ sym (ap (λ b. cond b (above c.args.last c.args.a.name.0) (not (above c.args.last c.args.a.name.0))) c.if-upper.false)
