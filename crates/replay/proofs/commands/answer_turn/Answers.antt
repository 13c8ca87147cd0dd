-- Four ways: the last answer again or a new one, found or not. Assumes nothing.
use mathlib.Core.Path.{sym, subst, ◌∙◌}
use Rattle.std.specs.Prelude.{Option}
use Rattle.frame.specs.Answer.{seen}
use Rattle.replay.specs.Commands.{answer_says, next}
use Rattle.replay.specs.Inside.{Turns}
use Rattle.replay.specs.declared.commands.Place.{Place}
use Rattle.replay.proofs.Answers.{turn_again, turn_again_off, turn_new, turn_new_off}
use Rattle.replay.proofs.commands.answer_turn.Goals as goal

pub returns-in_err-at : goal.returns-in_err-at
returns-in_err-at c =
    λ last lies. subst (λ (r : Option Place). Turns c.args.held.now c.args.place (next last (answer_says c.args.before.now (seen c.args.answer c.args.reply.now c.args.after.now))) (answer_says c.args.before.now (seen c.args.answer c.args.reply.now c.args.after.now)) r) (sym c.from_residual.ensures)
    (turn_again_off c.args.held.now c.args.place _ last lies (sym c.is_again.ensures ∙ c.if-is_again.true) (sym c.match_run.ensures ∙ c.in_err-at.was))

pub returns-then-is_again : goal.returns-then-is_again
returns-then-is_again c =
    λ last lies. turn_again c.args.held.now c.args.place _ last lies _ (sym c.is_again.ensures ∙ c.if-is_again.true) (sym c.match_run.ensures ∙ c.in_ok-at.was)

pub returns-in_err-end : goal.returns-in_err-end
returns-in_err-end c =
    λ last lies. subst (λ (r : Option Place). Turns c.args.held.now c.args.place (next last (answer_says c.args.before.now (seen c.args.answer c.args.reply.now c.args.after.now))) (answer_says c.args.before.now (seen c.args.answer c.args.reply.now c.args.after.now)) r) (sym c.from_residual-in_err-end.ensures)
    (turn_new_off c.args.held.now c.args.place _ last lies (sym c.is_again.ensures ∙ c.if-is_again.false) (sym c.match_answer.ensures ∙ c.in_err-end.was))

pub returns : goal.returns
returns c =
    λ last lies. turn_new c.args.held.now c.args.place _ last lies _ (sym c.is_again.ensures ∙ c.if-is_again.false) (sym c.match_answer.ensures ∙ c.in_ok-end.was)
