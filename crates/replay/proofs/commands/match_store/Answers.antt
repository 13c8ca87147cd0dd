-- One byte where the store is as it was, else a byte and the store. Assumes nothing.
use mathlib.Core.Path.{◌≡◌, sym, ap, ◌∙◌}
use mathlib.Core.List.{[], ◌∷◌}
use Rattle.replay.specs.Commands.{store_says}
use Rattle.replay.specs.Inside.{matched}
use Rattle.replay.proofs.Matches.{pointwise_same, matched_on, matched_off}
use Rattle.replay.proofs.Answers.{store_same, store_other}
use Rattle.replay.proofs.commands.match_store.Goals as goal

pub returns-then-eq : goal.returns-then-eq
returns-then-eq c =
    c.match_run.ensures
    ∙ ap (matched c.args.held.now c.args.at) (sym (store_same c.args.before.now c.args.after.now (sym (c.eq.ensures ∙ pointwise_same _ _) ∙ c.if-eq.true)))

pub returns-in_err-next : goal.returns-in_err-next
returns-in_err-next c =
    let other : matched c.args.held.now c.args.at (1 ∷ c.args.after.now) ≡ matched c.args.held.now c.args.at (store_says c.args.before.now c.args.after.now) = ap (matched c.args.held.now c.args.at) (sym (store_other c.args.before.now c.args.after.now (sym (c.eq.ensures ∙ pointwise_same _ _) ∙ c.if-eq.false))) in
    c.from_residual.ensures ∙ sym (matched_off c.args.held.now c.args.at (1 ∷ []) c.args.after.now (sym c.match_run-2.ensures ∙ c.in_err-next.was)) ∙ other

pub returns : goal.returns
returns c =
    let other : matched c.args.held.now c.args.at (1 ∷ c.args.after.now) ≡ matched c.args.held.now c.args.at (store_says c.args.before.now c.args.after.now) = ap (matched c.args.held.now c.args.at) (sym (store_other c.args.before.now c.args.after.now (sym (c.eq.ensures ∙ pointwise_same _ _) ∙ c.if-eq.false))) in
    c.match_run-3.ensures
    ∙ sym (matched_on c.args.held.now c.args.at (1 ∷ []) c.args.after.now _ (sym c.match_run-2.ensures ∙ c.in_ok-next.was))
    ∙ other
