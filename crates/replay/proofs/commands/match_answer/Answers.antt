-- Three bytes, the reply, the store. Assumes nothing.
use mathlib.Core.Path.{◌≡◌, sym, ap, ◌∙◌}
use lib.ListN.{take}
use Rattle.replay.specs.Inside.{matched}
use Rattle.replay.proofs.Answers.{answer_first, answer_second, answer_third}
use Rattle.replay.proofs.commands.match_answer.Goals as goal

pub returns-in_err-second : goal.returns-in_err-second
returns-in_err-second c =
    let a = c.args in
    c.from_residual.ensures ∙ answer_first a.held.now a.at a.answer a.reply.now a.before.now a.after.now c.reply_len-n.result _ _ c.reply_len-n.ensures c.answer_number.ensures c.low.ensures
    (sym c.match_run.ensures ∙ c.in_err-second.was)

pub returns-in_err-third : goal.returns-in_err-third
returns-in_err-third c =
    let reply : c.match_run-2.result ≡ matched c.args.held.now c.in_ok-second.second (take c.reply_len-n.result c.args.reply.now) = c.match_run-2.ensures ∙ ap (matched c.args.held.now c.in_ok-second.second) c.part.ensures in
    let a = c.args in
    c.from_residual-in_err-third.ensures ∙ answer_second a.held.now a.at a.answer a.reply.now a.before.now a.after.now c.reply_len-n.result _ _ c.reply_len-n.ensures c.answer_number.ensures c.low.ensures
    _ (sym c.match_run.ensures ∙ c.in_ok-second.was) (sym reply ∙ c.in_err-third.was)

pub returns : goal.returns
returns c =
    let reply : c.match_run-2.result ≡ matched c.args.held.now c.in_ok-second.second (take c.reply_len-n.result c.args.reply.now) = c.match_run-2.ensures ∙ ap (matched c.args.held.now c.in_ok-second.second) c.part.ensures in
    let a = c.args in
    answer_third a.held.now a.at a.answer a.reply.now a.before.now a.after.now c.reply_len-n.result _ _ c.reply_len-n.ensures c.answer_number.ensures c.low.ensures
    _ (sym c.match_run.ensures ∙ c.in_ok-second.was) _ (sym reply ∙ c.in_ok-third.was) _ c.match_store.ensures
