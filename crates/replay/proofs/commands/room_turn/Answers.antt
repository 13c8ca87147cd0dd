-- The store is laid into the buffer, the command runs, and its answer is compared. Assumes nothing.
use lib.ListN.{length}
use Rattle.frame.specs.Answer.{seen}
use Rattle.replay.proofs.Says.{filled}
use Rattle.replay.proofs.Answers.{turned_with}
use Rattle.replay.proofs.commands.room_turn.Goals as goal

pub returns : goal.returns
returns c =
    let a = c.args in
    let k = c.call-answer in
    turned_with a.held.now a.place c.answer_turn.result a.command a.request a.body.now a.store.now c.put_run.new.buffer (length a.reply.now) (seen k.result k.new.reply k.new.store) (filled a.copy.now a.store.now _ _ c.requires c.put_run.ensures) k.ensures c.answer_turn.ensures
