-- The writes, and nothing to send. Assumes nothing.
use mathlib.Core.Path.{ap, ◌∙◌}
use lib.ListN.{length}
use Rattle.frame.specs.declared.answer.Refusal.TheVariants.{NothingToSend}
use Rattle.frame.specs.Answer.{refused}
use Rattle.write.specs.Write.{write_silently}
use Rattle.frame.proofs.Outcome.{refused_with}
use Rattle.write.proofs.attributes.write_attributes_no_response.Goals as goal

pub returns : goal.returns
unfolding write_silently
returns c =
    let n = length c.args.reply.now in
    let y = c.refuse in
    refused_with y.result y.new.reply n NothingToSend c.apply_write_records.new.store y.ensures
    ∙ ap (refused n NothingToSend) c.apply_write_records.ensures
