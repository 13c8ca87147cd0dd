-- The header, and the writes behind it. Assumes nothing.
use Rattle.std.specs.Prelude.{Err}
use mathlib.Core.Path.{◌≡◌}
use lib.ListN.{length}
use Rattle.frame.specs.declared.command_identifier.CommandIdentifier.TheVariants.{WriteAttributesResponse}
use Rattle.frame.specs.declared.answer.Refusal.TheVariants.{ReplyTooLong}
use Rattle.frame.specs.Failures.{performed}
use Rattle.frame.proofs.Passes.{headed_performs, performs}
use Rattle.store.specs.Write.{write_of}
use Rattle.write.specs.Request.{records}
use Rattle.write.specs.Write.{written, writing, write_attributes}
use Rattle.write.proofs.Turns.{some, unheaded}
use Rattle.std.proofs.Common.{rules}
use Rattle.write.proofs.attributes.write_attributes.Goals as goal

pub returns-in_err-start : goal.returns-in_err-start
unfolding write_attributes
returns-in_err-start c =
    let a = c.args in
    let b = c.begin_reply-begun in
    let n = length a.reply.now in
    let why : c.in_err-start.field-0.0 ≡ ReplyTooLong = cc (rw c.in_err-start.ensures.ok_part at c.in_err-start.ensures.value) in
    let kept : c.from_residual.result ≡ Err c.in_err-start.field-0.0 = search rules in
    rw (kept, why) (unheaded a.request WriteAttributesResponse a.store.now n b.result b.new.reply b.ensures (performed (writing 8 a.request) (records a.body.now) a.store.now n) c.in_err-start.ensures.ok_part)

pub returns : goal.returns
unfolding write_attributes written
returns c =
    let a = c.args in
    let b = c.begin_reply-begun in
    let f = c.pass_records-done in
    let y = c.conclude in
    let start = c.in_ok-start in
    headed_performs a.request WriteAttributesResponse a.store.now (length a.reply.now) b.result b.new.reply b.ensures (writing 8 a.request) (records a.body.now) start.start start.ensures.ok_part y.result f.new.store y.new.reply
    (performs (writing 8 a.request) some (records a.body.now) start.start a.store.now b.new.reply f.result f.new.store f.new.reply (f.ensures (write_of 8) (record { of_call = λ s name t v status after e. search rules })) f.auto.reply y.result y.new.reply y.ensures)
