-- What is left of the walk is the whole, whatever is done with a record. Assumes nothing.
use mathlib.Core.Path.{◌≡◌}
use lib.ListN.{length}
use Rattle.std.specs.Prelude.{Err}
use Rattle.std.proofs.Common.{rules}
use Rattle.frame.specs.Status.{status_code}
use Rattle.frame.specs.declared.failures.Unfinished.{Unfinished}
use Rattle.frame.proofs.Passes.{going_first, going_done, going_cut, going_more, going_stop}
use Rattle.write.specs.Request.{record_at, records_at}
use Rattle.write.specs.Reply.{failure}
use Rattle.write.specs.Write.{listing}
use Rattle.write.specs.Inside.{by_name}
use Rattle.write.proofs.Items.{ahead}
use Rattle.write.proofs.pass.pass_records.Goals as goal

pub loop-at-init : goal.loop-at-init
loop-at-init g c = λ does by. going_first (listing (by_name does c.args.request)) (record_at c.args.body.now) (length c.args.body.now) c.args.start c.args.store.now c.args.reply.now

pub returns-in_err-step : goal.returns-in_err-step
unfolding records_at
returns-in_err-step g c = λ does by.
    let why : c.in_err-step.field-0.0 ≡ Unfinished.Cut = cc (rw c.in_err-step.ensures.ok_part at c.in_err-step.ensures.value) in
    let kept : c.from_residual.result ≡ Err c.in_err-step.field-0.0 = search rules in
    rw (kept, why) (going_cut (c.loop-at.invariant does by) c.loop-at-test.true c.record_turn.new.store c.loop-at.reply (rw c.in_err-step.ensures.ok_part at (c.record_turn.ensures.took does by)))

pub returns-in_err-out : goal.returns-in_err-out
unfolding records_at
returns-in_err-out g c = λ does by.
    let n = c.note in
    let x = c.in_ok-step.step in
    let why : c.in_err-out.field-0.0 ≡ Unfinished.Full = cc (rw c.in_err-out.ensures.ok_part at c.in_err-out.ensures.value) in
    let kept : c.from_residual-in_err-out.result ≡ Err c.in_err-out.field-0.0 = search rules in
    rw (kept, why) (going_stop (c.loop-at.invariant does by) c.loop-at-test.true (ahead c.args.body.now) x.end x.status (failure (status_code x.status) x.id.0) c.record_turn.new.store
    (rw c.in_ok-step.ensures.ok_part at (c.record_turn.ensures.took does by)) n.result n.new.reply n.ensures c.in_err-out.ensures.ok_part)

pub loop-at-preserved : goal.loop-at-preserved
loop-at-preserved g c = λ does by.
    let n = c.note in
    let x = c.in_ok-step.step in
    going_more (c.loop-at.invariant does by) c.loop-at-test.true (ahead c.args.body.now) x.end x.status (failure (status_code x.status) x.id.0) c.record_turn.new.store
    (rw c.in_ok-step.ensures.ok_part at (c.record_turn.ensures.took does by)) n.result n.new.reply n.ensures c.in_ok-out.out c.in_ok-out.ensures.ok_part n.auto.reply

pub returns : goal.returns
unfolding records_at
returns g c = λ does by. going_done (c.loop-at.invariant does by) c.loop-at-test.false
