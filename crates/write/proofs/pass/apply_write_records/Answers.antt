-- What is left of the walk is the whole; nothing stops it but a record that cannot be read. Assumes nothing.
use Rattle.std.proofs.Common.{rules}
use Rattle.frame.specs.Status.{status_code}
use Rattle.store.specs.Write.{write_of}
use Rattle.write.specs.Reply.{failure}
use Rattle.write.specs.Write.{written, written_all}
use Rattle.write.proofs.Turns.{silent_more, silent_cut, silent_end}
use Rattle.write.proofs.pass.apply_write_records.Goals as goal

pub returns-in_default : goal.returns-in_default
unfolding written written_all
returns-in_default c =
    silent_cut c.loop-at.invariant c.loop-at-test.true c.record_turn.new.store (c.in_default.ensures.took (write_of 8) (record { of_call = λ s name t v status after e. search rules }))

pub loop-at-preserved : goal.loop-at-preserved
loop-at-preserved c =
    let x = c.in-Some.step in
    silent_more c.loop-at.invariant c.loop-at-test.true x.end x.status (failure (status_code x.status) x.id.0) c.record_turn.new.store
    (c.in-Some.ensures.took (write_of 8) (record { of_call = λ s name t v status after e. search rules }))

pub returns : goal.returns
unfolding written written_all
returns c = silent_end c.loop-at.invariant c.loop-at-test.false
