-- What is left of the walk from the table's entries is the whole. Assumes nothing.
use Rattle.std.proofs.Common.{rules}
use Rattle.std.specs.Prelude.{Err}
use mathlib.Core.Path.{◌≡◌, refl, ◌∙◌, subst}
use native.Mathlib.Omega.{arith}
use Rattle.frame.specs.declared.failures.Unfinished.{Unfinished}
use Rattle.configure.specs.Inside.{Took, Turns}
use Rattle.configure.proofs.Items.{ahead}
use Rattle.configure.proofs.Turns.{goes_first, goes_done, goes_cut, goes_more, goes_stop}
use Rattle.configure.proofs.pass.configure_records.Goals as goal

pub loop-at-init : goal.loop-at-init
loop-at-init c = (refl, goes_first _ _ _ _ _ _ c.args.table.now.whole)

pub returns-in_err-turn-clause-run : goal.returns-in_err-turn-clause-run
returns-in_err-turn-clause-run c =
    let a = c.args in
    let why : c.in_err-turn.field-0.0 ≡ Unfinished.Cut = cc (rw c.in_err-turn.ensures.ok_part at c.in_err-turn.ensures.value) in
    let kept : c.from_residual.result ≡ Err Unfinished.Cut = search rules in
    rw kept (goes_cut c.loop-at.invariant.1 c.loop-at-test.true c.loop-at.reply (subst (Turns a.store.now a.request a.body.now c.loop-at.at) c.in_err-turn.ensures.ok_part c.configure_turn.ensures))

pub returns-in_err-out-clause-run : goal.returns-in_err-out-clause-run
returns-in_err-out-clause-run c =
    let a = c.args in
    let took : Took a.store.now a.request a.body.now c.loop-at.at c.in_ok-turn.turn.end c.in_ok-turn.turn.direction c.in_ok-turn.turn.id.0 c.in_ok-turn.turn.deed =
    subst (Turns a.store.now a.request a.body.now c.loop-at.at) c.in_ok-turn.ensures.ok_part c.configure_turn.ensures in
    let why : c.in_err-out.field-0.0 ≡ Unfinished.Full = cc (rw c.in_err-out.ensures.ok_part at c.in_err-out.ensures.value) in
    let kept : c.from_residual-in_err-out.result ≡ Err Unfinished.Full = search rules in
    rw kept (goes_stop c.loop-at.invariant.1 c.loop-at-test.true _ _ _ _ took _ _ c.done-status.ensures.settled _ _ c.note.ensures c.in_err-out.ensures.ok_part)

pub loop-at-smaller : goal.loop-at-smaller
loop-at-smaller c =
    let a = c.args in
    let took : Took a.store.now a.request a.body.now c.loop-at.at c.in_ok-turn.turn.end c.in_ok-turn.turn.direction c.in_ok-turn.turn.id.0 c.in_ok-turn.turn.deed =
    subst (Turns a.store.now a.request a.body.now c.loop-at.at) c.in_ok-turn.ensures.ok_part c.configure_turn.ensures in
    omega (arith, ahead a.body.now c.loop-at.at took.taken c.in_ok-turn.turn.end took.is, c.loop-at-test.true)

pub loop-at-preserved : goal.loop-at-preserved
loop-at-preserved c =
    let a = c.args in
    let took : Took a.store.now a.request a.body.now c.loop-at.at c.in_ok-turn.turn.end c.in_ok-turn.turn.direction c.in_ok-turn.turn.id.0 c.in_ok-turn.turn.deed =
    subst (Turns a.store.now a.request a.body.now c.loop-at.at) c.in_ok-turn.ensures.ok_part c.configure_turn.ensures in (
      c.done-status.ensures.same_reference ∙ c.loop-at.invariant.0,
      goes_more c.loop-at.invariant.1 c.loop-at-test.true _ _ _ _ took _ _ c.done-status.ensures.settled _ _ c.note.ensures _ c.in_ok-out.ensures.ok_part c.note.auto.reply,
    )

pub returns-clause-run : goal.returns-clause-run
returns-clause-run c = goes_done c.loop-at.invariant.1 c.loop-at-test.false
