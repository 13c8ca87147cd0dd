-- `configuration::configuration_records` meets its contract: each turn keeps the walk the same. Assumes nothing.
use mathlib.Core.Path.{◌≡◌, refl, sym, ap, ◌∙◌}
use native.Mathlib.Omega.{arith}
use Rattle.frame.specs.Walk.{item}
use Rattle.frame.proofs.Shortened.{going_first, going_more, going_stop, going_cut, going_done}
use Rattle.configure.specs.Request.{asked, asked_at}
use Rattle.configure.specs.Inside.{asked_item}
use Rattle.configure.proofs.Asked.{asked_ahead}
use Rattle.configure.proofs.configuration.configuration_records.Goals as goal

pub loop-at-init : goal.loop-at-init
loop-at-init c = (refl, λ head w. going_first _ _ _ _ _ _ _ _ w)

pub returns-in_default : goal.returns-in_default
returns-in_default c =
    λ head w. c.refuse.ensures ∙ going_cut _ _ _ _ _ _ _ _ _ (c.loop-at.invariant.1 head w) c.loop-at.invariant.0 c.loop-at-test.true (ap asked_item (sym c.in_default.is) ∙ c.next_asked.ensures)

pub returns-in_default-put : goal.returns-in_default-put
returns-in_default-put c =
    let read_asked : item (asked c.in-Some.asked.direction c.in-Some.asked.id.0) c.in-Some.asked.end ≡ asked_at c.args.body.now c.loop-at.at = ap asked_item (sym c.in-Some.is) ∙ c.next_asked.ensures in
    λ head w. going_stop _ _ _ _ _ _ _ _ _ (c.loop-at.invariant.1 head w) c.loop-at.invariant.0 (asked_ahead _) c.loop-at-test.true _ _ read_asked _ _ c.configuration_turn-put.ensures c.in_default-put.is

pub loop-at-smaller : goal.loop-at-smaller
loop-at-smaller c =
    let read_asked : item (asked c.in-Some.asked.direction c.in-Some.asked.id.0) c.in-Some.asked.end ≡ asked_at c.args.body.now c.loop-at.at = ap asked_item (sym c.in-Some.is) ∙ c.next_asked.ensures in
    let h = asked_ahead c.args.body.now c.loop-at.at _ c.in-Some.asked.end (sym read_asked) in
    omega (arith, c.loop-at-test.true, h)

pub loop-at-preserved : goal.loop-at-preserved
loop-at-preserved c =
    let read_asked : item (asked c.in-Some.asked.direction c.in-Some.asked.id.0) c.in-Some.asked.end ≡ asked_at c.args.body.now c.loop-at.at = ap asked_item (sym c.in-Some.is) ∙ c.next_asked.ensures in (
      c.configuration_turn-put.auto.reply ∙ c.loop-at.invariant.0,
      λ head w. going_more _ _ _ _ _ _ _ _ _ (c.loop-at.invariant.1 head w) c.loop-at.invariant.0 (asked_ahead _) c.loop-at-test.true _ _ read_asked _ _ c.configuration_turn-put.ensures _ c.in-Some-put.is,
    )

pub returns : goal.returns
returns c = λ head w. going_done _ _ _ _ _ _ _ _ _ (c.loop-at.invariant.1 head w) c.loop-at.invariant.0 c.loop-at-test.false
