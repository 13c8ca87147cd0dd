-- `attributes::read_records` meets its contract: each turn keeps the walk the same. Assumes nothing.
use mathlib.Core.Path.{◌≡◌, refl, sym, ap, ◌∙◌}
use native.Mathlib.Omega.{arith}
use Rattle.frame.specs.Walk.{item}
use Rattle.frame.proofs.Shortened.{going_first, going_more, going_stop, going_cut, going_done}
use Rattle.read.specs.Read.{id_at}
use Rattle.read.specs.Inside.{item_of}
use Rattle.read.proofs.Ids.{id_ahead}
use Rattle.read.proofs.attributes.read_records.Goals as goal

pub loop-at-init : goal.loop-at-init
loop-at-init c =
    (refl, λ head w. going_first _ _ _ _ _ _ _ _ w)

pub returns-in_default : goal.returns-in_default
returns-in_default c =
    λ head w. c.refuse.ensures ∙ going_cut _ _ _ _ _ _ _ _ _ (c.loop-at.invariant.1 head w) c.loop-at.invariant.0 c.loop-at-test.true (ap item_of (sym c.in_default.is) ∙ c.next_id.ensures)

pub returns-in_default-read_turn : goal.returns-in_default-read_turn
returns-in_default-read_turn c =
    let read_id : item c.in-Some.id.0 c.in-Some.next ≡ id_at c.args.body.now c.loop-at.at = ap item_of (sym c.in-Some.is) ∙ c.next_id.ensures in
    λ head w. going_stop _ _ _ _ _ _ _ _ _ (c.loop-at.invariant.1 head w) c.loop-at.invariant.0 (id_ahead _) c.loop-at-test.true _ _ read_id _ _ c.read_turn.ensures c.in_default-read_turn.is

pub loop-at-smaller : goal.loop-at-smaller
loop-at-smaller c =
    let read_id : item c.in-Some.id.0 c.in-Some.next ≡ id_at c.args.body.now c.loop-at.at = ap item_of (sym c.in-Some.is) ∙ c.next_id.ensures in
    let h = id_ahead c.args.body.now c.loop-at.at c.in-Some.id.0 c.in-Some.next (sym read_id) in
    omega (arith, c.loop-at-test.true, h)

pub loop-at-preserved : goal.loop-at-preserved
loop-at-preserved c =
    let read_id : item c.in-Some.id.0 c.in-Some.next ≡ id_at c.args.body.now c.loop-at.at = ap item_of (sym c.in-Some.is) ∙ c.next_id.ensures in
    (c.read_turn.auto.reply ∙ c.loop-at.invariant.0, λ head w. going_more _ _ _ _ _ _ _ _ _ (c.loop-at.invariant.1 head w) c.loop-at.invariant.0 (id_ahead _) c.loop-at-test.true _ _ read_id _ _ c.read_turn.ensures _ c.in-Some-read_turn.is)

pub returns : goal.returns
returns c =
    λ head w. going_done _ _ _ _ _ _ _ _ _ (c.loop-at.invariant.1 head w) c.loop-at.invariant.0 c.loop-at-test.false
