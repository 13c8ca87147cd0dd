-- `attributes::put_records` meets its contract: what the buffer shows and what is left are always the same. Assumes nothing.
use mathlib.Core.Path.{refl, ap, ◌∙◌, subst}
use mathlib.Core.List.{◌++◌}
use Prim.Native.Nat.{ℕ, ◌<◌}
use native.Mathlib.Omega.{arith}
use lib.ListN.{length, take}
use Rattle.store.specs.Contents.{attributes_of}
use Rattle.discover.specs.Discover.{at_or_after}
use Rattle.discover.specs.Inside.{records_of}
use Rattle.discover.proofs.Going.{going_first, going_put, going_full, going_skip, going_more, going_end, going_as}
use Rattle.discover.proofs.attributes.put_records.Goals as goal
use Rattle.discover.proofs.attributes.put_records.Goals.{then-start-name+else-left-eq0+in_ok-out, else-start-name}

pub loop-i-init : goal.loop-i-init
loop-i-init c = (refl, λ before w. going_first c.args.store.now c.count_of-n.result c.args.start.0 before c.args.reply.now c.args.wanted c.args.from c.count_of-n.ensures w)

pub returns-then-left-eq0 : goal.returns-then-left-eq0
returns-then-left-eq0 c =
    λ before w. going_more _ _ _ _ _ _ _ _ _ (c.loop-i.invariant.1 before w) _ c.loop-i-test.true c.attribute_at-a.ensures c.count_of-n.ensures c.if-left-eq0.true c.if-start-name.true

pub returns-in_err-out : goal.returns-in_err-out
returns-in_err-out c =
    λ before w. rw c.from_residual.ensures (subst (λ (k : ℕ). k < length (before ++ records_of (take c.args.wanted (at_or_after c.args.start.0 (attributes_of 8 c.args.store.now))))) c.loop-i.invariant.0
    (going_full _ _ _ _ _ _ _ _ _ (c.loop-i.invariant.1 before w) _ c.loop-i-test.true c.attribute_at-a.ensures (omega (arith, c.if-left-eq0.false)) c.if-start-name.true _ _ c.put_record.ensures c.in_err-out.was))

pub loop-i-preserved : goal.loop-i-preserved
loop-i-preserved c = elim c.if-start-name.branch [
  | then-start-name+else-left-eq0+in_ok-out x ↦ (
    ap length x.reply-is ∙ x.put_record.auto.reply ∙ c.loop-i.invariant.0,
    λ before w. going_as _ _ _ _ _ _ _ _ _ _ _ _ x.reply-is x.left-is x.out-is (going_put _ _ _ _ _ _ _ _ _ (c.loop-i.invariant.1 before w) _ c.loop-i-test.true c.attribute_at-a.ensures (omega (arith, x.if-left-eq0.false)) x.if-start-name.true _ _ x.put_record.ensures _ x.in_ok-out.was),
  )
  | else-start-name x ↦ (ap length x.reply-is ∙ c.loop-i.invariant.0, λ before w. going_as _ _ _ _ _ _ _ _ _ _ _ _ x.reply-is x.left-is x.out-is (going_skip _ _ _ _ _ _ _ _ _ (c.loop-i.invariant.1 before w) _ c.loop-i-test.true c.attribute_at-a.ensures x.if-start-name.false))
]

pub returns : goal.returns
returns c =
    λ before w. going_end _ _ _ _ _ _ _ _ _ (c.loop-i.invariant.1 before w) c.count_of-n.ensures c.loop-i-test.false
