-- Each attribute keeps what is left of the pass the whole. Assumes nothing.
use mathlib.Core.Path.{refl, ◌∙◌}
use lib.ListN.{length}
use Rattle.report.proofs.Passes.{going_first, going_more, going_done, id_below}
use Rattle.report.proofs.turn.sweep.Goals as goal

pub loop-i-init : goal.loop-i-init
loop-i-init c = (refl, refl, λ sequence x₀ st. going_first c.args.store.now c.args.last c.args.upper c.args.time (length c.args.frame.now) _ c.count_of-n.ensures _ _ _ sequence x₀ st)

pub sweep_one-c-requires : goal.sweep_one-c-requires
sweep_one-c-requires c = id_below c.args.store.now _ _ (λ j. (c.type_inv.store j).fits) c.attribute_at-a.ensures

pub loop-i-preserved : goal.loop-i-preserved
loop-i-preserved c = (
  c.sweep_one-c.auto.frame ∙ c.loop-i.invariant.0,
  c.sweep_one-c.ensures.same_reference ∙ c.loop-i.invariant.1,
  λ sequence x₀ st. going_more c.args.store.now c.args.last c.args.upper c.args.time (length c.args.frame.now) _ _ _ _ _ sequence x₀ (c.loop-i.invariant.2 sequence x₀ st) c.loop-i-test.true c.loop-i.invariant.0 _ _ _ _ _ c.attribute_at-a.ensures c.is_mine-mine.ensures c.sweep_one-c.ensures.step,
)

pub returns-clause-swept : goal.returns-clause-swept
returns-clause-swept c = (c.loop-i.table.whole, λ sequence x₀ st. going_done c.args.store.now c.args.last c.args.upper c.args.time (length c.args.frame.now) _ _ _ _ _ sequence x₀ (c.loop-i.invariant.2 sequence x₀ st) c.loop-i-test.false)
