-- A pass that is full, an attribute that is not its, and the three ways that one goes. Assumes nothing.
use Rattle.report.proofs.Passes.{step_full, step_other, step_passed, step_longer, step_fills}
use Rattle.report.proofs.turn.sweep_one.Goals as goal

pub returns-then-c-clause-step : goal.returns-then-c-clause-step
returns-then-c-clause-step c = step_full c.args.store.now c.args.a c.args.time c.args.table.now.bytes.now c.args.frame.now c.args.c c.args.mine c.args.table.now.whole c.if-c.true

pub returns-then-not-mine-clause-step : goal.returns-then-not-mine-clause-step
returns-then-not-mine-clause-step c = step_other c.args.store.now c.args.a c.args.time c.args.table.now.bytes.now c.args.frame.now c.args.c c.args.mine c.args.table.now.whole (c.if-not-mine.true)

pub returns-in-Passed-clause-step : goal.returns-in-Passed-clause-step
returns-in-Passed-clause-step c = step_passed c.args.store.now c.args.a c.args.time c.args.table.now.bytes.now c.args.frame.now c.args.c c.args.mine (c.if-not-mine.false) c.if-c.false c.try_attribute-tried.result c.try_attribute-tried.new.table.bytes.now c.try_attribute-tried.new.frame c.try_attribute-tried.ensures.tried c.in-Passed.is

pub returns-in-Longer-clause-step : goal.returns-in-Longer-clause-step
returns-in-Longer-clause-step c = step_longer c.args.store.now c.args.a c.args.time c.args.table.now.bytes.now c.args.frame.now c.args.c c.args.mine (c.if-not-mine.false) c.if-c.false c.try_attribute-tried.result c.try_attribute-tried.new.table.bytes.now c.try_attribute-tried.new.frame c.try_attribute-tried.ensures.tried _ c.in-Longer.is

pub returns-in-Full-clause-step : goal.returns-in-Full-clause-step
returns-in-Full-clause-step c = step_fills c.args.store.now c.args.a c.args.time c.args.table.now.bytes.now c.args.frame.now c.args.c c.args.mine (c.if-not-mine.false) c.if-c.false c.try_attribute-tried.result c.try_attribute-tried.new.table.bytes.now c.try_attribute-tried.new.frame c.try_attribute-tried.ensures.tried c.in-Full.is
