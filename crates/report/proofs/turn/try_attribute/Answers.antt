-- Not reportable, not due, no room, or written and marked. Assumes nothing.
use mathlib.Core.Path.{sym, ap, ◌∙◌}
use mathlib.Core.Bool.{true}
use Rattle.types.proofs.Machine.{came_back}
use Rattle.reporting.specs.Entries.{mark_l}
use Rattle.reporting.specs.Due.{due_l}
use Rattle.reporting.specs.Carried.{table_in, table_read}
use Rattle.report.proofs.Passes.{tried_unreportable, tried_not_due, tried_full, tried_longer}
use Rattle.report.proofs.turn.try_attribute.Goals as goal

pub returns-then-not-is_reportable-clause-tried : goal.returns-then-not-is_reportable-clause-tried
returns-then-not-is_reportable-clause-tried c = tried_unreportable c.args.store.now c.args.a c.args.time c.args.table.now.bytes.now c.args.frame.now c.args.out c.args.table.now.whole (sym c.is_reportable.ensures ∙ c.if-not-is_reportable.true)

pub returns-then-not-due-clause-tried : goal.returns-then-not-due-clause-tried
returns-then-not-due-clause-tried c =
    tried_not_due c.args.store.now c.args.a c.args.time c.args.table.now.bytes.now c.args.frame.now c.args.out c.args.table.now.whole
    (sym c.is_reportable.ensures ∙ c.if-not-is_reportable.false) c.key_of-key.result c.value_in-value.result c.key_of-key.ensures c.value_in-value.ensures c.due.result
    (c.due.ensures ∙ (λ i. due_l c.key_of-key.result c.args.time (came_back c.value_in-value.result c.value_in-value.type_inv i) (table_in (c.read.ensures i))))
    (c.if-not-due.true)

pub returns-in_default-clause-tried : goal.returns-in_default-clause-tried
returns-in_default-clause-tried c =
    tried_full c.args.store.now c.args.a c.args.time c.args.table.now.bytes.now c.args.frame.now c.args.out c.args.table.now.whole
    (sym c.is_reportable.ensures ∙ c.if-not-is_reportable.false) c.key_of-key.result c.value_in-value.result c.key_of-key.ensures c.value_in-value.ensures c.due.result
    (c.due.ensures ∙ (λ i. due_l c.key_of-key.result c.args.time (came_back c.value_in-value.result c.value_in-value.type_inv i) (table_in (c.read.ensures i))))
    (c.if-not-due.false) c.put_attribute-put.result c.put_attribute-put.new.frame c.put_attribute-put.ensures c.in_default.is

pub returns-clause-tried : goal.returns-clause-tried
returns-clause-tried c =
    tried_longer c.args.store.now c.args.a c.args.time c.args.table.now.bytes.now c.args.frame.now c.args.out c.args.table.now.whole
    (sym c.is_reportable.ensures ∙ c.if-not-is_reportable.false) c.key_of-key.result c.value_in-value.result c.key_of-key.ensures c.value_in-value.ensures c.due.result
    (c.due.ensures ∙ (λ i. due_l c.key_of-key.result c.args.time (came_back c.value_in-value.result c.value_in-value.type_inv i) (table_in (c.read.ensures i))))
    (c.if-not-due.false) c.put_attribute-put.result c.put_attribute-put.new.frame c.put_attribute-put.ensures _ c.mark.new.self.bytes.now c.in-Some.is
    (c.mark.ensures.marked ∙ ap (λ v. table_read true (mark_l c.key_of-key.result c.args.time v (table_in c.args.table.now.bytes.now))) (came_back _ c.value_in-value.type_inv))
