-- The tests in their order; the table is filled before its entries are judged. Assumes nothing.
use mathlib.Core.Path.{sym, ap, ◌∙◌}
use Rattle.types.specs.Number.{zeros}
use Rattle.saved.proofs.Lending.{restore_no_table, restore_not_laid, fill_empty, filled_table, restore_done, restore_not_written}
use Rattle.saved.proofs.restore.restore.Goals as goal

pub returns-then-table-ne-TABLE_BYTES : goal.returns-then-table-ne-TABLE_BYTES
returns-then-table-ne-TABLE_BYTES c = restore_no_table c.args.saved.now c.args.table.now c.if-table-ne-TABLE_BYTES.true

pub returns-then-not-is_laid : goal.returns-then-not-is_laid
returns-then-not-is_laid c = restore_not_laid c.args.saved.now c.args.table.now c.if-table-ne-TABLE_BYTES.false c.clear.new.buffer c.clear.ensures (sym c.is_laid.ensures ∙ c.if-not-is_laid.true)

pub fill-requires : goal.fill-requires
fill-requires c = fill_empty c.args.saved.now c.args.table.now c.if-table-ne-TABLE_BYTES.false (sym c.is_laid.ensures ∙ c.if-not-is_laid.false) c.clear.new.buffer c.clear.ensures

pub invariant_of-is_savable : goal.invariant_of-is_savable
invariant_of-is_savable c = record { whole = filled_table c.args.saved.now c.args.table.now c.if-table-ne-TABLE_BYTES.false (sym c.is_laid.ensures ∙ c.if-not-is_laid.false) c.fill.ensures.all_clean c.fill.new.table c.fill.ensures.table_after }

pub returns-then-is_savable : goal.returns-then-is_savable
returns-then-is_savable c = restore_done c.args.saved.now c.args.table.now c.if-table-ne-TABLE_BYTES.false (sym c.is_laid.ensures ∙ c.if-not-is_laid.false) c.fill.ensures.all_clean c.fill.new.table c.fill.ensures.table_after (sym c.is_savable.ensures ∙ c.if-is_savable.true)

pub returns : goal.returns
returns c =
    restore_not_written c.args.saved.now c.args.table.now c.if-table-ne-TABLE_BYTES.false (sym c.is_laid.ensures ∙ c.if-not-is_laid.false) c.fill.ensures.all_clean c.fill.new.table c.clear-2.new.buffer c.fill.ensures.table_after
    (sym c.is_savable.ensures ∙ c.if-is_savable.false) (c.clear-2.ensures ∙ ap zeros (c.fill.auto.table ∙ c.clear.auto.buffer))
