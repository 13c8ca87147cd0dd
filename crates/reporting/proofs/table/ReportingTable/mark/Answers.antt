-- `reporting::table::ReportingTable::mark` meets its contract. Assumes nothing.
use mir.Facts.{to_z-of_z}
use Rattle.reporting.proofs.Slots.{length_mapped, Found, mark_bad, mark_absent, mark_is}
use borrow.Author.Rules.{rules}
use Rattle.reporting.proofs.table.ReportingTable.mark.Goals as goal

pub returns-then-n-gt-LIMIT : goal.returns-then-n-gt-LIMIT
returns-then-n-gt-LIMIT c = mark_bad c.args.self c.if-n-gt-LIMIT.true _ _ _

pub returns-then-n-at : goal.returns-then-n-at
returns-then-n-at c =
    let found : Found c.args.self c.args.key c.find-at.result = record { slots = search (length_mapped, rules); small = c.if-n-gt-LIMIT.false; place = c.find-at.ensures } in
    mark_absent found _ _ c.if-n-at.true

pub returns : goal.returns
returns c =
    let found : Found c.args.self c.args.key c.find-at.result = record { slots = search (length_mapped, rules); small = c.if-n-gt-LIMIT.false; place = c.find-at.ensures } in
    mark_is found _ _ _ _ _ (to_z-of_z c.ranges.value) c.mark.ensures c.if-n-at.false
