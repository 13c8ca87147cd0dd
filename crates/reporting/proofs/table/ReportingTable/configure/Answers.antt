-- `reporting::table::ReportingTable::configure` meets its contract. Assumes nothing.
use Rattle.reporting.proofs.Slots.{length_mapped, Found, configure_bad, configure_full, configure_new, configure_old}
use borrow.Author.Rules.{rules}
use Rattle.reporting.proofs.table.ReportingTable.configure.Goals as goal

pub returns-then-n-gt-LIMIT : goal.returns-then-n-gt-LIMIT
returns-then-n-gt-LIMIT c = configure_bad c.args.self c.if-n-gt-LIMIT.true _ _

pub returns-then-at-ge-LIMIT : goal.returns-then-at-ge-LIMIT
returns-then-at-ge-LIMIT c =
    let found : Found c.args.self c.args.key c.find-at.result = record { slots = search (length_mapped, rules); small = c.if-n-gt-LIMIT.false; place = c.find-at.ensures } in
    configure_full found _ c.if-at-ge-LIMIT.true

pub returns-then-n-at : goal.returns-then-n-at
returns-then-n-at c =
    let found : Found c.args.self c.args.key c.find-at.result = record { slots = search (length_mapped, rules); small = c.if-n-gt-LIMIT.false; place = c.find-at.ensures } in
    configure_new found _ _ c.fresh-e.ensures c.if-n-at.true c.if-at-ge-LIMIT.false

pub returns-else-n-at : goal.returns-else-n-at
returns-else-n-at c =
    let found : Found c.args.self c.args.key c.find-at.result = record { slots = search (length_mapped, rules); small = c.if-n-gt-LIMIT.false; place = c.find-at.ensures } in
    configure_old found _ c.fresh-e.result _ c.fresh-e.ensures c.if-n-at.false
