-- `reporting::table::ReportingTable::len` meets its contract. Assumes nothing.
use borrow.Author.Rules.{rules}
use Rattle.reporting.proofs.Slots.{length_mapped, length_bad, length_is}
use Rattle.reporting.proofs.table.ReportingTable.len.Goals as goal

pub returns-then-n-gt-LIMIT : goal.returns-then-n-gt-LIMIT
returns-then-n-gt-LIMIT c = length_bad c.args.self c.if-n-gt-LIMIT.true

pub returns : goal.returns
returns c = length_is c.args.self (search (length_mapped, rules)) c.if-n-gt-LIMIT.false
