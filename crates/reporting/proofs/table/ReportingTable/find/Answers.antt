-- `reporting::table::ReportingTable::find` meets its contract. The loop's invariant: the scan has passed i entries, none of them
use mathlib.Core.Path.{sym, ◌∙◌}
use native.Mathlib.Omega.{arith}
use borrow.Author.Rules.{rules}
use Rattle.reporting.proofs.Slots.{length_mapped, scan_end, scan_hit, scan_miss}
use Rattle.reporting.proofs.table.ReportingTable.find.Goals as goal

pub loop-i-init : goal.loop-i-init
loop-i-init c = (omega arith, omega arith)

pub loop-i-preserved : goal.loop-i-preserved
loop-i-preserved c = (
  search rules,
  scan_miss c.args.self (search (length_mapped, rules)) c.requires _ c.loop-i.i _ c.if-n-i.false (sym c.is_of.ensures ∙ c.if-is_of.false) c.loop-i.invariant.1,
)

pub returns-then-n-i : goal.returns-then-n-i
returns-then-n-i c =
    let l = c.loop-i in
    scan_end c.args.self (search (length_mapped, rules)) c.requires _ l.i l.invariant.0 c.if-n-i.true l.invariant.1

pub returns-then-is_of : goal.returns-then-is_of
returns-then-is_of c =
    scan_hit c.args.self (search (length_mapped, rules)) c.requires _ c.loop-i.i _ c.if-n-i.false (sym c.is_of.ensures ∙ c.if-is_of.true) c.loop-i.invariant.1
