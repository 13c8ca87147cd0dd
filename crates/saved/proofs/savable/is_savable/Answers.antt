-- After i turns the first i entries are written, none of them twice. Assumes nothing.
use native.Mathlib.Omega.{arith}
use mathlib.Core.Path.{sym, ◌∙◌}
use Rattle.reporting.specs.Carried.{table_in}
use Rattle.reporting.proofs.CarriageTable.{table_count}
use Rattle.reporting.proofs.CarriageLoops.{known_size, known_count}
use Rattle.reporting.proofs.Lending.{nth_entry}
use Rattle.saved.proofs.Entries.{savable_more, savable_not_set, savable_twice, savable_none, savable_all}
use Rattle.saved.proofs.savable.is_savable.Goals as goal

pub bounds-table-0 : goal.bounds-table-0
bounds-table-0 c = omega (arith, known_size c.args.table.bytes.now c.args.table.whole)

pub loop-i-init : goal.loop-i-init
loop-i-init c = savable_none (table_in c.args.table.bytes.now)

pub read_slot-e-requires : goal.read_slot-e-requires
read_slot-e-requires c = omega (arith, known_count c.args.table.bytes.now c.args.table.whole, known_size c.args.table.bytes.now c.args.table.whole)

pub returns-then-not-is_set : goal.returns-then-not-is_set
returns-then-not-is_set c =
    let bs = c.args.table.bytes.now in
    let i = c.loop-i.i in
    let e = c.read_slot-e in
    savable_not_set (table_in bs) i e.result e.result (omega (arith, table_count bs, c.loop-i-test.true)) (e.ensures ∙ sym (nth_entry bs i e.result c.loop-i-test.true))
    (sym c.is_set.ensures ∙ c.if-not-is_set.true)

pub returns-then-first-i : goal.returns-then-first-i
returns-then-first-i c =
    let bs = c.args.table.bytes.now in
    let i = c.loop-i.i in
    let e = c.read_slot-e in
    savable_twice (table_in bs) i e.result e.result (omega (arith, table_count bs, c.loop-i-test.true)) (e.ensures ∙ sym (nth_entry bs i e.result c.loop-i-test.true))
    (λ q. c.if-first-i.true (c.find_slot-first.ensures ∙ q))

pub loop-i-preserved : goal.loop-i-preserved
loop-i-preserved c =
    let bs = c.args.table.bytes.now in
    let i = c.loop-i.i in
    let e = c.read_slot-e in
    savable_more (table_in bs) i e.result e.result (omega (arith, table_count bs, c.loop-i-test.true)) (e.ensures ∙ sym (nth_entry bs i e.result c.loop-i-test.true))
    c.loop-i.invariant (sym c.is_set.ensures ∙ c.if-not-is_set.false) (sym c.find_slot-first.ensures ∙ c.if-first-i.false)

pub returns : goal.returns
returns c =
    let bs = c.args.table.bytes.now in
    savable_all (table_in bs) c.loop-i.i (omega (arith, table_count bs, c.loop-i-test.false)) c.loop-i.invariant
