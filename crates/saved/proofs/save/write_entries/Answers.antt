-- After i turns the rows of the first i entries stand behind the count, and their bodies behind the contents. Assumes nothing.
use native.Mathlib.Omega.{arith}
use mathlib.Core.Path.{ap, ◌∙◌}
use mathlib.Core.Bool.{true}
use mathlib.Core.List.{List, map}
use lib.Seq.{sets}
use Rattle.reporting.specs.declared.entry.Entry.{Entry}
use Rattle.reporting.specs.Carried.{rows_laid, count_in}
use Rattle.reporting.proofs.CarriageLoops.{known_size, known_count}
use Rattle.saved.specs.Saved.{marked, key_of, body_of, row_of, offset_at, contents_from}
use Rattle.saved.proofs.Places.{place_small}
use Rattle.saved.proofs.Rows.{none_written, entry_turn, all_taken}
use Rattle.saved.proofs.save.write_entries.Goals as goal

pub bounds-table-0 : goal.bounds-table-0
bounds-table-0 c = omega (arith, known_size c.args.table.bytes.now c.args.table.whole)

pub loop-i-init : goal.loop-i-init
loop-i-init c = none_written c.args.table.bytes.now c.args.saved.now

pub read_slot-e-requires : goal.read_slot-e-requires
read_slot-e-requires c = omega (arith, known_count c.args.table.bytes.now c.args.table.whole, known_size c.args.table.bytes.now c.args.table.whole)

pub body_at-at-requires : goal.body_at-at-requires
body_at-at-requires c = let n = known_count c.args.table.bytes.now c.args.table.whole in (n, omega (arith, n, c.loop-i-test.true))

pub overflow_cast-at : goal.overflow_cast-at
overflow_cast-at c =
    let n = known_count c.args.table.bytes.now c.args.table.whole in
    omega (arith, c.body_at-at.ensures, place_small true (count_in c.args.table.bytes.now) c.loop-i.i n (omega (arith, n, c.loop-i-test.true)))

pub loop-i-preserved : goal.loop-i-preserved
loop-i-preserved c =
    let e = c.read_slot-e in
    entry_turn c.args.table.bytes.now c.loop-i.i c.loop-i-test.true e.result e.ensures c.body_at-at.result c.body_at-at.ensures
    c.args.saved.now c.loop-i.saved c.write_row.new.saved c.write_body.new.saved c.loop-i.invariant c.write_row.ensures c.write_body.ensures

pub returns : goal.returns
returns c =
    let bs = c.args.table.bytes.now in
    c.loop-i.invariant
    ∙ ap (λ (l : List Entry). sets (sets c.args.saved.now 1 (rows_laid (row_of marked) (contents_from marked (count_in bs) 0 (map key_of l)))) (offset_at marked (count_in bs) 0) (rows_laid marked.bodies (map body_of l)))
    (all_taken bs c.loop-i.i c.loop-i-test.false)
