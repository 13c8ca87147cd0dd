-- After i turns the first i slots are read. Assumes nothing.
use borrow.Author.Rules.{rules}
use native.Mathlib.Omega.{arith}
use mathlib.Core.Path.{◌≡◌, refl, ◌∙◌}
use lib.ListN.{length, length-set}
use Rattle.reporting.specs.Table.{capacity}
use Rattle.reporting.proofs.Slots.{length_mapped}
use Rattle.reporting.proofs.CarriageLoops.{read_more, read_done}
use Rattle.reporting.proofs.carried.read_slots.Goals as goal

pub loop-i-init : goal.loop-i-init
loop-i-init c = (search (length_mapped, rules), refl)

pub read_slot-requires : goal.read_slot-requires
read_slot-requires c = omega (arith, c.loop-i-test.true, c.requires)

pub loop-i-preserved : goal.loop-i-preserved
loop-i-preserved c =
    let l = c.loop-i in
    let n : length l.table.entries ≡ capacity = l.invariant.0 in (
      length-set l.table.entries l.i c.read_slot.result ∙ n,
      read_more c.args.bytes.now l.table.entries l.i l.invariant.1 c.read_slot.result (omega (arith, c.loop-i-test.true, c.requires)) c.read_slot.ensures,
    )

pub returns : goal.returns
returns c =
    let l = c.loop-i in
    read_done c.args.bytes.now l.table.entries l.i l.invariant.1 c.args.count (omega arith) c.requires.0
