-- The mark ffff counts nothing; any other count is itself. Assumes nothing.
use native.Mathlib.Omega.{arith}
use Rattle.types.proofs.Extents.{count_mark, count_plain}
use Rattle.types.proofs.extent.counted.Goals as goal

pub returns-then-n : goal.returns-then-n
returns-then-n c =
    let a = c.args in
    record { means = count_mark 2 a.s.now a.p _ c.u16_at-n.ensures c.if-n.true; small = omega arith }

pub returns : goal.returns
returns c =
    let a = c.args in
    record { means = count_plain 2 a.s.now a.p _ c.u16_at-n.ensures c.if-n.false; small = omega (arith, c.u16_at-n.type_inv) }
