-- Two bytes are a number of width 2, past the end too. Assumes nothing.
use native.Mathlib.Omega.{arith}
use mathlib.Core.Path.{sym}
use Rattle.types.proofs.Numbers.{unsigned_past, two_bytes}
use Rattle.types.proofs.number.u16_at.Goals as goal

pub returns-then-s-at : goal.returns-then-s-at
returns-then-s-at c = sym (unsigned_past c.args.s.now c.args.at 2 c.if-s-at.true)

pub returns : goal.returns
returns c = omega (arith, two_bytes c.args.s.now c.args.at, c.from_le_bytes.ensures, c.byte_at.ensures)
