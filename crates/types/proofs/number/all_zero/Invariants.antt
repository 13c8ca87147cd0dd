-- No bit is set so far exactly where the bytes passed are 0. Assumes nothing.
use mathlib.Core.Path.{◌≡◌}
use lib.ListN.{take}
use lib.Dec.{eqb}
use Rattle.types.specs.Number.{all_zero}
use Rattle.types.proofs.number.all_zero.Given as goal

abbrev pub invariant-loop-b : goal.invariant-loop-b
invariant-loop-b l = (eqb l.bits 0 ≡ all_zero (take l.b-index l.s))
