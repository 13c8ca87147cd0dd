-- The bytes are there, or the slice ends first. Assumes nothing.
use native.Mathlib.Omega.{arith}
use mathlib.Core.Path.{sym}
use Rattle.types.proofs.Extents.{upto_in, upto_out}
use Rattle.types.proofs.extent.span.Goals as goal

pub returns-then-n-s : goal.returns-then-n-s
returns-then-n-s c = sym (upto_in _ _ _ (omega arith))

pub returns-else-n-s : goal.returns-else-n-s
returns-else-n-s c = sym (upto_out _ _ _ (omega arith))

pub returns-else-p-s : goal.returns-else-p-s
returns-else-p-s c = sym (upto_out _ _ _ (omega arith))
