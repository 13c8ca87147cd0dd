-- The eight bytes of a u64 one after the other. Assumes nothing.
use native.Mathlib.Omega.{arith}
use Rattle.types.specs.Number.{bytes_of}
use Rattle.types.proofs.number.le_bytes.Goals as goal

pub returns : goal.returns
unfolding bytes_of
returns c = grind (arith, c.to_le_bytes.ensures)
