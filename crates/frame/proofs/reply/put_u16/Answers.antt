-- `reply::put_u16` meets its contract: its two bytes are the number's. Assumes nothing.
use native.Mathlib.Omega.{arith}
use Rattle.types.specs.Number.{bytes_of}
use Rattle.frame.proofs.reply.put_u16.Goals as goal

pub returns : goal.returns
unfolding bytes_of
returns c = grind (arith, c.put_run.ensures, c.to_le_bytes.ensures)
