-- The number's 4 bytes, written over those at the place. Assumes nothing.
use mathlib.Core.Path.{◌∙◌}
use Rattle.reporting.proofs.Carriage.{write_number}
use Rattle.reporting.proofs.numbers.put_u32_in.Goals as goal

pub returns : goal.returns
returns c = write_number 4 c.args.at c.args.n c.args.bytes.now _ (c.copy_from_slice.ensures.after ∙ c.to_le_bytes.ensures) c.requires
