-- The bytes at the place are a number of width 8. Assumes nothing.
use mathlib.Core.Path.{refl, ◌∙◌}
use Rattle.reporting.proofs.Carriage.{read_number}
use Rattle.reporting.proofs.numbers.u64_in.Goals as goal

pub returns : goal.returns
returns c = c.from_le_bytes.ensures ∙ read_number 7 c.args.at c.args.bytes.now _ refl
