-- The bits of the i64 are the number's. Assumes nothing.
use mathlib.Core.Path.{◌∙◌}
use Rattle.types.proofs.Machine.{came_back, bits_are}
use Rattle.types.proofs.number.bits_i64.Goals as goal

pub returns : goal.returns
returns c = came_back _ c.cast_signed.type_inv ∙ c.cast_signed.ensures ∙ bits_are c.args.x c.ranges.x.fits
