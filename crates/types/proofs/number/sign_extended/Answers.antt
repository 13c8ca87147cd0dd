-- Shifted up to the top and down again, a number of a width is read with its sign. Assumes nothing.
use Rattle.types.proofs.Machine.{extend_none, extended}
use Rattle.types.proofs.number.sign_extended.Goals as goal

pub returns-then-width-eq0 : goal.returns-then-width-eq0
returns-then-width-eq0 c = extend_none _ _ c.if-width-eq0.true c.requires

pub returns : goal.returns
returns c = extended c.args.width c.min.result c.args.n c.cast_signed.result c.if-width-eq0.false c.requires c.min.ensures c.cast_signed.type_inv c.cast_signed.ensures
