-- The definition is that run of codes. Assumes nothing.
use Rattle.types.specs.Ids.{is_signed}
use Rattle.types.proofs.ids.TypeId.is_signed.Goals as goal

pub returns : goal.returns
unfolding is_signed
returns c = c.among.ensures
