-- The definition is that run of codes. Assumes nothing.
use Rattle.types.specs.Ids.{is_float}
use Rattle.types.proofs.ids.TypeId.is_float.Goals as goal

pub returns : goal.returns
unfolding is_float
returns c = c.among.ensures
