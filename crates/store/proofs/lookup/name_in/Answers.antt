-- The two bytes are the number that the entry has first. Assumes nothing.
use Prim.Native.Nat.{◌+◌, ◌*◌}
use Rattle.types.proofs.Numbers.{two_bytes}
use Rattle.store.specs.Contents.{attribute_at}
use Rattle.store.proofs.lookup.name_in.Goals as goal

pub returns : goal.returns
unfolding attribute_at
returns c = two_bytes c.args.s.now (4 + c.args.i * 8)
