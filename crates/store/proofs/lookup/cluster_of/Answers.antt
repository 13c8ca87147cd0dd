-- Of bytes that are read as such, the two that they start with. Assumes nothing.
use Rattle.std.proofs.Common.{arith}
use Rattle.std.proofs.lemmas.Grind.{common_steps}
use Rattle.types.proofs.Numbers.{two_bytes}
use Rattle.store.proofs.lookup.cluster_of.Goals as goal

pub returns-in-Some : goal.returns-in-Some
returns-in-Some c = grind (arith, common_steps, two_bytes c.args.s.now 0)
