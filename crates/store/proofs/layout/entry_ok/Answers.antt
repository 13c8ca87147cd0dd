-- The tests are those of the definition, in whatever order they are made. Assumes nothing.
use Rattle.std.proofs.Common.{arith}
use Rattle.std.proofs.lemmas.Bool.Decides.{nat_tests}
use Rattle.store.specs.Inside.{entry_ok}
use Rattle.store.proofs.layout.entry_ok.Goals as goal

pub returns-then-a-from : goal.returns-then-a-from
unfolding entry_ok
returns-then-a-from c = grind (arith, nat_tests)

pub returns-else-a-from : goal.returns-else-a-from
unfolding entry_ok
returns-else-a-from c = grind (arith, nat_tests)
