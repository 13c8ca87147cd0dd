-- `reply::clear` meets its contract: after i turns the buffer is i zeros and what it had from i on.
use mathlib.Core.Path.{◌≡◌}
use mathlib.Core.List.{◌++◌}
use lib.ListN.{drop}
use Rattle.types.specs.Number.{zeros}
use Rattle.frame.proofs.reply.clear.Given as goal

abbrev pub invariant-loop-b : goal.invariant-loop-b
invariant-loop-b l = l.b-items ≡ zeros l.b-index ++ drop l.b-index l.initial.b-items
