-- Each call leaves the same to compare. Assumes nothing.
use Rattle.reporting.specs.Table.{table_of}
use Rattle.replay.proofs.Calls.{Follows}
use Rattle.replay.proofs.methods.history.Given as goal

abbrev pub invariant-loop-call : goal.invariant-loop-call
invariant-loop-call l = Follows l.calls l.held (table_of l.table) l.at l.call-index
