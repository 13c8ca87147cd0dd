-- The bytes are a table again. Assumes nothing.
use Rattle.reporting.proofs.CarriageTable.{read_is}
use Rattle.reporting.specs.Table.{capacity}
use Rattle.reporting.proofs.held.TableMut.mark.Goals as goal

pub invariant_of-self : goal.invariant_of-self
invariant_of-self c = record { whole = (read_is capacity c.mark_in.new.bytes _ c.mark_in.ensures).0 }
