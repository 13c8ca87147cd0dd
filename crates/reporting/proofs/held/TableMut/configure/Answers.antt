-- The bytes are a table again. Assumes nothing.
use mathlib.Core.Path.{ap}
use Rattle.reporting.proofs.CarriageTable.{read_is}
use Rattle.reporting.specs.Table.{capacity}
use Rattle.reporting.specs.Inside.{ChangeKept, configure_in}
use Rattle.reporting.proofs.held.TableMut.configure.Goals as goal

pub invariant_of-self : goal.invariant_of-self
unfolding configure_in
invariant_of-self c = record { whole = (read_is capacity c.configure_in.new.bytes _ (ap (λ (x : ChangeKept). x.table) c.configure_in.ensures)).0 }
