-- A deed by its kind: what the function on the bytes did is what the deed comes to. Assumes nothing.
use mathlib.Core.Path.{◌≡◌}
use Rattle.configure.specs.declared.settle.Deed.{Deed}
use Rattle.configure.proofs.Settings.{clear_settles, set_settles}
use Rattle.configure.proofs.pass.done.Goals as goal

pub returns-in-Ok-Clears-clause-settled : goal.returns-in-Ok-Clears-clause-settled
returns-in-Ok-Clears-clause-settled c =
    let clears : c.in-Ok-Clears.field-0 ≡ Deed.Clears c.in-Ok-Clears.key = rw c.in-Ok-Clears.is at c.in-Ok-Clears.field-0-is in
    rw (c.in-Ok-Clears.is, clears) (clear_settles _ _ _ c.clear.ensures.cleared)

pub returns-in-Ok-Sets-clause-settled : goal.returns-in-Ok-Sets-clause-settled
returns-in-Ok-Sets-clause-settled c =
    let sets : c.in-Ok-Sets.field-0 ≡ Deed.Sets c.in-Ok-Sets.key c.in-Ok-Sets.config = rw c.in-Ok-Sets.is at c.in-Ok-Sets.field-0-is in
    rw (c.in-Ok-Sets.is, sets) (set_settles _ _ _ _ _ _ c.status_of.ensures c.configure-accepted.ensures.configured)
