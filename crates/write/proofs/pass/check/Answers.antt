-- What a write says is what its checks say. Assumes nothing.
use mathlib.Core.Path.{sym, ◌∙◌}
use Rattle.store.specs.Write.{write_of}
use Rattle.write.proofs.pass.check.Goals as goal

pub returns-in-Ok : goal.returns-in-Ok
unfolding write_of
returns-in-Ok c = rw (sym c.check_write.ensures ∙ c.in-Ok.is)

pub returns-in-Err : goal.returns-in-Err
unfolding write_of
returns-in-Err c = rw (sym c.check_write.ensures ∙ c.in-Err.is)
