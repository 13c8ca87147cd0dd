-- The checks say which: the value is stored, or the store is as it was. Assumes nothing.
use mathlib.Core.Path.{ap, sym, ◌∙◌}
use Rattle.frame.specs.declared.status.Status.TheVariants.{Success}
use Rattle.store.specs.Write.{wrote, write_by, write_of}
use Rattle.store.proofs.write.write.Goals as goal

pub returns-in-Ok : goal.returns-in-Ok
unfolding write_of
returns-in-Ok c = ap (wrote Success) c.write_value.ensures ∙ ap (λ x. write_by c.args.s.now x c.args.value.now) (sym (sym c.check_write-checked.ensures ∙ c.in-Ok.is))

pub returns-in-Err : goal.returns-in-Err
unfolding write_of
returns-in-Err c = ap (λ x. write_by c.args.s.now x c.args.value.now) (sym (sym c.check_write-checked.ensures ∙ c.in-Err.is))
