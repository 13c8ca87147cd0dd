-- Each way a pass ends has its answer. Assumes nothing.
use Rattle.std.specs.Prelude.{length}
use Rattle.frame.specs.Answer.{refused, no_state}
use Rattle.frame.specs.declared.answer.Refusal.{Refusal}
use mathlib.Core.Path.{sym, ap, ◌∙◌}
use Rattle.frame.specs.Inside.Failures.{concluded_at}
use Rattle.frame.proofs.failures.conclude.Goals as goal

pub returns-in-Err : goal.returns-in-Err
unfolding concluded_at
returns-in-Err c =
    let a = c.args in
    c.refuse.ensures
    ∙ ap (λ (why : Refusal). refused (length a.reply.now) why no_state) c.from.ensures
    ∙ ap (concluded_at a.reply.now a.start) (sym c.in-Err.is)
