-- The number alone, or the number, a space and the reply. Assumes nothing.
use mathlib.Core.Path.{sym, ap, ◌∙◌}
use mathlib.Core.List.{◌++◌}
use native.Mathlib.Omega.{arith}
use Prim.Native.Nat.{ℕ}
use Rattle.std.specs.Prelude.{Result}
use Rattle.frame.specs.Answer.{no_state, seen}
use Rattle.frame.specs.declared.answer.Refusal.{Refusal}
use Rattle.bench.specs.Bench.{decimal, hex, said}
use Rattle.bench.proofs.Laid.{two_laid}
use Rattle.bench.proofs.Says.{said_refusal, said_reply}
use Rattle.bench.proofs.text.put_answer.Goals as goal

pub returns-in-Err : goal.returns-in-Err
returns-in-Err c =
    let a = c.args in
    c.put_number.ensures
    ∙ ap decimal c.from.ensures
    ∙ sym (said_refusal c.in-Err.why a.reply.now)
    ∙ ap (λ (x : Result ℕ Refusal). said (seen x a.reply.now no_state)) (sym c.in-Err.is)

pub returns-in-Ok : goal.returns-in-Ok
returns-in-Ok c =
    let a = c.args in
    c.put_hex.ensures
    ∙ (λ i. two_laid a.out.now 0 48 32 (omega arith) i ++ hex (c.part.ensures i))
    ∙ sym (said_reply c.in-Ok.n a.reply.now)
    ∙ ap (λ (x : Result ℕ Refusal). said (seen x a.reply.now no_state)) (sym c.in-Ok.is)
