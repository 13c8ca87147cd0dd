-- 00 and eight bytes, or one. Assumes nothing.
use Rattle.std.specs.Prelude.{Result, Some, ℤ}
use mathlib.Core.Path.{sym, ap, ◌∙◌}
use mathlib.Core.List.{List}
use Prim.Native.Nat.{ℕ, ◌^◌}
use Rattle.types.specs.Number.{bytes_of, residue}
use Rattle.types.proofs.Machine.{came_back}
use Rattle.frame.specs.declared.answer.Refusal.{Refusal}
use Rattle.store.specs.Value.{telling}
use Rattle.replay.specs.Bytes.{same}
use Rattle.replay.specs.Ours.{agreement, number_says}
use Rattle.replay.proofs.Matches.{pointwise_same}
use Rattle.replay.proofs.Says.{number_refused, number_is, number_off}
use Rattle.replay.proofs.stores.numbered.Goals as goal

pub returns-in_default : goal.returns-in_default
returns-in_default c =
    number_off c.args.held.now _ (sym c.match_run.ensures ∙ c.in_default.is)
    ∙ ap (λ (n : Result ℤ Refusal). agreement (Some (number_says (telling n))) c.args.held.now) (sym c.in-Ok.is)

pub returns-in-Some : goal.returns-in-Some
returns-in-Some c =
    ap Some (c.eq.ensures ∙ pointwise_same _ _)
    ∙ ap (λ (s : List ℕ). Some (same c.le_bytes.result s)) c.rest.ensures
    ∙ number_is c.args.held.now _ _ _ (c.le_bytes.ensures ∙ ap (bytes_of 8) (c.bits.ensures ∙ ap (residue (2 ^ 64)) (came_back _ c.in-Ok.known_told-1-own.given.0.1))) (sym c.match_run.ensures ∙ c.in-Some.is)
    ∙ ap (λ (n : Result ℤ Refusal). agreement (Some (number_says (telling n))) c.args.held.now) (sym c.in-Ok.is)

pub returns-in-Err : goal.returns-in-Err
returns-in-Err c =
    ap Some (c.eq-in-Err.ensures ∙ pointwise_same _ _)
    ∙ number_refused c.args.held.now c.in-Err.why _ c.from.ensures
    ∙ ap (λ (n : Result ℤ Refusal). agreement (Some (number_says (telling n))) c.args.held.now) (sym c.in-Err.is)
