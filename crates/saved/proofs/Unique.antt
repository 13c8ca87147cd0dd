-- No second answer fits a contract (specs/Claims/Unique.antt). Assumes nothing.
use Rattle.std.specs.Prelude.{Result, Ok, Err, Bool, true, List, ℕ, ◌≡◌, refl}
use Rattle.frame.specs.declared.answer.Refusal.{Refusal}
use mathlib.Core.Path.{sym, ap, ◌∙◌}
use lib.ListN.{length}
use Rattle.frame.proofs.Outcome.{only_answer}
use Rattle.reporting.specs.Lent.{ChangeLeft, left_as}
use Rattle.reporting.proofs.Unique.{change_same}
use Rattle.saved.specs.Lent.{save_lent, restored}
use Rattle.saved.specs.Claims.Unique.{RestoreOnce, SaveOnce}

pub restore_once : RestoreOnce
restore_once table saved r q x y e f =
    let s = e ∙ sym f in
    (same r q x y s, told_bytes r q x y s)
  where
    told : Result (Unit {0}) Refusal → Result Bool Refusal
    told (Ok done) = Ok true
    told (Err why) = Err why

    as_told : (r : Result (Unit {0}) Refusal) (x : List ℕ) → restored r x ≡ left_as (told r) x
    as_told (Ok done) x = refl
    as_told (Err why) x = refl

    told_bytes : (r q : Result (Unit {0}) Refusal) (x y : List ℕ) → restored r x ≡ restored q y → x ≡ y
    told_bytes r q x y s = ap (λ (z : ChangeLeft). z.bytes) (sym (as_told r x) ∙ s ∙ as_told q y)

    only : (r q : Result (Unit {0}) Refusal) → told r ≡ told q → r ≡ q
    only (Ok a) (Ok b) e = refl
    only (Err u) (Err w) e = cc
    only (Ok a) (Err w) e = cc
    only (Err u) (Ok b) e = cc

    same : (r q : Result (Unit {0}) Refusal) (x y : List ℕ) → restored r x ≡ restored q y → r ≡ q
    same r q x y s = only r q (change_same (told r) (told q) (ap (λ (z : ChangeLeft). z.told) (sym (as_told r x) ∙ s ∙ as_told q y)))

pub save_once : SaveOnce
save_once table saved r q x y e f = only_answer (save_lent table (length saved)) r q x y e f
