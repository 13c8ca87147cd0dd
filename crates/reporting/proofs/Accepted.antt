-- What document 01's rule for a record says of the intervals that it accepts. Assumes nothing.
use mathlib.Core.Path.{◌≡◌, refl, sym, ap, ◌∙◌, subst}
use mathlib.Core.Bool.{Bool, true, false, not, cond, ◌&&◌, ◌||◌, true≢false}
use mathlib.Core.List.{List}
use Prim.Native.Nat.{ℕ, ◌≤◌}
use native.Mathlib.Omega.{arith}
use lib.Dec.{eqb, ltb}
use borrow.Author.Tests.{eqb-false, ne_eqb, ltb-false}
use Rattle.frame.specs.Status.{status_code}
use Rattle.frame.specs.declared.status.Status.TheVariants.{Success}
use Rattle.reporting.specs.declared.entry.Key.{Key}
use Rattle.reporting.specs.declared.entry.ReportingConfig.{ReportingConfig}
use Rattle.reporting.specs.declared.entry.Entry.{Entry}
use Rattle.reporting.specs.Entries.{accepts_l}
use Rattle.reporting.specs.declared.entry.Wish.{Wish}
use Rattle.reporting.specs.declared.entry.Wish.TheVariants.{ToClear, ToRefuse, ToSet}
use Rattle.reporting.specs.Wish.{wish, status_w, record_status}
use Rattle.reporting.specs.Demand3.{AcceptedRecord}

IsSets : Wish → Type 0
IsSets ToClear = ⊥
IsSets ToRefuse = ⊥
IsSets ToSet = Unit

rule_cases : (a b c d : Bool) → cond (a || (b && c)) ToClear (cond (not b && d) ToRefuse ToSet) ≡ ToSet → (a ≡ false) × (b ≡ false → d ≡ false)
unfolding IsSets
rule_cases true b c d h = absurd (subst IsSets (sym h) tt)
rule_cases false true true d h = absurd (subst IsSets (sym h) tt)
rule_cases false true false d h = (refl, λ z. absurd (true≢false z))
rule_cases false false c true h = absurd (subst IsSets (sym h) tt)
rule_cases false false c false h = (refl, λ z. refl)

module _ (g : ReportingConfig) (acc : AcceptedRecord g) where
  cases : (eqb g.max_interval 0xffff ≡ false) × (eqb g.max_interval 0 ≡ false → ltb g.max_interval g.min_interval ≡ false)
  cases = rule_cases (eqb g.max_interval 0xffff) (eqb g.max_interval 0) (eqb g.min_interval 0xffff) (ltb g.max_interval g.min_interval) acc.rule

  pub on : g.max_interval ≡ 0xffff → ⊥
  on = eqb-false g.max_interval 0xffff cases.0

  pub ordered : g.min_interval ≤ g.max_interval
  ordered = ltb-false g.max_interval g.min_interval (cases.1 (ne_eqb g.max_interval 0 (λ z. let h = acc.one in omega (arith, z, h))))

-- a record that gets SUCCESS, with a maximum from 1 to 65534, sets, and there is room for it
pub record_accepted : (limit : ℕ) (k : Key) (g : ReportingConfig) (l : List Entry) → record_status limit k g l ≡ Success → 1 ≤ g.max_interval → g.max_interval ≤ 65534
    → (wish g ≡ ToSet) × (accepts_l limit k l ≡ true)
record_accepted limit k g l st low high = go (ltb g.max_interval g.min_interval) refl (accepts_l limit k l) refl st
  where
    is : wish g ≡ cond (ltb g.max_interval g.min_interval) ToRefuse ToSet
    is = simp (ne_eqb g.max_interval 0xffff (λ z. omega (arith, z)), ne_eqb g.max_interval 0 (λ z. omega (arith, z)))

    go : (b : Bool) → ltb g.max_interval g.min_interval ≡ b → (a : Bool) → accepts_l limit k l ≡ a → status_w (wish g) a ≡ Success → (wish g ≡ ToSet) × (a ≡ true)
    go true e a f s = absurd (let z : 0x87 ≡ 0 = ap status_code (sym (ap (λ w. status_w w a) (is ∙ ap (λ b. cond b ToRefuse ToSet) e)) ∙ s) in omega (arith, z))
    go false e true f s = (is ∙ ap (λ b. cond b ToRefuse ToSet) e, refl)
    go false e false f s = absurd (let z : 0x89 ≡ 0 = ap status_code (sym (ap (λ w. status_w w false) (is ∙ ap (λ b. cond b ToRefuse ToSet) e)) ∙ s) in omega (arith, z))
