-- When a report is due: the rule by its cases. Assumes nothing.
use mathlib.Core.Path.{◌≡◌, ◌∙◌}
use mathlib.Core.Bool.{true, false, not, ◌&&◌, and-false}
use mathlib.Core.Logic.{◌⊎◌, inl, inr}
use Prim.Native.Nat.{ℕ, ◌-◌, ◌<◌, ◌≤◌}
use lib.Dec.{leb, eqb}
use lib.IntN.{ℤ}
use borrow.Author.Tests.{lt-ltb, le-ltb, le-leb, lt-leb, eq-eqb, ne_eqb}
use Rattle.reporting.specs.declared.entry.ReportingConfig.{ReportingConfig}
use Rattle.reporting.specs.declared.entry.Entry.{Entry}
use Rattle.reporting.specs.Due.{dist_by, moved_by, ripe, due_e}

-- under the minimum
pub ripe_early : (g : ReportingConfig) (s m : ℕ) → s < g.min_interval → ripe g s m ≡ false
ripe_early g s m h = simp (lt-ltb _ _ h)

-- at the maximum
pub ripe_late : (g : ReportingConfig) (s m : ℕ) → g.min_interval ≤ s → (g.max_interval ≡ 0 → ⊥) → g.max_interval ≤ s → ripe g s m ≡ true
ripe_late g s m h k l = simp (le-ltb _ _ h, ne_eqb _ _ k, le-leb _ _ l)

-- between the two
pub ripe_between : (g : ReportingConfig) (s m : ℕ) → g.min_interval ≤ s → (g.max_interval ≡ 0) ⊎ (s < g.max_interval)
    → ripe g s m ≡ (not (eqb m 0) && leb g.reportable_change m)
ripe_between g s m h (inl z) = simp (le-ltb _ _ h, eq-eqb _ _ z)
ripe_between g s m h (inr l) = simp (le-ltb _ _ h, lt-leb _ _ l, and-false)

-- the maximum ffff
pub due_off : (e : Entry) (now : ℕ) (v : ℤ) → e.config.max_interval ≡ 0xffff → due_e e now v ≡ false
due_off e now v h = simp (eq-eqb _ _ h)

-- an entry that was reported once
pub due_marked : (e : Entry) (now : ℕ) (v : ℤ) → (e.config.max_interval ≡ 0xffff → ⊥) → e.marked ≡ true
    → due_e e now v ≡ ripe e.config (now - e.last_time) (moved_by e.config e.last_value v)
due_marked e now v h m = simp (ne_eqb _ _ h, m)

-- an entry that was not
pub due_first : (e : Entry) (now : ℕ) (v : ℤ) → (e.config.max_interval ≡ 0xffff → ⊥) → e.marked ≡ false → due_e e now v ≡ true
due_first e now v h m = simp (ne_eqb _ _ h, m)

-- how far a value moved is a distance, as the configuration's mark says
pub moved_code : (g : ReportingConfig) (from to from' to' : ℤ) (r : ℕ) → from' ≡ from → to' ≡ to → r ≡ dist_by g.unsigned to' from' → r ≡ moved_by g from to
unfolding moved_by
moved_code g from to from' to' r p q h = h ∙ (λ i. dist_by g.unsigned (q i) (p i))
