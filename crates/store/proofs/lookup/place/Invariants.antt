-- None of the names so far is the one that is wanted. Assumes nothing.
use Rattle.std.proofs.Common.{◌≡◌, ◌<◌, ℕ}
use Rattle.store.proofs.lookup.place.Given as goal

abbrev pub invariant-loop-i : goal.invariant-loop-i
invariant-loop-i g l = (k : ℕ) → k < l.i → (r : ℕ) × goal.F-post g l.name k r × (r ≡ l.wanted → ⊥)
