-- Events one after the other. Assumes nothing.
use mathlib.Core.Path.{◌≡◌, refl}
use mathlib.Core.List.{List, [], ◌∷◌, ◌++◌}
use Prim.Native.Nat.{ℕ}
use Rattle.reporting.specs.declared.entry.Entry.{Entry}
use Rattle.reporting.specs.Claims.Events.{Event, after, run, Honest}

pub run_append : (limit : ℕ) (es fs : List Event) (l : List Entry) → run limit (es ++ fs) l ≡ run limit fs (run limit es l)
run_append limit [] fs l = refl
run_append limit (e ∷ es) fs l = run_append limit es fs (after limit e l)

-- what comes after honest events is honest from the table that they leave
pub honest_rest : (limit : ℕ) (es fs : List Event) (l : List Entry) → Honest limit (es ++ fs) l → Honest limit fs (run limit es l)
honest_rest limit [] fs l h = h
honest_rest limit (e ∷ es) fs l h = honest_rest limit es fs (after limit e l) h.1

pub honest_append : (limit : ℕ) (es fs : List Event) (l : List Entry) → Honest limit es l → Honest limit fs (run limit es l) → Honest limit (es ++ fs) l
honest_append limit [] fs l h k = k
honest_append limit (e ∷ es) fs l h k = (h.0, honest_append limit es fs (after limit e l) h.1 k)
