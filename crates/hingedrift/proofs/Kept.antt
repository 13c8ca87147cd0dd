-- Entries that fit a table's bytes, in number and in width, still fit after events that fit. Assumes nothing.
use mathlib.Core.List.{List, [], ◌∷◌}
use Prim.Native.Nat.{ℕ}
use Rattle.reporting.specs.declared.entry.Entry.{Entry}
use Rattle.reporting.specs.Claims.Events.{Event, configured, cleared, asked, marked, after, run}
use Rattle.reporting.proofs.Kept.{Kept, configure_keeps, clear_keeps, mark_keeps}
use Rattle.server.proofs.Fitting.{Fits, AllFit}

after_keeps : (limit : ℕ) (e : Event) (l : List Entry) → Fits e → Kept limit l → Kept limit (after limit e l)
after_keeps limit (configured k g) l f h = configure_keeps limit k g l f h
after_keeps limit (cleared k) l f h = clear_keeps limit k l h
after_keeps limit (asked k now v a) l f h = h
after_keeps limit (marked k now v) l f h = mark_keeps limit k now v l f.0 f.1 h

pub run_keeps : (limit : ℕ) (es : List Event) (l : List Entry) → AllFit es → Kept limit l → Kept limit (run limit es l)
run_keeps limit [] l f h = h
run_keeps limit (e ∷ es) l f h = run_keeps limit es (after limit e l) f.1 (after_keeps limit e l f.0 h)
