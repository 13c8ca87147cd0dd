-- Each attribute keeps what is left of the pass the whole. Assumes nothing.
use mathlib.Core.Path.{◌≡◌}
use Prim.Native.Nat.{ℕ}
use lib.ListN.{length}
use Rattle.report.specs.Inside.Loop.{Sweep}
use Rattle.report.specs.Inside.Turn.{Stands}
use Rattle.report.proofs.Passes.{Going}
use Rattle.report.proofs.turn.sweep.Given as goal

abbrev pub invariant-loop-i : goal.invariant-loop-i
invariant-loop-i l =
    (length l.frame ≡ length l.initial.frame)
    × (l.table.bytes.ghost_name ≡ l.initial.table.bytes.ghost_name)
    × ((sequence : ℕ) (x₀ : Sweep) → Stands l.store l.last sequence x₀ l.initial.table.bytes.now l.initial.frame l.initial.c → Going l.store l.last l.upper l.time (length l.initial.frame) sequence x₀ l.n l.i l.table.bytes.now l.frame l.c)
