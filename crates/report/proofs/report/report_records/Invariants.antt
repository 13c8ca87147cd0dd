-- Each turn keeps what is left of the list the whole. Assumes nothing.
use mathlib.Core.Path.{◌≡◌}
use mathlib.Core.List.{List}
use Prim.Native.Nat.{ℕ}
use lib.ListN.{length}
use Rattle.frame.specs.Inside.Buffer.{Shows}
use Rattle.report.proofs.Going.{Going}
use Rattle.report.proofs.report.report_records.Given as goal

abbrev pub invariant-loop-id : goal.invariant-loop-id
invariant-loop-id l = (length l.frame ≡ length l.initial.frame) × ((head : List ℕ) → Shows l.initial.frame l.from head → Going l.store l.ids (length l.initial.frame) head l.frame l.id-index l.out)
