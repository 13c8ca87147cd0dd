-- The conditions on the attributes that are left are those on all of them. Assumes nothing.
use Prim.Native.Nat.{◌+◌, ◌*◌, ◌≤◌}
use mathlib.Core.Path.{◌≡◌}
use Rattle.store.specs.Layout.{is_store}
use Rattle.store.proofs.Layouts.{left}
use Rattle.store.proofs.layout.is_store.Given as goal

abbrev pub invariant-loop-i : goal.invariant-loop-i
invariant-loop-i l = record { fits : l.from ≤ 516 + l.i * 65535; rest : left l.s l.n l.i l.least l.from ≡ is_store 8 l.s }
