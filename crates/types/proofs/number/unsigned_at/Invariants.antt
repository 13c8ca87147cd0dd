-- From the high byte down: so far the number of the bytes above i, which leaves room for one more. Assumes nothing.
use Prim.Native.Nat.{◌+◌, ◌-◌}
use mathlib.Core.Path.{◌≡◌}
use lib.ListN.{take, drop}
use Rattle.types.specs.Number.{le}
use Rattle.types.proofs.number.unsigned_at.Given as goal

abbrev pub invariant-loop-i : goal.invariant-loop-i
invariant-loop-i l = l.n ≡ le (take (l.initial.i - l.i) (drop (l.at + l.i) l.s))
