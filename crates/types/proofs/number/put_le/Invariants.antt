-- What is left to write, written here, is the whole written from the start. Assumes nothing.
use mathlib.Core.Path.{◌≡◌}
use Prim.Native.Nat.{◌-◌}
use lib.Seq.{sets}
use Rattle.types.specs.Number.{bytes_of}
use Rattle.types.proofs.number.put_le.Given as goal

abbrev pub invariant-loop-p : goal.invariant-loop-p
invariant-loop-p l = sets l.out l.p (bytes_of (l.width - (l.p - l.at)) l.v) ≡ sets l.initial.out l.at (bytes_of l.width l.n)
