-- Each pair of digits leaves the same to read. Assumes nothing.
use Rattle.std.proofs.Common.{length}
use Rattle.replay.specs.Line.{hex}
use Rattle.replay.proofs.Digits.{Read}
use Rattle.replay.proofs.hex.decode.Given as goal

abbrev pub invariant-loop-i : goal.invariant-loop-i
invariant-loop-i l = Read l.digits l.out l.i (length l.initial.out) (hex (length l.initial.out) l.digits)
