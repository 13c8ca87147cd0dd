-- What is left of the digits equals the whole. Assumes nothing.
use Rattle.std.proofs.Common.{◌≡◌, ◌+◌, ◌*◌, ◌++◌, take, drop}
use Rattle.bench.specs.Bench.{hex}
use Rattle.bench.proofs.text.put_hex.Given as goal

abbrev pub invariant-loop-b : goal.invariant-loop-b
invariant-loop-b l =
    (l.p ≡ l.at + 2 * l.b-index) × (take l.p l.out ++ hex (drop l.b-index l.bytes) ≡ take l.at l.initial.out ++ hex l.bytes)
