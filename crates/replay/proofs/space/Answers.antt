-- `space` meets its contract, by the law of a repeat: to count two million zeros would be too long. Assumes nothing.
use mathlib.Core.Path.{sym}
use Prim.Native.Nat.{ℕ}
use lib.ListN.{length-replicate}
use Rattle.replay.proofs.space.Goals as goal

pub returns : goal.returns
returns c = sym (length-replicate {0} {A = ℕ} 2097152 0)
