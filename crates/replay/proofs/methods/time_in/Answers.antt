-- Two halves of two bytes are a number of four. Assumes nothing.
use mathlib.Core.Path.{◌∙◌}
use Prim.Native.Nat.{◌+◌, ◌*◌}
use Rattle.reporting.proofs.Carriage.{unsigned_join}
use Rattle.replay.proofs.methods.time_in.Goals as goal

pub returns : goal.returns
returns c =
    (λ i. c.u16_at-low.ensures i + 65536 * c.u16_at-high.ensures i) ∙ unsigned_join c.args.call.now 5 2 2
