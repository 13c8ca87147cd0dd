-- The parts of the input, and the write. Assumes nothing.
use mathlib.Core.Path.{◌∙◌}
use Rattle.replay.proofs.Says.{write_short, write-says}
use Rattle.replay.proofs.stores.of_write.Goals as goal

pub returns-then-input-n : goal.returns-then-input-n
returns-then-input-n c =
    write_short c.args.input.now c.args.held.now _ c.u16_at-n.ensures c.if-input-n.true

pub returns : goal.returns
returns c =
    c.written.ensures
    ∙ write-says c.args.input.now c.args.held.now _ _ _ _ c.u16_at-n.ensures c.if-input-n.false c.rest-store.ensures c.name_at_start.ensures c.part.ensures
