-- The parts of the input, and the request. Assumes nothing.
use mathlib.Core.Path.{◌∙◌}
use native.Mathlib.Omega.{arith}
use lib.Seq.{length-take-le}
use Rattle.replay.proofs.Served.{request_short, request_whole}
use Rattle.replay.proofs.requests.of_request.Goals as goal

pub returns-then-input-n : goal.returns-then-input-n
returns-then-input-n c =
    request_short c.args.input.now c.args.held.now _ _ _ c.byte_at-room.ensures c.byte_at.ensures c.u16_at-k.ensures c.if-input-n.true

pub returns : goal.returns
returns c =
    c.served.ensures
    ∙ request_whole c.args.input.now c.args.held.now _ _ _ (length-take-le _ _ (omega arith) ∙ c.byte_at-room.ensures) c.byte_at.ensures c.u16_at-k.ensures c.if-input-n.false _ _ _ c.part.ensures c.part-2.ensures c.rest.ensures
