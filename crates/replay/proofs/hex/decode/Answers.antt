-- Each pair of digits leaves the same to read. Assumes nothing.
use Rattle.std.proofs.Common.{arith}
use Rattle.std.proofs.lemmas.Bool.Decides.{nat_tests}
use Rattle.replay.proofs.Digits.{hex_none, read_bad, read_more, read_all}
use Rattle.replay.proofs.hex.decode.Goals as goal

pub returns-then-not-is_empty-clause-out_after : goal.returns-then-not-is_empty-clause-out_after
returns-then-not-is_empty-clause-out_after c = hex_none _ _ (λ e. grind (arith, nat_tests))

pub returns-then-high-gt15-clause-out_after : goal.returns-then-high-gt15-clause-out_after
returns-then-high-gt15-clause-out_after c =
    read_bad c.args.digits.now _ c.loop-i.i _ _ c.loop-i.invariant (omega arith) (omega arith) _ _ _ c.as_chunks.ensures.front c.digit-high.ensures c.digit-low.ensures c.then-high-gt15.either

pub loop-i-preserved : goal.loop-i-preserved
loop-i-preserved c =
    read_more c.args.digits.now _ c.loop-i.i _ _ c.loop-i.invariant (omega arith) (omega arith) _ _ _ c.as_chunks.ensures.front c.digit-high.ensures c.digit-low.ensures (omega arith) (omega arith) (omega arith)

pub returns-clause-out_after : goal.returns-clause-out_after
returns-clause-out_after c = read_all c.args.digits.now _ c.loop-i.i _ _ c.loop-i.invariant _ (omega arith) (grind (arith, nat_tests))
