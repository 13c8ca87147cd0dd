-- What is left of the digits equals the whole. Assumes nothing.
use Rattle.std.proofs.Common.{◌∙◌, ◌+◌, ◌++◌, sym, ap, take, drop, arith}
use lib.ListN.{set}
use mathlib.Core.List.{append-nil}
use Rattle.bench.specs.Bench.{hex}
use Rattle.bench.proofs.Laid.{hex_step, hex_done}
use Rattle.bench.proofs.text.put_hex.Goals as goal

pub loop-b-preserved : goal.loop-b-preserved
loop-b-preserved c =
    let l = c.loop-b in (
      omega arith,
      (λ i. take (l.p + 2) (set (set l.out l.p (c.digit.ensures i)) (l.p + 1) (c.digit-in-loop-b.ensures i)) ++ hex (drop (l.b-index + 1) c.args.bytes.now))
          ∙ hex_step l.out c.args.bytes.now l.p l.b-index (omega arith) (omega arith)
          ∙ l.invariant.1,
    )

pub returns : goal.returns
returns c =
    let l = c.loop-b in
    sym (ap (λ r. take l.p l.out ++ r) (hex_done c.args.bytes.now l.b-index (omega arith)) ∙ append-nil (take l.p l.out)) ∙ l.invariant.1
