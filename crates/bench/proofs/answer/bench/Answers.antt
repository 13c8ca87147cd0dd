-- Cut short, or the store and the request behind it. Assumes nothing.
use mathlib.Core.Path.{ap, ◌∙◌}
use native.Mathlib.Omega.{arith}
use Rattle.bench.specs.Bench.{decimal}
use Rattle.bench.proofs.Says.{bench_cut, bench_whole}
use Rattle.bench.proofs.answer.bench.Goals as goal

pub returns-then-input-end : goal.returns-then-input-end
returns-then-input-end c =
    c.put_number.ensures
    ∙ ap decimal c.from.ensures
    ∙ bench_cut c.args.input.now c.u16_at-n.result c.u16_at-n.ensures (omega arith)

pub returns : goal.returns
returns c =
    c.served.ensures
    ∙ bench_whole c.args.input.now _ _ c.u16_at-n.result c.u16_at-n.ensures (omega arith)
    c.part-store.ensures c.part-request.ensures
