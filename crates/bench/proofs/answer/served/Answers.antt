-- Too long for a store, or served over the copy. Assumes nothing.
use mathlib.Core.Path.{◌≡◌, ap, ◌∙◌}
use native.Mathlib.Omega.{arith}
use lib.ListN.{length, take}
use Rattle.bench.specs.Bench.{decimal}
use Rattle.bench.proofs.Says.{said_too_long, copied, said_served}
use Rattle.bench.proofs.answer.served.Goals as goal

pub returns-then-n-gt4096 : goal.returns-then-n-gt4096
returns-then-n-gt4096 c =
    let a = c.args in
    c.put_number.ensures
    ∙ ap decimal c.from.ensures
    ∙ said_too_long a.store.now a.request.now (omega arith)

pub returns : goal.returns
returns c =
    let store_copied : take (length ((c.args.store.now))) c.put_run.new.buffer ≡ (c.args.store.now) = copied _ _ _ _ (omega arith) c.put_run.ensures in
    let a = c.args in
    c.put_answer.ensures
    ∙ said_served a.store.now c.put_run.new.buffer a.request.now _ c.new.result _ c.handle_request-after.result.answer _
    store_copied c.new.ensures c.cluster_of.ensures c.handle_request-after.ensures
