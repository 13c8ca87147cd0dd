-- `attributes::next_id` meets its contract: two bytes, or a cut id. Assumes nothing.
use mathlib.Core.Path.{ap, ◌∙◌}
use Prim.Native.Nat.{ℕ, ◌+◌}
use native.Mathlib.Omega.{arith}
use Rattle.frame.specs.Walk.{item}
use Rattle.read.proofs.Ids.{id_cut, id_here}
use Rattle.read.proofs.attributes.next_id.Goals as goal

pub returns-then-body-lt2 : goal.returns-then-body-lt2
returns-then-body-lt2 c =
    id_cut c.args.body.now c.args.at (omega (arith, c.if-body-lt2.true))

pub returns-then-body-at : goal.returns-then-body-at
returns-then-body-at c =
    id_cut c.args.body.now c.args.at (omega (arith, c.if-body-lt2.false, c.if-body-at.true))

pub returns : goal.returns
returns c =
    ap (λ (k : ℕ). item k (c.args.at + 2)) c.u16_at.ensures ∙ id_here c.args.body.now c.args.at (omega (arith, c.if-body-lt2.false, c.if-body-at.false))
