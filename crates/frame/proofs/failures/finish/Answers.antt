-- Failures are listed, or one 00 is put behind the header. Assumes nothing.
use Rattle.std.specs.Prelude.{Option}
use Prim.Native.Nat.{ℕ}
use mathlib.Core.Path.{sym, ap, ◌∙◌}
use Rattle.frame.specs.Inside.Failures.{sent}
use Rattle.frame.proofs.Listings.{conclude_listed, conclude_none}
use Rattle.frame.proofs.failures.finish.Goals as goal

pub returns-then-out-start : goal.returns-then-out-start
returns-then-out-start c =
    let a = c.args in
    conclude_listed a.reply.now a.start a.out c.if-out-start.true

pub returns-in_default : goal.returns-in_default
returns-in_default c =
    let a = c.args in
    let y = c.put_byte in
    c.refuse.ensures
    ∙ ap (λ (x : Option ℕ). sent x y.new.buffer) (sym c.in_default.is)
    ∙ conclude_none a.reply.now a.start a.out c.if-out-start.false c.from.result c.from.ensures y.result y.new.buffer y.ensures

pub returns : goal.returns
returns c =
    let a = c.args in
    let y = c.put_byte in
    ap (λ (x : Option ℕ). sent x y.new.buffer) (sym c.in-Some.is)
    ∙ conclude_none a.reply.now a.start a.out c.if-out-start.false c.from.result c.from.ensures y.result y.new.buffer y.ensures
