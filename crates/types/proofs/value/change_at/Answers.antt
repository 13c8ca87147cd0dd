-- Each way out is one law of the definition: no size, a float, an Int, any other. Assumes nothing.
use mathlib.Core.Path.{ap, sym, ◌∙◌}
use native.Mathlib.Omega.{arith}
use lib.IntN.{nat_abs}
use Rattle.types.proofs.Machine.{came_back}
use Rattle.types.proofs.Numbers.{unsigned_below}
use Rattle.types.proofs.Rules.{float_plain}
use Rattle.types.proofs.Values.{sign_read, change_varies, change_signed, change_float, change_plain}
use Rattle.types.proofs.value.change_at.Goals as goal

pub returns-in_default : goal.returns-in_default
returns-in_default c = sym (change_varies _ _ _ (sym c.fixed_size.ensures ∙ c.in_default.is))

pub returns-then-is_float : goal.returns-then-is_float
returns-then-is_float c =
    let f = sym c.is_float.ensures ∙ c.if-is_float.true in
    sym (change_float _ _ _ _ (sym c.fixed_size.ensures ∙ c.in-Some.is) (float_plain c.args.type_id.0 (omega arith) f) f)

pub sign_extended-requires : goal.sign_extended-requires
sign_extended-requires c = rw c.unsigned_at-n.ensures (unsigned_below _ _ _ (λ i. (c.type_inv.s i).fits))

pub returns-then-is_signed : goal.returns-then-is_signed
returns-then-is_signed c =
    let a = c.args in
    let x = c.sign_extended in
    c.magnitude.ensures
    ∙ ap nat_abs (came_back _ x.type_inv ∙ sign_read a.s.now a.at _ _ _ x.ensures c.unsigned_at-n.ensures)
    ∙ sym (change_signed _ _ _ _ (sym c.fixed_size.ensures ∙ c.in-Some.is) (sym c.is_signed.ensures ∙ c.if-is_signed.true))

pub returns : goal.returns
returns c =
    c.unsigned_at-n.ensures
    ∙ sym (change_plain _ _ _ _ (sym c.fixed_size.ensures ∙ c.in-Some.is) (sym c.is_signed.ensures ∙ c.if-is_signed.false) (sym c.is_float.ensures ∙ c.if-is_float.false))
