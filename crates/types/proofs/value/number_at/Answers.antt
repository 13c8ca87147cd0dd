-- Each way out is one law of the definition: no size, too wide, an Int, any other. Assumes nothing.
use Rattle.std.specs.Prelude.{Some}
use mathlib.Core.Path.{ap, sym, ◌∙◌}
use Rattle.types.proofs.Machine.{came_back}
use Rattle.types.proofs.Numbers.{unsigned_below}
use Rattle.types.proofs.Values.{number_varies, number_wide, sign_read, signed_way, plain_way}
use Rattle.types.proofs.value.number_at.Goals as goal

pub returns-in_err-w : goal.returns-in_err-w
returns-in_err-w c = c.from_residual.ensures ∙ sym (number_varies _ _ _ (sym c.fixed_size.ensures ∙ c.in_err-w.was))

pub returns-then-w-gt8 : goal.returns-then-w-gt8
returns-then-w-gt8 c = sym (number_wide _ _ _ _ (sym c.fixed_size.ensures ∙ c.in_ok-w.was) c.if-w-gt8.true)

pub sign_extended-requires : goal.sign_extended-requires
sign_extended-requires c = rw c.unsigned_at-n.ensures (unsigned_below _ _ _ (λ i. (c.type_inv.s i).fits))

pub returns-then-is_signed : goal.returns-then-is_signed
returns-then-is_signed c =
    let a = c.args in
    ap Some (came_back _ c.sign_extended.type_inv)
    ∙ signed_way a.s.now a.at a.type_id.0 _ _ (sym c.fixed_size.ensures ∙ c.in_ok-w.was) c.if-w-gt8.false (sym c.is_signed.ensures ∙ c.if-is_signed.true)
    (sign_read a.s.now a.at _ _ _ c.sign_extended.ensures c.unsigned_at-n.ensures)

pub returns : goal.returns
returns c =
    let a = c.args in
    ap Some (came_back _ c.bits_i64.type_inv)
    ∙ plain_way a.s.now a.at a.type_id.0 _ _ _ (λ i. (c.type_inv.s i).fits) (sym c.fixed_size.ensures ∙ c.in_ok-w.was) c.if-w-gt8.false (sym c.is_signed.ensures ∙ c.if-is_signed.false) c.bits_i64.ensures c.unsigned_at-n.ensures
