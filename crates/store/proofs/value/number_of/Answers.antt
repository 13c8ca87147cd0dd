-- Each way out is one law of the definition. Assumes nothing.
use mathlib.Core.Path.{◌≡◌, ap, sym, ◌∙◌}
use mathlib.Core.Bool.{true}
use Rattle.std.specs.Prelude.{Some, None, Err, Option, ok_or, ℤ}
use Rattle.std.proofs.Common.{rules}
use Rattle.frame.specs.declared.answer.Refusal.TheVariants.{NoNumber}
use Rattle.store.specs.Contents.{find_of}
use Rattle.store.specs.Layout.{is_store}
use Rattle.store.specs.Value.{telling}
use Rattle.store.proofs.Tells.{number_no_store, number_absent, number_or}
use Rattle.store.proofs.value.number_of.Goals as goal

pub returns-then-not-is_store : goal.returns-then-not-is_store
returns-then-not-is_store c = sym (ap telling (number_no_store 8 c.args.s.now c.args.name.0 (sym c.is_store.ensures ∙ c.if-not-is_store.true)))

pub returns-in_err-a : goal.returns-in_err-a
returns-in_err-a c =
    let store : is_store 8 c.args.s.now ≡ true = sym c.is_store.ensures ∙ c.if-not-is_store.false in
    let none : find_of 8 c.args.s.now c.args.name.0 ≡ None = sym c.find.ensures ∙ c.in_err-a.ensures.ok_part in
    let why : c.in_err-a.field-0.0 ≡ NoNumber = cc (rw c.in_err-a.ensures.ok_part at c.in_err-a.ensures.value) in
    let kept : c.from_residual.result ≡ Err NoNumber = search rules in
    ap telling (kept ∙ sym (number_absent 8 c.args.s.now c.args.name.0 store none))

pub returns : goal.returns
returns c =
    let store : is_store 8 c.args.s.now ≡ true = sym c.is_store.ensures ∙ c.if-not-is_store.false in
    let found : find_of 8 c.args.s.now c.args.name.0 ≡ Some c.in_ok-a.a = sym c.find.ensures ∙ c.in_ok-a.ensures.ok_part in
    ap telling (c.ok_or-2.ensures.value ∙ ap (λ (o : Option ℤ). ok_or o NoNumber) c.number_at.ensures ∙ sym (number_or 8 c.args.s.now c.args.name.0 store _ found))
