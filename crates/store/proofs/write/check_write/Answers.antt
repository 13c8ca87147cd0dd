-- Each way out is one law of the definition. Assumes nothing.
use native.Mathlib.Omega.{arith}
use Rattle.std.specs.Prelude.{Some}
use mathlib.Core.Bool.{true}
use borrow.Author.Tests.{eq-eqb, ne_eqb}
use Rattle.store.specs.Write.{is_writable}
use mathlib.Core.Path.{◌≡◌, sym, ◌∙◌}
use Rattle.store.specs.Contents.{find_of}
use Rattle.store.proofs.Writes.{check_none, check_locked, check_type, check_long, check_fine}
use Rattle.store.proofs.write.check_write.Goals as goal

pub returns-in_default : goal.returns-in_default
returns-in_default c = sym (check_none (find_of 8 c.args.s.now c.args.name.0) c.args.type_id.0 c.args.value.now (sym c.find.ensures ∙ c.in_default.is))

pub returns-then-a-ne1 : goal.returns-then-a-ne1
unfolding is_writable
returns-then-a-ne1 c =
    let found : find_of 8 c.args.s.now c.args.name.0 ≡ Some c.in-Some.a = sym c.find.ensures ∙ c.in-Some.is in
    sym (check_locked (find_of 8 c.args.s.now c.args.name.0) c.args.type_id.0 c.args.value.now _ found (ne_eqb _ 1 c.if-a-ne1.true))

pub returns-then-ne : goal.returns-then-ne
unfolding is_writable
returns-then-ne c =
    let found : find_of 8 c.args.s.now c.args.name.0 ≡ Some c.in-Some.a = sym c.find.ensures ∙ c.in-Some.is in
    let writable : is_writable c.in-Some.a ≡ true = eq-eqb _ 1 c.if-a-ne1.false in
    let e = c.if-ne.ensures in
    let other : c.in-Some.a.type_id.0 ≡ c.args.type_id.0 → ⊥ = grind (arith, e) in
    sym (check_type (find_of 8 c.args.s.now c.args.name.0) c.args.type_id.0 c.args.value.now _ found writable other)

pub returns-then-too_long : goal.returns-then-too_long
unfolding is_writable
returns-then-too_long c =
    let found : find_of 8 c.args.s.now c.args.name.0 ≡ Some c.in-Some.a = sym c.find.ensures ∙ c.in-Some.is in
    let writable : is_writable c.in-Some.a ≡ true = eq-eqb _ 1 c.if-a-ne1.false in
    let e = c.if-ne.ensures in
    let typed : c.in-Some.a.type_id.0 ≡ c.args.type_id.0 = grind (arith, e) in
    sym (check_long (find_of 8 c.args.s.now c.args.name.0) c.args.type_id.0 c.args.value.now _ found writable typed (sym c.too_long.ensures ∙ c.if-too_long.true))

pub returns : goal.returns
unfolding is_writable
returns c =
    let found : find_of 8 c.args.s.now c.args.name.0 ≡ Some c.in-Some.a = sym c.find.ensures ∙ c.in-Some.is in
    let writable : is_writable c.in-Some.a ≡ true = eq-eqb _ 1 c.if-a-ne1.false in
    let e = c.if-ne.ensures in
    let typed : c.in-Some.a.type_id.0 ≡ c.args.type_id.0 = grind (arith, e) in
    sym (check_fine (find_of 8 c.args.s.now c.args.name.0) c.args.type_id.0 c.args.value.now _ found writable typed (sym c.too_long.ensures ∙ c.if-too_long.false))
