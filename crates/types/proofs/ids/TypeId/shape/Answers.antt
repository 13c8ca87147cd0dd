-- Each arm holds for its codes by one computed test. Assumes nothing.
use mathlib.Core.Path.{sym, ◌∙◌}
use mathlib.Core.List.{[], ◌∷◌}
use native.Mathlib.Omega.{arith}
use Rattle.types.specs.declared.ids.Shape.TheVariants.{Text, LongText, Series, Structure, Unknown}
use Rattle.types.proofs.Shapes.{shape_fixed, shape_keys, shape_run, shape_rest}
use Rattle.types.proofs.ids.TypeId.shape.Goals as goal

pub returns-in-Some : goal.returns-in-Some
returns-in-Some c = shape_fixed _ _ (sym c.fixed_size.ensures ∙ c.in-Some.is)

pub returns-in-76 : goal.returns-in-76
returns-in-76 c = shape_keys Structure (0x4c ∷ []) tt c.args.self.0 (sym c.fixed_size.ensures ∙ c.in_default.is) c.in-76.is

pub returns-in-65 : goal.returns-in-65
returns-in-65 c = shape_run Text 0x41 2 tt c.args.self.0 (sym c.fixed_size.ensures ∙ c.in_default.is) (omega (arith, c.in-65.if-code-lt65-own.false)) (omega (arith, c.in-65.if-code-lt67-own.true))

pub returns-in-67 : goal.returns-in-67
returns-in-67 c = shape_run LongText 0x43 2 tt c.args.self.0 (sym c.fixed_size.ensures ∙ c.in_default.is) (omega (arith, c.in-67.if-code-lt67-own.false)) (omega (arith, c.in-67.if-code-lt69-own.true))

pub returns-in_default-code : goal.returns-in_default-code
returns-in_default-code c = shape_run Unknown 0 0x41 tt c.args.self.0 (sym c.fixed_size.ensures ∙ c.in_default.is) (omega arith) (omega (arith, c.in_default-code.if-code-lt65-own.true))

pub returns-in_default-code-2 : goal.returns-in_default-code-2
returns-in_default-code-2 c = shape_rest Unknown ((0x4c ∷ []) ∷ (0x48 ∷ []) ∷ []) 0x45 11 tt c.args.self.0 (sym c.fixed_size.ensures ∙ c.in_default.is) (omega (arith, c.in_default-code.if-code-lt69-own.false)) (omega (arith, c.in_default-code.if-code-lt80-own.true)) c.in_default-code.in_default-own.rest

pub returns-in_default-code-3 : goal.returns-in_default-code-3
returns-in_default-code-3 c = shape_rest Unknown ((0x4c ∷ []) ∷ (0x48 ∷ []) ∷ []) 0x52 174 tt c.args.self.0 (sym c.fixed_size.ensures ∙ c.in_default.is) (omega (arith, c.in_default-code.if-code-lt82-own.false)) (omega arith) c.in_default-code.in_default-own.rest

pub returns-in-72 : goal.returns-in-72
returns-in-72 c = shape_keys Series (0x48 ∷ []) tt c.args.self.0 (sym c.fixed_size.ensures ∙ c.in_default.is) c.in-72.is

pub returns-in-72-2 : goal.returns-in-72-2
returns-in-72-2 c = shape_run Series 0x50 2 tt c.args.self.0 (sym c.fixed_size.ensures ∙ c.in_default.is) (omega (arith, c.in-72.if-code-lt80-own.false)) (omega (arith, c.in-72.if-code-lt82-own.true))
