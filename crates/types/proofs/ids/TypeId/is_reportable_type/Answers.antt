-- Each arm holds for its codes by one computed test. Assumes nothing.
use mathlib.Core.Bool.{true, false}
use mathlib.Core.List.{[], ◌∷◌}
use native.Mathlib.Omega.{arith}
use Rattle.types.specs.Ids.{is_reportable}
use Rattle.types.proofs.Sizes.{rule_keys, rule_run, rule_rest}
use Rattle.types.proofs.ids.TypeId.is_reportable_type.Goals as goal

pub returns-in_default : goal.returns-in_default
unfolding is_reportable
returns-in_default c = rule_rest is_reportable true ((0x48 ∷ 0x4c ∷ []) ∷ []) 0 0x50 tt c.args.self.0 (omega arith) (omega (arith, c.in_default.if-code-lt80-own.true)) c.in_default.in_default-own.rest

pub returns-in_default-2 : goal.returns-in_default-2
unfolding is_reportable
returns-in_default-2 c = rule_rest is_reportable true ((0x48 ∷ 0x4c ∷ []) ∷ []) 0x52 0xae tt c.args.self.0 (omega (arith, c.in_default.if-code-lt82-own.false)) (omega arith) c.in_default.in_default-own.rest

pub returns-in-72 : goal.returns-in-72
unfolding is_reportable
returns-in-72 c = rule_keys is_reportable false (0x48 ∷ 0x4c ∷ []) tt c.args.self.0 c.in-72.is

pub returns-in-72-2 : goal.returns-in-72-2
unfolding is_reportable
returns-in-72-2 c = rule_run is_reportable false 0x50 2 tt c.args.self.0 (omega (arith, c.in-72.if-code-lt80-own.false)) (omega (arith, c.in-72.if-code-lt82-own.true))
