-- The codes below, of, and above the two types of strings, each by one computed test. Assumes nothing.
use mathlib.Core.Bool.{true, false}
use native.Mathlib.Omega.{arith}
use Rattle.types.specs.Ids.{size_of, shape_of}
use Rattle.types.proofs.Sizes.{rule_run}
use Rattle.store.specs.Layout.{is_text, text_by}
use Rattle.store.proofs.layout.is_text.Goals as goal

pub returns-in-65 : goal.returns-in-65
unfolding is_text shape_of size_of
returns-in-65 c = rule_run (λ t. text_by (shape_of t)) true 0x41 2 tt c.args.a.type_id.0 (omega arith) (omega arith)

pub returns-in_default : goal.returns-in_default
unfolding is_text shape_of size_of
returns-in_default c = rule_run (λ t. text_by (shape_of t)) false 0 0x41 tt c.args.a.type_id.0 (omega arith) (omega arith)

pub returns-in_default-2 : goal.returns-in_default-2
unfolding is_text shape_of size_of
returns-in_default-2 c = rule_run (λ t. text_by (shape_of t)) false 0x43 0xbd tt c.args.a.type_id.0 (omega arith) (omega arith)
