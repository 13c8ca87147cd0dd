-- A string by its length byte, any other value by its room. Assumes nothing.
use native.Mathlib.Omega.{arith}
use Rattle.std.proofs.lemmas.Grind.{common_steps}
use Rattle.store.specs.Value.{used_of}
use Rattle.store.proofs.Layouts.{text_length_below}
use Rattle.store.proofs.value.used_of.Goals as goal

pub overflow_add-result : goal.overflow_add-result
overflow_add-result c = omega (arith, c.text_length.ensures, text_length_below c.args.s.now c.args.a (c.type_inv.s c.args.a.offset).fits)

pub returns-then-is_text : goal.returns-then-is_text
unfolding used_of
returns-then-is_text c = grind (arith, common_steps)

pub returns-else-is_text : goal.returns-else-is_text
unfolding used_of
returns-else-is_text c = grind (arith, common_steps)
