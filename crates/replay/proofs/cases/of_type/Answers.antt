-- Three bytes of one, or none. Assumes nothing.
use Rattle.std.specs.Prelude.{Some}
use mathlib.Core.Path.{ap, ◌∙◌}
use Rattle.replay.specs.Ours.{bit_of, size_byte}
use Rattle.replay.proofs.Matches.{pointwise_same}
use Rattle.replay.proofs.Says.{bit_is, type_other, type_says}
use Rattle.replay.proofs.cases.of_type.Goals as goal

pub returns-then-input-ne1 : goal.returns-then-input-ne1
returns-then-input-ne1 c =
    type_other c.args.input.now c.args.held.now c.if-input-ne1.true

pub returns : goal.returns
returns c =
    ap Some (c.eq.ensures ∙ pointwise_same _ _)
    ∙ type_says c.args.input.now c.args.held.now _ _ _ c.if-input-ne1.false
    (c.size_byte.ensures ∙ ap size_byte c.fixed_size.ensures)
    (c.from.ensures ∙ bit_is _ ∙ ap bit_of c.is_analog.ensures)
    (c.from-2.ensures ∙ bit_is _ ∙ ap bit_of c.is_reportable_type.ensures)
