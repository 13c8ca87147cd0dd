-- Nothing of a short frame, else seven bytes. Assumes nothing.
use Rattle.std.specs.Prelude.{Some}
use mathlib.Core.Path.{sym, ap, ◌∙◌}
use Rattle.replay.specs.Ours.{bit_of, frame_type_byte}
use Rattle.replay.proofs.Matches.{pointwise_same}
use Rattle.replay.proofs.Says.{bit_is, header_short, header-says}
use Rattle.replay.proofs.cases.of_header.Goals as goal

pub returns-in_default : goal.returns-in_default
returns-in_default c =
    ap Some c.is_empty.ensures ∙ header_short c.args.input.now c.args.held.now (sym c.read_header.ensures ∙ c.in_default.is)

pub returns : goal.returns
returns c =
    ap Some (c.eq.ensures ∙ pointwise_same _ _)
    ∙ header-says c.args.input.now c.args.held.now _ _ _ _ _ _ (sym c.read_header.ensures ∙ c.in-Some.is)
    (c.frame_type_byte.ensures ∙ ap frame_type_byte c.frame_type.ensures)
    (c.from.ensures ∙ bit_is _ ∙ ap bit_of c.is_manufacturer_specific.ensures)
    c.low.ensures c.low-2.ensures c.low-3.ensures
