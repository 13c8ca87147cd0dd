-- The parts of the input, what its frame asks for, and the answers. Assumes nothing.
use Rattle.std.specs.Prelude.{Some}
use mathlib.Core.Path.{sym, ap, ◌∙◌}
use Rattle.replay.proofs.Answers.{command_room, command_short, command_none, command_says}
use Rattle.replay.proofs.commands.of_command.Goals.{then-last-gt63-via-then-last-gt63, then-last-gt63-via-else-last-gt63+then-input-n}
use Rattle.replay.proofs.commands.of_command.Goals as goal

pub returns-then-last-gt63 : goal.returns-then-last-gt63
returns-then-last-gt63 c =
    elim c.then-last-gt63.branch [
      | then-last-gt63-via-then-last-gt63 w ↦ command_room c.args.input.now c.args.held.now _ _ c.byte_at-last.ensures c.u16_at-n.ensures w.if-last-gt63.true
      | then-last-gt63-via-else-last-gt63+then-input-n w ↦ command_short c.args.input.now c.args.held.now _ _ c.byte_at-last.ensures c.u16_at-n.ensures w.if-last-gt63.false w.if-input-n.true
    ]

pub returns-in_err-command : goal.returns-in_err-command
returns-in_err-command c =
    c.from_residual.ensures
    ∙ command_none c.args.input.now c.args.held.now _ _ c.byte_at-last.ensures c.u16_at-n.ensures c.if-last-gt63.false c.if-input-n.false _ c.rest-frame.ensures
    (sym c.asked_of.ensures ∙ c.in_err-command.was)

pub returns : goal.returns
returns c =
    ap Some c.rooms.ensures
    ∙ command_says c.args.input.now c.args.held.now _ _ c.byte_at-last.ensures c.u16_at-n.ensures c.if-last-gt63.false c.if-input-n.false _ c.rest-frame.ensures
    _ _ _ _ (sym c.asked_of.ensures ∙ c.in_ok-command.was) c.rest-body.ensures c.part.ensures
