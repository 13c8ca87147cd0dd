-- Each room leaves the same to compare. Assumes nothing.
use Rattle.replay.specs.Commands.{answer_with}
use Rattle.replay.proofs.Answers.{Going}
use Rattle.replay.proofs.commands.rooms.Given as goal

abbrev pub invariant-loop-room : goal.invariant-loop-room
invariant-loop-room l = Going (answer_with l.command l.request l.body l.store) l.last l.held l.place l.room
