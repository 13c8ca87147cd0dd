-- A frame, or nothing written, by why. Assumes nothing.
use mathlib.Core.Path.{sym, ap}
use mathlib.Core.Bool.{cond}
use Rattle.frame.specs.declared.answer.Refusal.TheVariants.{ReplyTooLong, NothingToSend}
use Rattle.report.proofs.Ended.{finish_none, finish_some}
use Rattle.report.proofs.turn.finish.Goals as goal

pub returns-then-from-c : goal.returns-then-from-c
returns-then-from-c c = finish_some c.args.frame.now c.args.from c.args.c c.if-from-c.true

pub returns-then-c : goal.returns-then-c
returns-then-c c = finish_none c.args.frame.now c.args.from c.args.c ReplyTooLong (sym (ap (λ b. cond b ReplyTooLong NothingToSend) c.if-c.true)) c.if-from-c.false c.refuse.result c.refuse.new.reply c.refuse.ensures

pub returns : goal.returns
returns c = finish_none c.args.frame.now c.args.from c.args.c NothingToSend (sym (ap (λ b. cond b ReplyTooLong NothingToSend) c.if-c.false)) c.if-from-c.false c.refuse-2.result c.refuse-2.new.reply c.refuse-2.ensures
