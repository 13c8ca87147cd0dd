-- Each way of a Default Response. Assumes nothing.
use mathlib.Core.Path.{sym, ◌∙◌}
use lib.ListN.{length}
use Rattle.server.proofs.Defaults.{default_many, default_silenced, default_headless, default_full, default_sent}
use Rattle.server.proofs.default_response.default_response.Goals as goal

pub returns-then-not-unicast : goal.returns-then-not-unicast
returns-then-not-unicast c = default_many c.args.request c.args.unicast c.args.status (length c.args.reply.now) c.refuse.result _ (c.if-not-unicast.true) c.refuse.ensures

pub returns-then-is_silenced : goal.returns-then-is_silenced
returns-then-is_silenced c = default_silenced c.args.request c.args.unicast c.args.status (length c.args.reply.now) c.refuse-then-is_silenced.result _ (sym c.is_silenced.ensures ∙ c.if-is_silenced.true) c.refuse-then-is_silenced.ensures

pub returns-in_default : goal.returns-in_default
returns-in_default c = default_headless c.args.request c.args.unicast c.args.status (length c.args.reply.now) (c.if-not-unicast.false) (sym c.is_silenced.ensures ∙ c.if-is_silenced.false) c.begin_reply.result c.begin_reply.new.reply c.begin_reply.ensures c.in_default.is c.refuse-in_default.result _ c.refuse-in_default.ensures

pub returns-in_default-put_run : goal.returns-in_default-put_run
returns-in_default-put_run c = default_full c.args.request c.args.unicast c.args.status (length c.args.reply.now) (c.if-not-unicast.false) (sym c.is_silenced.ensures ∙ c.if-is_silenced.false) c.begin_reply.result c.begin_reply.new.reply c.begin_reply.ensures c.in-Some.from c.in-Some.is c.from.result c.from.ensures c.put_run.result c.put_run.new.buffer c.put_run.ensures c.in_default-put_run.is c.refuse-in_default-put_run.result _ c.refuse-in_default-put_run.ensures

pub returns : goal.returns
returns c = default_sent c.args.request c.args.unicast c.args.status (length c.args.reply.now) (c.if-not-unicast.false) (sym c.is_silenced.ensures ∙ c.if-is_silenced.false) c.begin_reply.result c.begin_reply.new.reply c.begin_reply.ensures c.in-Some.from c.in-Some.is c.from.result c.from.ensures c.put_run.result c.put_run.new.buffer c.put_run.ensures _ c.in-Some-put_run.is
