-- The header, and the records behind it. Assumes nothing.
use Rattle.configure.proofs.Turns.{command_full, command_run}
use Rattle.configure.proofs.configure.configure_reporting.Goals as goal

pub returns-in_default-clause-answered : goal.returns-in_default-clause-answered
returns-in_default-clause-answered c = command_full _ _ _ _ _ _ _ _ _ c.begin_reply-begun.ensures c.in_default.is c.refuse.ensures

pub returns-clause-answered : goal.returns-clause-answered
returns-clause-answered c =
    let y = c.configure_records-done in
    command_run _ _ _ _ _ _ _ _ _ c.begin_reply-begun.ensures _ c.in-Some.is _ _ _ y.ensures.run y.auto.reply c.conclude.ensures
