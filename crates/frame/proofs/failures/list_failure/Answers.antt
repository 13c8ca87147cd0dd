-- A success is not listed. Assumes nothing.
use mathlib.Core.Path.{sym, ◌∙◌}
use borrow.Author.Tests.{eqb-true, eqb-false}
use Rattle.frame.proofs.Codes.{is_success}
use Rattle.frame.proofs.Listings.{note_success, note_failure}
use Rattle.frame.proofs.failures.list_failure.Goals as goal

pub returns-then-eq : goal.returns-then-eq
returns-then-eq c =
    let a = c.args in
    sym (note_success a.reply.now a.out a.status a.failure.now (eqb-true _ 0 (sym (is_success a.status) ∙ sym c.eq.ensures ∙ c.if-eq.true)))

pub returns : goal.returns
returns c =
    let a = c.args in
    c.put_run.ensures
    ∙ sym (note_failure a.reply.now a.out a.status a.failure.now (eqb-false _ 0 (sym (is_success a.status) ∙ sym c.eq.ensures ∙ c.if-eq.false)))
