-- No store, no room for the header, an empty list, or the ids of the list. Assumes nothing.
use Rattle.std.specs.Prelude.{Err, Result, ℕ}
use Rattle.std.proofs.Common.{rules}
use mathlib.Core.Path.{◌≡◌, ap, sym, ◌∙◌}
use Rattle.frame.specs.Answer.{seen, no_state}
use Rattle.frame.specs.declared.answer.Refusal.{Refusal}
use Rattle.frame.specs.declared.answer.Refusal.TheVariants.{ReplyTooLong}
use Rattle.report.proofs.Whole.{report_of_none, report_headless, report_empty, report_all}
use Rattle.report.proofs.report.report.Goals as goal

pub returns-then-not-is_store : goal.returns-then-not-is_store
returns-then-not-is_store c = c.refuse.ensures ∙ report_of_none _ _ _ _ (sym c.is_store.ensures ∙ c.if-not-is_store.true)

pub returns-in_err-from : goal.returns-in_err-from
returns-in_err-from c =
    let why : c.in_err-from.field-0.0 ≡ ReplyTooLong = cc (rw c.in_err-from.ensures.ok_part at c.in_err-from.ensures.value) in
    let kept : c.from_residual.result ≡ Err ReplyTooLong = search rules in
    ap (λ (r : Result ℕ Refusal). seen r c.write_response_header.new.reply no_state) kept
    ∙ report_headless _ _ _ _ (sym c.is_store.ensures ∙ c.if-not-is_store.false) _ c.clear.ensures _ c.unasked-request.ensures _ _ c.write_response_header.ensures c.in_err-from.ensures.ok_part

pub returns-then-ids-eq0 : goal.returns-then-ids-eq0
returns-then-ids-eq0 c =
    report_empty _ _ _ _ (sym c.is_store.ensures ∙ c.if-not-is_store.false) _ c.clear.ensures _ c.unasked-request.ensures _ _ c.write_response_header.ensures _ c.in_ok-from.ensures.ok_part
    c.if-ids-eq0.true c.refuse-then-ids-eq0.result _ c.refuse-then-ids-eq0.ensures

pub returns : goal.returns
returns c =
    report_all _ _ _ _ (sym c.is_store.ensures ∙ c.if-not-is_store.false) _ c.clear.ensures _ c.unasked-request.ensures _ _ c.write_response_header.ensures _ c.in_ok-from.ensures.ok_part
    c.if-ids-eq0.false c.report_records.result _ c.report_records.ensures
