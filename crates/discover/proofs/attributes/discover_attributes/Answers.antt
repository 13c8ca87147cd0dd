-- `attributes::discover_attributes` meets its contract: the body, the header, and the list. Assumes nothing.
use Rattle.std.specs.Prelude.{Err, Result, ℕ}
use Rattle.std.proofs.Common.{rules}
use mathlib.Core.Path.{◌≡◌, ap, ◌∙◌}
use Rattle.frame.specs.Answer.{seen, no_state}
use Rattle.frame.specs.declared.answer.Refusal.{Refusal}
use Rattle.frame.specs.declared.answer.Refusal.TheVariants.{ReplyTooLong}
use Rattle.types.specs.Number.{unsigned_at}
use Rattle.store.specs.Contents.{name_of}
use Rattle.discover.proofs.Whole.{discover_cut, discover_headless, discover_full, discover_listless, discover_listed}
use Rattle.discover.proofs.attributes.discover_attributes.Goals as goal

pub returns-then-body-lt3 : goal.returns-then-body-lt3
returns-then-body-lt3 c = discover_cut _ _ _ _ _ c.clear.ensures c.if-body-lt3.true

pub returns-in_err-from : goal.returns-in_err-from
returns-in_err-from c =
    let why : c.in_err-from.field-0.0 ≡ ReplyTooLong = cc (rw c.in_err-from.ensures.ok_part at c.in_err-from.ensures.value) in
    let kept : c.from_residual.result ≡ Err ReplyTooLong = search rules in
    ap (λ (r : Result ℕ Refusal). seen r c.write_response_header.new.reply no_state) kept
    ∙ discover_headless _ _ _ _ c.if-body-lt3.false _ c.clear.ensures _ _ c.write_response_header.ensures c.in_err-from.ensures.ok_part

pub returns-then-reply-from : goal.returns-then-reply-from
returns-then-reply-from c =
    c.refuse.ensures ∙ discover_full _ _ _ _ c.if-body-lt3.false _ c.clear.ensures _ _ c.write_response_header.ensures _ c.in_ok-from.ensures.ok_part c.if-reply-from.true

pub returns-in_default : goal.returns-in_default
returns-in_default c =
    let named : c.name_of-start.result.0 ≡ name_of c.args.request.manufacturer_code.0 (unsigned_at c.args.body.now 0 2) = c.name_of-start.ensures ∙ c.u16_at.ensures in
    c.refuse-in_default.ensures ∙ discover_listless _ _ _ _ c.if-body-lt3.false _ c.clear.ensures _ _ c.write_response_header.ensures _ c.in_ok-from.ensures.ok_part _ _ _ named c.byte_at.ensures c.listed-wanted.ensures c.if-reply-from.false _ _ c.put_list.ensures c.in_default.is

pub returns : goal.returns
returns c =
    let named : c.name_of-start.result.0 ≡ name_of c.args.request.manufacturer_code.0 (unsigned_at c.args.body.now 0 2) = c.name_of-start.ensures ∙ c.u16_at.ensures in
    discover_listed _ _ _ _ c.if-body-lt3.false _ c.clear.ensures _ _ c.write_response_header.ensures _ c.in_ok-from.ensures.ok_part _ _ _ named c.byte_at.ensures c.listed-wanted.ensures c.if-reply-from.false _ _ c.put_list.ensures _ c.in-Some.is c.put_list.auto.reply
