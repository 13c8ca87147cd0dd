-- `attributes::read_attributes` meets its contract: no room for the header, or the walk behind it. Assumes nothing.
use Rattle.std.specs.Prelude.{Err, Result, ℕ}
use Rattle.std.proofs.Common.{rules}
use mathlib.Core.Path.{◌≡◌, ap, ◌∙◌}
use Rattle.frame.specs.Answer.{seen, no_state}
use Rattle.frame.specs.declared.answer.Refusal.{Refusal}
use Rattle.frame.specs.declared.answer.Refusal.TheVariants.{ReplyTooLong}
use Rattle.frame.proofs.Shortened.{shortened_headless, shortened_walked}
use Rattle.read.specs.Read.{read_of}
use Rattle.read.proofs.attributes.read_attributes.Goals as goal

pub returns-in_err-from : goal.returns-in_err-from
unfolding read_of
returns-in_err-from c =
    let why : c.in_err-from.field-0.0 ≡ ReplyTooLong = cc (rw c.in_err-from.ensures.ok_part at c.in_err-from.ensures.value) in
    let kept : c.from_residual.result ≡ Err ReplyTooLong = search rules in
    ap (λ (r : Result ℕ Refusal). seen r c.write_response_header.new.reply no_state) kept
    ∙ shortened_headless _ _ _ _ _ c.clear.ensures _ _ c.write_response_header.ensures _ c.in_err-from.ensures.ok_part

pub returns : goal.returns
unfolding read_of
returns c =
    shortened_walked _ _ _ _ _ c.clear.ensures _ _ c.write_response_header.ensures
    _ _ _ c.in_ok-from.ensures.ok_part c.read_records.result _ c.read_records.ensures
