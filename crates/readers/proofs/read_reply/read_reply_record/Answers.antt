-- A record that was met in a pass, with where its value lies. Assumes nothing.
use mathlib.Core.Path.{sym, ap, ◌∙◌}
use mathlib.Core.List.{List}
use Prim.Native.Nat.{ℕ}
use lib.ListN.{get_or}
use Rattle.types.specs.Number.{unsigned_at}
use Rattle.frame.specs.declared.command_identifier.CommandIdentifier.TheVariants.{ReadAttributesResponse}
use Rattle.readers.specs.declared.layout.Layout.TheVariants.{ReadStatus}
use Rattle.readers.specs.Values.{read_held, read_reply_held}
use Rattle.readers.proofs.Records.{there}
use Rattle.readers.proofs.SpanSizes.{span_long, span_within, read_behind}
use Rattle.readers.proofs.Values.{read_failed, read_held_lem}
use Rattle.readers.proofs.read_reply.read_reply_record.Goals as goal

pub returns-then-status-ne0 : goal.returns-then-status-ne0
unfolding read_reply_held
returns-then-status-ne0 c =
    let f = c.args.frame.now in
    let id = c.u16_at.ensures ∙ ap (λ (b : List ℕ). unsigned_at b 0 2) c.bytes_in-part.ensures in
    let status = c.byte_at-status.ensures ∙ ap (λ (b : List ℕ). get_or b 2 0) c.bytes_in-part.ensures in
    there (read_held f) _ _ c.in_ok-swept.ensures c.in-Some.is (read_failed f _ id status c.if-status-ne0.true)

pub value_in-value-requires : goal.value_in-value-requires
value_in-value-requires c =
    let e = c.in_ok-swept.ensures in
    let status = c.byte_at-status.ensures ∙ ap (λ (b : List ℕ). get_or b 2 0) c.bytes_in-part.ensures in (
      read_behind _ _ (span_long ReadAttributesResponse ReadStatus _ _ e c.in-Some.is) (sym status ∙ c.if-status-ne0.false),
      span_within ReadAttributesResponse ReadStatus _ _ e c.in-Some.is,
    )

pub returns : goal.returns
unfolding read_reply_held
returns c =
    let f = c.args.frame.now in
    let id = c.u16_at.ensures ∙ ap (λ (b : List ℕ). unsigned_at b 0 2) c.bytes_in-part.ensures in
    let status = c.byte_at-status.ensures ∙ ap (λ (b : List ℕ). get_or b 2 0) c.bytes_in-part.ensures in
    there (read_held f) _ _ c.in_ok-swept.ensures c.in-Some.is (read_held_lem f _ id status c.if-status-ne0.false c.value_in-value.ensures)
