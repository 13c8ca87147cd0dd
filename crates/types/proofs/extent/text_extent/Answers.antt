-- The length byte is read, and as many bytes follow as it counts. Assumes nothing.
use Rattle.std.specs.Prelude.{Ok, Err}
use Rattle.std.proofs.Common.{rules}
use mathlib.Core.Path.{◌≡◌, sym, ◌∙◌}
use Rattle.types.specs.Extent.{upto}
use Rattle.types.proofs.Numbers.{one_byte}
use Rattle.types.proofs.Extents.{count_mark, count_plain, text_from, text_cut}
use Rattle.types.proofs.extent.text_extent.Goals as goal

pub returns-in_err-first : goal.returns-in_err-first
returns-in_err-first c =
    let kept : c.from_residual.result ≡ Err c.in_err-first.field-0.0 = search rules in
    kept ∙ text_cut 1 c.args.s.now c.args.p _ (sym c.span.ensures ∙ c.in_err-first.was)

pub returns-then-n-eq255 : goal.returns-then-n-eq255
returns-then-n-eq255 c =
    let head : upto c.args.s.now c.args.p 1 ≡ Ok c.in_ok-first.first = sym c.span.ensures ∙ c.in_ok-first.was in
    let a = c.args in
    text_from 1 a.s.now a.p _ 0 _ head
    (count_mark 1 a.s.now a.p _ (c.byte_at-n.ensures ∙ one_byte a.s.now a.p) c.if-n-eq255.true)
    c.span-then-n-eq255.ensures

pub returns : goal.returns
returns c =
    let head : upto c.args.s.now c.args.p 1 ≡ Ok c.in_ok-first.first = sym c.span.ensures ∙ c.in_ok-first.was in
    let a = c.args in
    text_from 1 a.s.now a.p _ _ _ head
    (count_plain 1 a.s.now a.p _ (c.byte_at-n.ensures ∙ one_byte a.s.now a.p) c.if-n-eq255.false)
    c.span-2.ensures
