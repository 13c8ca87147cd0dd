-- The two length bytes are read, and as many bytes follow as they count. Assumes nothing.
use Rattle.std.specs.Prelude.{Ok, Err}
use Rattle.std.proofs.Common.{rules}
use mathlib.Core.Path.{◌≡◌, sym, ◌∙◌}
use Rattle.types.specs.Extent.{upto}
use Rattle.types.proofs.Extents.{text_from, text_cut}
use Rattle.types.proofs.extent.long_text_extent.Goals as goal

pub returns-in_err-first : goal.returns-in_err-first
returns-in_err-first c =
    let kept : c.from_residual.result ≡ Err c.in_err-first.field-0.0 = search rules in
    kept ∙ text_cut 2 c.args.s.now c.args.p _ (sym c.span.ensures ∙ c.in_err-first.was)

pub returns : goal.returns
returns c =
    let head : upto c.args.s.now c.args.p 2 ≡ Ok c.in_ok-first.first = sym c.span.ensures ∙ c.in_ok-first.was in
    text_from 2 c.args.s.now c.args.p _ _ _ head c.counted.ensures.means c.span-2.ensures
