-- Each way out is one law of the last line. Assumes nothing.
use mathlib.Core.Path.{refl, sym, ◌∙◌}
use Rattle.replay.proofs.Fields.{Got, field_lost, field_got, last_more, last_bad, last_other, last_is}
use Rattle.replay.proofs.verdict.last.Goals as goal

pub returns-then-contains : goal.returns-then-contains
returns-then-contains c = last_more c.args.fields.now (sym c.contains.ensures.value ∙ c.if-contains.true)

pub returns-in_err-n : goal.returns-in_err-n
returns-in_err-n c =
    c.from_residual.ensures
    ∙ last_bad c.args.fields.now (sym c.contains.ensures.value ∙ c.if-contains.false) (field_lost 4 4 refl _ _ _ (c.decode.ensures.out_after, c.decode.ensures.within) c.in_err-n.was)

pub returns-then-n-ne4 : goal.returns-then-n-ne4
returns-then-n-ne4 c =
    let got : Got 4 c.args.fields.now c.decode.new.out c.in_ok-n.n = field_got 4 4 refl _ _ _ (c.decode.ensures.out_after, c.decode.ensures.within) _ c.in_ok-n.was in
    last_other c.args.fields.now (sym c.contains.ensures.value ∙ c.if-contains.false) _ _ got c.if-n-ne4.true

pub returns : goal.returns
returns c =
    let got : Got 4 c.args.fields.now c.decode.new.out c.in_ok-n.n = field_got 4 4 refl _ _ _ (c.decode.ensures.out_after, c.decode.ensures.within) _ c.in_ok-n.was in
    last_is c.args.fields.now (sym c.contains.ensures.value ∙ c.if-contains.false) _ _ _ got c.if-n-ne4.false c.unsigned_at.ensures
