-- Each way out is one law of a case. Assumes nothing.
use mathlib.Core.Path.{ap, ◌∙◌}
use Rattle.replay.specs.Verdict.{agreed}
use Rattle.replay.proofs.Fields.{Got, field_lost, field_got, recorded_first, recorded_second, recorded_by}
use Rattle.replay.proofs.verdict.recorded.Goals as goal

pub returns-in_err-n : goal.returns-in_err-n
returns-in_err-n c =
    ap (agreed c.args.letter) c.from_residual.ensures
    ∙ recorded_first c.args.letter c.args.first.now c.args.second.now (field_lost _ _ c.blank-input.ensures _ _ _ (c.decode.ensures.out_after, c.decode.ensures.within) c.in_err-n.was)

pub returns-in_err-k : goal.returns-in_err-k
returns-in_err-k c =
    let got : Got 4608 c.args.first.now c.decode.new.out c.in_ok-n.n = field_got _ _ c.blank-input.ensures _ _ _ (c.decode.ensures.out_after, c.decode.ensures.within) _ c.in_ok-n.was in
    ap (agreed c.args.letter) c.from_residual-in_err-k.ensures
    ∙ recorded_second c.args.letter c.args.first.now c.args.second.now _ got.is (field_lost _ _ c.blank-held.ensures _ _ _ (c.decode-2.ensures.out_after, c.decode-2.ensures.within) c.in_err-k.was)

pub returns : goal.returns
returns c =
    let got : Got 4608 c.args.first.now c.decode.new.out c.in_ok-n.n = field_got _ _ c.blank-input.ensures _ _ _ (c.decode.ensures.out_after, c.decode.ensures.within) _ c.in_ok-n.was in
    let got2 : Got 4608 c.args.second.now c.decode-2.new.out c.in_ok-k.k = field_got _ _ c.blank-held.ensures _ _ _ (c.decode-2.ensures.out_after, c.decode-2.ensures.within) _ c.in_ok-k.was in
    recorded_by c.args.letter c.args.first.now c.args.second.now _ _ _ got.is got2.is c.held_to_ours.ensures
