-- Each way out is one law of a listed difference. Assumes nothing.
use Rattle.std.specs.Prelude.{Option, Some}
use mathlib.Core.Path.{◌≡◌, sym, ap, ◌∙◌}
use mathlib.Core.Bool.{Bool, not, ◌&&◌}
use lib.ListN.{take}
use Rattle.replay.specs.Bytes.{same}
use Rattle.replay.specs.Verdict.{agreed, besides, listed}
use Rattle.replay.specs.declared.verdict.Verdict.TheVariants.{Case}
use Rattle.replay.proofs.Matches.{pointwise_same}
use Rattle.replay.proofs.Fields.{Got, field_lost, field_got, listed_second, listed_third, listed_by}
use Rattle.replay.proofs.verdict.listed.Goals as goal

pub returns-in_err-n : goal.returns-in_err-n
returns-in_err-n c =
    ap (agreed c.args.letter) c.from_residual.ensures
    ∙ listed_second c.args.letter c.args.first.now c.args.second.now c.args.third.now (field_lost _ _ c.blank-held.ensures _ _ _ (c.decode.ensures.out_after, c.decode.ensures.within) c.in_err-n.was)

pub returns-in_err-k : goal.returns-in_err-k
returns-in_err-k c =
    let got : Got 4608 c.args.second.now c.decode.new.out c.in_ok-n.n = field_got _ _ c.blank-held.ensures _ _ _ (c.decode.ensures.out_after, c.decode.ensures.within) _ c.in_ok-n.was in
    ap (agreed c.args.letter) c.from_residual-in_err-k.ensures
    ∙ listed_third c.args.letter c.args.first.now c.args.second.now c.args.third.now _ got.is (field_lost _ _ c.blank-other.ensures _ _ _ (c.decode-2.ensures.out_after, c.decode-2.ensures.within) c.in_err-k.was)

pub returns-in_err-agrees : goal.returns-in_err-agrees
returns-in_err-agrees c =
    let got : Got 4608 c.args.second.now c.decode.new.out c.in_ok-n.n = field_got _ _ c.blank-held.ensures _ _ _ (c.decode.ensures.out_after, c.decode.ensures.within) _ c.in_ok-n.was in
    let got2 : Got 4608 c.args.third.now c.decode-2.new.out c.in_ok-k.k = field_got _ _ c.blank-other.ensures _ _ _ (c.decode-2.ensures.out_after, c.decode-2.ensures.within) _ c.in_ok-k.was in
    let by : besides (agreed c.args.letter c.recorded.result) (not (same (take c.in_ok-n.n c.decode.new.out) (take c.in_ok-k.k c.decode-2.new.out))) ≡ listed c.args.letter c.args.first.now c.args.second.now c.args.third.now = listed_by c.args.letter c.args.first.now c.args.second.now c.args.third.now _ _ _ got.is got2.is c.recorded.ensures in
    ap (agreed c.args.letter) c.from_residual-in_err-agrees.ensures
    ∙ ap (λ (x : Option Bool). besides (agreed c.args.letter x) (not (same (take c.in_ok-n.n c.decode.new.out) (take c.in_ok-k.k c.decode-2.new.out)))) (sym c.in_err-agrees.was)
    ∙ by

pub returns-then-agrees : goal.returns-then-agrees
returns-then-agrees c =
    let got : Got 4608 c.args.second.now c.decode.new.out c.in_ok-n.n = field_got _ _ c.blank-held.ensures _ _ _ (c.decode.ensures.out_after, c.decode.ensures.within) _ c.in_ok-n.was in
    let got2 : Got 4608 c.args.third.now c.decode-2.new.out c.in_ok-k.k = field_got _ _ c.blank-other.ensures _ _ _ (c.decode-2.ensures.out_after, c.decode-2.ensures.within) _ c.in_ok-k.was in
    let by : besides (agreed c.args.letter c.recorded.result) (not (same (take c.in_ok-n.n c.decode.new.out) (take c.in_ok-k.k c.decode-2.new.out))) ≡ listed c.args.letter c.args.first.now c.args.second.now c.args.third.now = listed_by c.args.letter c.args.first.now c.args.second.now c.args.third.now _ _ _ got.is got2.is c.recorded.ensures in
    let x = same (take c.in_ok-n.n c.decode.new.out) (take c.in_ok-k.k c.decode-2.new.out) in
    ap (λ (a : Bool). Some (Case c.args.letter a)) (c.ne.ensures ∙ ap not (pointwise_same _ _) ∙ ap (λ (a : Bool). a && not x) (sym c.if-agrees.true))
    ∙ ap (λ (r : Option Bool). besides (agreed c.args.letter r) (not x)) (sym c.in_ok-agrees.was)
    ∙ by

pub returns-else-agrees : goal.returns-else-agrees
returns-else-agrees c =
    let got : Got 4608 c.args.second.now c.decode.new.out c.in_ok-n.n = field_got _ _ c.blank-held.ensures _ _ _ (c.decode.ensures.out_after, c.decode.ensures.within) _ c.in_ok-n.was in
    let got2 : Got 4608 c.args.third.now c.decode-2.new.out c.in_ok-k.k = field_got _ _ c.blank-other.ensures _ _ _ (c.decode-2.ensures.out_after, c.decode-2.ensures.within) _ c.in_ok-k.was in
    let by : besides (agreed c.args.letter c.recorded.result) (not (same (take c.in_ok-n.n c.decode.new.out) (take c.in_ok-k.k c.decode-2.new.out))) ≡ listed c.args.letter c.args.first.now c.args.second.now c.args.third.now = listed_by c.args.letter c.args.first.now c.args.second.now c.args.third.now _ _ _ got.is got2.is c.recorded.ensures in
    let x = same (take c.in_ok-n.n c.decode.new.out) (take c.in_ok-k.k c.decode-2.new.out) in
    ap (λ (a : Bool). Some (Case c.args.letter a)) (c.if-agrees.false ∙ ap (λ (a : Bool). a && not x) (sym c.if-agrees.false))
    ∙ ap (λ (r : Option Bool). besides (agreed c.args.letter r) (not x)) (sym c.in_ok-agrees.was)
    ∙ by
