-- The search says where the mark is. Assumes nothing.
use Rattle.std.proofs.Common.{◌≡◌, ◌∙◌, sym, ap, rules, tests, eqb, ℕ, Some, take, drop, length, ◌-◌, ◌+◌, arith, suc, length-drop, add-one}
use Rattle.std.proofs.lemmas.Iterator.{YieldsList-from_slice}
use Rattle.std.proofs.lemmas.Iterator.Search.{position_from_yields_List}
use Rattle.std.specs.Option.{option_map}
use Rattle.std.specs.List.{position}
use lib.Seq.{take_all}
use Rattle.replay.specs.Inside.{parts}
use Rattle.replay.proofs.Words.{round, cut_found}
use Rattle.replay.proofs.line.split_once.Goals as goal

pub returns-in_err-n : goal.returns-in_err-n
returns-in_err-n c =
    let found : c.position.result ≡ position (λ b. eqb b c.args.mark) c.args.s.now = position_from_yields_List (λ b. eqb b c.args.mark) _ _ c.position.result c.position.ensures.ran (YieldsList-from_slice c.args.s.now cc) (λ x b q k. search (rules, tests)) in
    ap parts c.from_residual.ensures ∙ ap (option_map (round c.args.s.now)) (sym c.in_err-n.was) ∙ cut_found c.args.mark c.args.s.now _ found

pub returns : goal.returns
returns c =
    let found : c.position.result ≡ position (λ b. eqb b c.args.mark) c.args.s.now = position_from_yields_List (λ b. eqb b c.args.mark) _ _ c.position.result c.position.ensures.ran (YieldsList-from_slice c.args.s.now cc) (λ x b q k. search (rules, tests)) in
    let s = c.args.s.now in
    let n = c.in_ok-n.n in
    let rest : take (length s - (n + 1)) (drop (n + 1) s) ≡ drop (suc n) s = take_all _ _ (omega (arith, length-drop (n + 1) s)) ∙ ap (λ (k : ℕ). drop k s) (add-one n) in
    (λ i. Some (take n s, rest i)) ∙ ap (option_map (round s)) (sym c.in_ok-n.was) ∙ cut_found c.args.mark s _ found
