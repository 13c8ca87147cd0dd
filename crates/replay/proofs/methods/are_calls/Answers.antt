-- Each call's operation is looked at. Assumes nothing.
use Rattle.std.proofs.Common.{◌∙◌, get_or, leb, rules, tests}
use Rattle.std.proofs.lemmas.Iterator.{YieldsList-from_slice}
use Rattle.std.proofs.lemmas.Iterator.Search.{all_from_yields_List}
use Rattle.replay.proofs.Calls.{all_calls}
use Rattle.replay.proofs.methods.are_calls.Goals as goal

pub returns : goal.returns
returns c =
    all_from_yields_List (λ p. leb (get_or p 0 0) 5) _ _ c.all.result c.all.ensures.ran (YieldsList-from_slice c.as_chunks.result.0.now cc) (λ x b q k. search (rules, tests))
    ∙ all_calls _ c.args.input.now _ c.as_chunks.ensures.front
