-- std's test is the definition's. Assumes nothing.
use Rattle.std.proofs.Common.{eqb, rules, tests, ◌∙◌}
use Rattle.std.proofs.lemmas.Iterator.{YieldsList-from_slice}
use Rattle.std.proofs.lemmas.Iterator.Search.{any_from_yields_List}
use Rattle.server.proofs.Listed.{served_any}
use Rattle.server.proofs.unsupported_cluster.is_served.Goals as goal

pub returns : goal.returns
returns c =
    let l = c.args.served.now in
    any_from_yields_List (λ id. eqb id c.args.cluster.0) _ _ _ c.any.ensures.ran (YieldsList-from_slice l cc) (λ x b q k. search (rules, tests)) ∙ served_any c.args.cluster.0 l
