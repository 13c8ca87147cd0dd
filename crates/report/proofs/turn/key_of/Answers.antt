-- The cluster is the store's. Assumes nothing.
use Rattle.report.proofs.turn.key_of.Goals as goal

pub returns : goal.returns
returns c = λ i. record { cluster = record { 0 = c.cluster_of.ensures i }; attribute = record { 0 = c.args.a.name.0 } }
