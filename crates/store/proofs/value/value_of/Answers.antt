-- The part of the body that is used. Assumes nothing.
use mathlib.Core.Path.{ap, ◌∙◌}
use lib.ListN.{take, drop}
use Rattle.store.specs.Value.{value_of}
use Rattle.store.proofs.value.value_of.Goals as goal

pub returns : goal.returns
unfolding value_of
returns c = c.part.ensures ∙ ap (λ n. take n (drop c.args.a.offset c.args.s.now)) c.used_of-n.ensures
