-- One bit. Assumes nothing.
use Rattle.std.specs.Prelude.{Some}
use mathlib.Core.Path.{ap, ◌∙◌}
use mathlib.Core.List.{[], ◌∷◌}
use Prim.Native.Nat.{ℕ}
use Rattle.replay.specs.Bytes.{same}
use Rattle.replay.specs.Ours.{bit_of, of_store}
use Rattle.replay.proofs.Matches.{pointwise_same}
use Rattle.replay.proofs.Says.{bit_is}
use Rattle.replay.proofs.stores.of_store.Goals as goal

pub returns : goal.returns
unfolding of_store
returns c =
    ap Some (c.eq.ensures ∙ pointwise_same _ _) ∙ ap (λ (b : ℕ). Some (same (b ∷ []) c.args.held.now)) (c.from.ensures ∙ bit_is _ ∙ ap bit_of c.is_store.ensures)
