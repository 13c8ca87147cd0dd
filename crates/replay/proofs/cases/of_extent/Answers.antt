-- One byte where no value ends, else three. Assumes nothing.
use mathlib.Core.Path.{◌≡◌, sym, ap, ◌∙◌}
use mathlib.Core.List.{List}
use Prim.Native.Nat.{ℕ}
use lib.ListN.{get_or, drop}
use borrow.Author.Tests.{eqb-true, eqb-false}
use Rattle.std.specs.Prelude.{Some}
use Rattle.types.specs.Extent.{extent_of}
use Rattle.replay.proofs.Matches.{pointwise_same}
use Rattle.replay.proofs.Says.{extent_empty, extent_none, extent_ends}
use Rattle.replay.proofs.cases.of_extent.Goals as goal

pub returns-then-is_empty : goal.returns-then-is_empty
returns-then-is_empty c =
    extent_empty c.args.input.now c.args.held.now (eqb-true _ _ (sym c.is_empty.ensures ∙ c.if-is_empty.true))

pub returns-in_default : goal.returns-in_default
returns-in_default c =
    let found : c.extent_at.result ≡ extent_of (drop 1 c.args.input.now) 0 (get_or c.args.input.now 0 0) = c.extent_at.ensures ∙ ap (λ (s : List ℕ). extent_of s 0 (get_or c.args.input.now 0 0)) c.rest.ensures in
    ap Some (c.eq.ensures ∙ pointwise_same _ _) ∙ extent_none c.args.input.now c.args.held.now (eqb-false _ _ (sym c.is_empty.ensures ∙ c.if-is_empty.false)) _ found _ c.in_default.is

pub returns : goal.returns
returns c =
    let found : c.extent_at.result ≡ extent_of (drop 1 c.args.input.now) 0 (get_or c.args.input.now 0 0) = c.extent_at.ensures ∙ ap (λ (s : List ℕ). extent_of s 0 (get_or c.args.input.now 0 0)) c.rest.ensures in
    ap Some (c.eq-2.ensures ∙ pointwise_same _ _)
    ∙ extent_ends c.args.input.now c.args.held.now (eqb-false _ _ (sym c.is_empty.ensures ∙ c.if-is_empty.false)) _ _ _ _ found c.in-Ok.is c.low.ensures c.low-2.ensures
