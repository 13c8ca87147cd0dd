-- A collection and what it holds, one proof for the two that call each other: the levels left fall at each call, and in each loop
-- the elements that are left, read from here, end where all do. Assumes nothing.
use Rattle.std.specs.Prelude.{Ok}
use Prim.Native.Nat.{◌-◌}
use native.Mathlib.Omega.{arith}
use mathlib.Core.Path.{◌≡◌, ap, sym, ◌∙◌}
use borrow.Enum.Refused.{opened}
use lib.ListN.{get_or}
use Rattle.types.specs.Extent.{upto, by_shape, value_at, member, times}
use Rattle.types.specs.Inside.{ended}
use Rattle.types.proofs.Extents.{all_left, upto_end, series_none, series_cut, series_from, series_fixed, structure_none, structure_cut, structure_from, member_in, member_out, ended_end, times_step, times_stop, times_cut, times_done, upto_cut, value_series, value_structure, value_plain, product_small}
use Rattle.types.proofs.Shapes.{fixed_small}
use Rattle.types.proofs.extent.+series_extent_structure_extent.Goals as goal
use Rattle.types.proofs.extent.+series_extent_structure_extent.Goals.{series_extent-in-Series, series_extent-in-Structure, series_extent-in_default-layout-2, structure_extent-in-Series, structure_extent-in-Structure, structure_extent-in_default-layout}

pub series_extent-returns-then-depth-eq0 : goal.series_extent-returns-then-depth-eq0
series_extent-returns-then-depth-eq0 t c = sym (series_none _ _ _ c.if-depth-eq0.true)

pub series_extent-returns-in_default : goal.series_extent-returns-in_default
series_extent-returns-in_default t c = sym (series_cut _ _ _ (omega (arith, c.if-depth-eq0.false)) (upto_cut _ _ _ _ (sym c.span.ensures ∙ c.in_default.is)))

pub series_extent-overflow_add-p : goal.series_extent-overflow_add-p
series_extent-overflow_add-p t c =
    let head : upto c.args.s.now c.args.p 3 ≡ Ok c.in-Ok.first = sym c.span.ensures ∙ c.in-Ok.is in
    omega (arith, upto_end _ _ _ _ head)

pub series_extent-bounds-s-p : goal.series_extent-bounds-s-p
series_extent-bounds-s-p t c =
    let head : upto c.args.s.now c.args.p 3 ≡ Ok c.in-Ok.first = sym c.span.ensures ∙ c.in-Ok.is in
    omega (arith, upto_end _ _ _ _ head)

pub series_extent-plain_place-requires : goal.series_extent-plain_place-requires
series_extent-plain_place-requires t c =
    let head : upto c.args.s.now c.args.p 3 ≡ Ok c.in-Ok.first = sym c.span.ensures ∙ c.in-Ok.is in
    omega (arith, upto_end _ _ _ _ head)

pub series_extent-overflow_mul-n : goal.series_extent-overflow_mul-n
series_extent-overflow_mul-n t c = omega (arith, product_small c.counted-n.result c.in-Fixed.w c.counted-n.ensures.small (fixed_small _ _ (c.type_inv.s c.args.p).fits (sym c.shape-layout.ensures ∙ c.in-Fixed.is)))

pub series_extent-returns-in-Fixed : goal.series_extent-returns-in-Fixed
unfolding by_shape
series_extent-returns-in-Fixed t c =
    let head : upto c.args.s.now c.args.p 3 ≡ Ok c.in-Ok.first = sym c.span.ensures ∙ c.in-Ok.is in
    c.plain_place.ensures ∙ rw c.counted-n.ensures.means (sym (series_fixed _ _ _ _ _ (omega (arith, c.if-depth-eq0.false)) head (sym c.shape-layout.ensures ∙ c.in-Fixed.is)))

pub series_extent-loop-init : goal.series_extent-loop-init
series_extent-loop-init t c =
    let head : upto c.args.s.now c.args.p 3 ≡ Ok c.in-Ok.first = sym c.span.ensures ∙ c.in-Ok.is in
    (omega (arith, upto_end _ _ _ _ head), all_left (times (value_at (c.args.depth - 1) c.args.s.now (get_or c.args.s.now c.args.p 0))) c.counted-n.ensures.means _ _ (sym (series_from _ _ _ _ (omega (arith, c.if-depth-eq0.false)) head)))

pub series_extent-returns-then-next-le-CUT : goal.series_extent-returns-then-next-le-CUT
series_extent-returns-then-next-le-CUT t c =
    let value : ended c.match-layout-2.next ≡ value_at (c.args.depth - 1) c.args.s.now (get_or c.args.s.now c.args.p 0) c.loop.q = elim c.match-layout-2.branch [
      | series_extent-in-Series w ↦ ap ended w.next-is ∙ w.series_extent-next.ensures ∙ sym (value_series _ _ _ _ (sym c.shape-layout.ensures ∙ w.in-Series.is))
      | series_extent-in-Structure w ↦ ap ended w.next-is ∙ w.structure_extent-next.ensures ∙ sym (value_structure _ _ _ _ (sym c.shape-layout.ensures ∙ w.in-Structure.is))
      | series_extent-in_default-layout-2 w ↦ ap ended w.next-is ∙ w.plain_place-next.ensures ∙ sym (value_plain _ _ _ _ _ c.shape-layout.ensures (opened w.in_default-layout-2.in_default-layout-2-own.keys3))
    ] in
    sym (times_stop _ _ _ _ (omega (arith, c.loop-test.true)) value c.if-next-le-CUT.true) ∙ c.loop.invariant.1

pub series_extent-loop-preserved : goal.series_extent-loop-preserved
series_extent-loop-preserved t c =
    let value : ended c.match-layout-2.next ≡ value_at (c.args.depth - 1) c.args.s.now (get_or c.args.s.now c.args.p 0) c.loop.q = elim c.match-layout-2.branch [
      | series_extent-in-Series w ↦ ap ended w.next-is ∙ w.series_extent-next.ensures ∙ sym (value_series _ _ _ _ (sym c.shape-layout.ensures ∙ w.in-Series.is))
      | series_extent-in-Structure w ↦ ap ended w.next-is ∙ w.structure_extent-next.ensures ∙ sym (value_structure _ _ _ _ (sym c.shape-layout.ensures ∙ w.in-Structure.is))
      | series_extent-in_default-layout-2 w ↦ ap ended w.next-is ∙ w.plain_place-next.ensures ∙ sym (value_plain _ _ _ _ _ c.shape-layout.ensures (opened w.in_default-layout-2.in_default-layout-2-own.keys3))
    ] in
    (omega (arith, c.if-next-le-CUT.false), sym (times_step _ _ _ _ _ (omega (arith, c.loop-test.true)) (sym value ∙ ended_end _ c.if-next-le-CUT.false)) ∙ c.loop.invariant.1)

pub series_extent-returns : goal.series_extent-returns
series_extent-returns t c = ended_end _ c.loop.invariant.0 ∙ sym (times_done _ _ _ (omega (arith, c.loop-test.false))) ∙ c.loop.invariant.1

pub structure_extent-returns-then-depth-eq0 : goal.structure_extent-returns-then-depth-eq0
structure_extent-returns-then-depth-eq0 t c = sym (structure_none _ _ _ c.if-depth-eq0.true)

pub structure_extent-returns-in_default : goal.structure_extent-returns-in_default
structure_extent-returns-in_default t c = sym (structure_cut _ _ _ (omega (arith, c.if-depth-eq0.false)) (upto_cut _ _ _ _ (sym c.span.ensures ∙ c.in_default.is)))

pub structure_extent-loop-init : goal.structure_extent-loop-init
structure_extent-loop-init t c =
    let head : upto c.args.s.now c.args.p 2 ≡ Ok c.in-Ok.first = sym c.span.ensures ∙ c.in-Ok.is in
    (omega (arith, upto_end _ _ _ _ head), all_left (times (member c.args.s.now (value_at (c.args.depth - 1) c.args.s.now))) c.counted-end.ensures.means _ _ (sym (structure_from _ _ _ _ (omega (arith, c.if-depth-eq0.false)) head)))

pub structure_extent-returns-then-s-q : goal.structure_extent-returns-then-s-q
structure_extent-returns-then-s-q t c = sym (times_cut _ _ _ (omega (arith, c.loop-test.true)) (member_out _ _ _ c.if-s-q.true)) ∙ c.loop.invariant.1

pub structure_extent-returns-then-next-le-CUT : goal.structure_extent-returns-then-next-le-CUT
structure_extent-returns-then-next-le-CUT t c =
    let value : member c.args.s.now (value_at (c.args.depth - 1) c.args.s.now) c.loop.q ≡ ended c.match-layout.next = member_in _ _ _ c.if-s-q.false ∙ elim c.match-layout.branch [
      | structure_extent-in-Series w ↦ value_series _ _ _ _ (sym c.shape-layout.ensures ∙ w.in-Series.is) ∙ sym (ap ended w.next-is ∙ w.series_extent-next.ensures)
      | structure_extent-in-Structure w ↦ value_structure _ _ _ _ (sym c.shape-layout.ensures ∙ w.in-Structure.is) ∙ sym (ap ended w.next-is ∙ w.structure_extent-next.ensures)
      | structure_extent-in_default-layout w ↦ value_plain _ _ _ _ _ c.shape-layout.ensures (opened w.in_default-layout.in_default-layout-own.keys3) ∙ sym (ap ended w.next-is ∙ w.plain_place-next.ensures)
    ] in
    sym (times_stop _ _ _ _ (omega (arith, c.loop-test.true)) (sym value) c.if-next-le-CUT.true) ∙ c.loop.invariant.1

pub structure_extent-loop-preserved : goal.structure_extent-loop-preserved
structure_extent-loop-preserved t c =
    let value : member c.args.s.now (value_at (c.args.depth - 1) c.args.s.now) c.loop.q ≡ ended c.match-layout.next = member_in _ _ _ c.if-s-q.false ∙ elim c.match-layout.branch [
      | structure_extent-in-Series w ↦ value_series _ _ _ _ (sym c.shape-layout.ensures ∙ w.in-Series.is) ∙ sym (ap ended w.next-is ∙ w.series_extent-next.ensures)
      | structure_extent-in-Structure w ↦ value_structure _ _ _ _ (sym c.shape-layout.ensures ∙ w.in-Structure.is) ∙ sym (ap ended w.next-is ∙ w.structure_extent-next.ensures)
      | structure_extent-in_default-layout w ↦ value_plain _ _ _ _ _ c.shape-layout.ensures (opened w.in_default-layout.in_default-layout-own.keys3) ∙ sym (ap ended w.next-is ∙ w.plain_place-next.ensures)
    ] in
    (omega (arith, c.if-next-le-CUT.false), sym (times_step _ _ _ _ _ (omega (arith, c.loop-test.true)) (value ∙ ended_end _ c.if-next-le-CUT.false)) ∙ c.loop.invariant.1)

pub structure_extent-returns : goal.structure_extent-returns
structure_extent-returns t c = ended_end _ c.loop.invariant.0 ∙ sym (times_done _ _ _ (omega (arith, c.loop-test.false))) ∙ c.loop.invariant.1
