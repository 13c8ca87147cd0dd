-- A collection and what it holds, one proof for the two that call each other: the levels left fall at each call, and in each loop
-- the elements that are left, read from here, end where all do. Assumes nothing.
use Rattle.std.proofs.Common.{◌≡◌, ◌≤◌, ◌-◌, get_or}
use Rattle.types.specs.Extent.{times, value_at, series_at, structure_at, member}
use Rattle.types.proofs.extent.+series_extent_structure_extent.Given as goal

abbrev pub decreases-series_extent : goal.decreases-series_extent
decreases-series_extent l = l.depth

abbrev pub decreases-structure_extent : goal.decreases-structure_extent
decreases-structure_extent l = l.depth

abbrev pub invariant-series_extent-loop : goal.invariant-series_extent-loop
invariant-series_extent-loop l = (2 ≤ l.q) × (times (value_at (l.depth - 1) l.s (get_or l.s l.p 0)) (l.n - l.counter) l.q ≡ series_at l.depth l.s l.p)

abbrev pub invariant-structure_extent-loop : goal.invariant-structure_extent-loop
invariant-structure_extent-loop l = (2 ≤ l.q) × (times (member l.s (value_at (l.depth - 1) l.s)) (l.end - l.counter) l.q ≡ structure_at l.depth l.s l.p)
