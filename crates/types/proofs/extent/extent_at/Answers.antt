-- By the shape: a collection with all 15 levels, or a plain value. Assumes nothing.
use mathlib.Core.Path.{sym, ◌∙◌}
use Rattle.types.proofs.Extents.{value_series, value_structure, value_plain}
use borrow.Enum.Refused.{opened}
use Rattle.types.proofs.extent.extent_at.Goals as goal

pub returns-in-Series : goal.returns-in-Series
returns-in-Series c = c.extent_by.ensures ∙ c.series_extent.ensures ∙ sym (value_series _ _ _ _ (sym c.shape-layout.ensures ∙ c.in-Series.is))

pub returns-in-Structure : goal.returns-in-Structure
returns-in-Structure c = c.extent_by-in-Structure.ensures ∙ c.structure_extent.ensures ∙ sym (value_structure _ _ _ _ (sym c.shape-layout.ensures ∙ c.in-Structure.is))

pub returns-in_default : goal.returns-in_default
returns-in_default c = c.plain_extent.ensures ∙ sym (value_plain _ _ _ _ _ c.shape-layout.ensures (opened c.in_default.in_default-own.keys3))
