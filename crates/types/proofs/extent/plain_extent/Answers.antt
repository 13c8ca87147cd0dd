-- Each shape by its own extent; a collection is not for this function. Assumes nothing.
use mathlib.Core.Logic.{⊎_elim}
use mathlib.Core.Path.{◌≡◌}
use Rattle.types.specs.declared.ids.Shape.TheVariants.{Series, Structure, Unknown}
use Rattle.types.specs.Extent.{by_shape}
use Rattle.types.proofs.extent.plain_extent.Goals as goal

pub returns-in-Fixed : goal.returns-in-Fixed
unfolding by_shape
returns-in-Fixed c = simp c.in-Fixed.is c.span.ensures

pub returns-in-Text : goal.returns-in-Text
unfolding by_shape
returns-in-Text c = simp c.in-Text.is c.text_extent.ensures

pub returns-in-LongText : goal.returns-in-LongText
unfolding by_shape
returns-in-LongText c = simp c.in-LongText.is c.long_text_extent.ensures

pub returns-in-Series : goal.returns-in-Series
unfolding by_shape
returns-in-Series c = ⊎_elim
    (λ (e : c.args.layout ≡ Series). simp e)
    (⊎_elim (λ (e : c.args.layout ≡ Structure). simp e) (λ (e : c.args.layout ≡ Unknown). simp e))
    c.in-Series.is
