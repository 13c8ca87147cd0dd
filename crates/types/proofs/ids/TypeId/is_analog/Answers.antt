-- One family after the other, in the definition's order. Assumes nothing.
use mathlib.Core.Path.{◌≡◌, refl, sym, ◌∙◌}
use mathlib.Core.Bool.{Bool, true, false, ◌||◌}
use Rattle.types.specs.Ids.{is_analog, is_signed, is_float}
use Rattle.types.proofs.ids.TypeId.is_analog.Goals as goal

module _ (x y z w : Bool) where
  first : x ≡ true → true ≡ (x || y || z || w)
  first e = rw e refl

  second : x ≡ false → y ≡ true → true ≡ (x || y || z || w)
  second d e = rw (d, e) refl

  third : x ≡ false → y ≡ false → z ≡ true → true ≡ (x || y || z || w)
  third c d e = rw (c, d, e) refl

  fourth : x ≡ false → y ≡ false → z ≡ false → w ≡ (x || y || z || w)
  fourth c d e = rw (c, d, e) refl

pub returns-then-among : goal.returns-then-among
unfolding is_analog
returns-then-among c = first _ _ _ _ (sym c.among.ensures ∙ c.if-among.true)

pub returns-then-is_signed : goal.returns-then-is_signed
unfolding is_analog is_signed
returns-then-is_signed c = second _ _ _ _ (sym c.among.ensures ∙ c.if-among.false) (sym c.is_signed.ensures ∙ c.if-is_signed.true)

pub returns-then-is_float : goal.returns-then-is_float
unfolding is_analog is_signed is_float
returns-then-is_float c =
    third _ _ _ _ (sym c.among.ensures ∙ c.if-among.false) (sym c.is_signed.ensures ∙ c.if-is_signed.false)
    (sym c.is_float.ensures ∙ c.if-is_float.true)

pub returns : goal.returns
unfolding is_analog is_signed is_float
returns c =
    c.among-2.ensures
    ∙ fourth _ _ _ _ (sym c.among.ensures ∙ c.if-among.false) (sym c.is_signed.ensures ∙ c.if-is_signed.false)
    (sym c.is_float.ensures ∙ c.if-is_float.false)
