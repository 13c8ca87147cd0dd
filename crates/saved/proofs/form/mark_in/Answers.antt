-- The byte behind the change, or none. Assumes nothing.
use mathlib.Core.Path.{sym, ap, ◌∙◌}
use mathlib.Core.Bool.{Bool}
use lib.ListN.{get_or, drop}
use Rattle.reporting.specs.Carried.{numbers_in}
use Rattle.saved.specs.Saved.{form_of}
use Rattle.saved.proofs.Places.{mark_there, mark_none}
use Rattle.saved.proofs.form.mark_in.Goals as goal

pub returns-then-with_marks : goal.returns-then-with_marks
returns-then-with_marks c =
    mark_there c.args.saved.now c.args.at ∙ ap (λ (m : Bool). get_or (numbers_in (form_of m).bodies (drop c.args.at c.args.saved.now)) 3 0) (sym c.if-with_marks.true)

pub returns : goal.returns
returns c =
    mark_none c.args.saved.now c.args.at ∙ ap (λ (m : Bool). get_or (numbers_in (form_of m).bodies (drop c.args.at c.args.saved.now)) 3 0) (sym c.if-with_marks.false)
