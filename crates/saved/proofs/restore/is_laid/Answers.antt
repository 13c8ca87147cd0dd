-- The conditions of a form, each test giving the definition's. Assumes nothing.
use mathlib.Core.Path.{sym, ap, ◌∙◌}
use mathlib.Core.Bool.{Bool}
use lib.ListN.{length}
use lib.Dec.{eqb}
use Rattle.reporting.specs.Table.{capacity}
use Rattle.reporting.specs.Carried.{count_in}
use Rattle.saved.specs.Saved.{form_of, marked, saved_size, is_laid}
use Rattle.saved.proofs.Forms.{laid_empty, laid_counted, laid_sized, laid_by_bodies}
use Rattle.saved.proofs.restore.is_laid.Goals as goal

pub returns-then-saved-eq0 : goal.returns-then-saved-eq0
returns-then-saved-eq0 c = laid_empty (eqb (length c.args.saved.now) (saved_size marked (count_in c.args.saved.now))) c.args.saved.now c.if-saved-eq0.true

pub returns-then-n-gt-LIMIT : goal.returns-then-n-gt-LIMIT
returns-then-n-gt-LIMIT c = laid_counted (eqb (length c.args.saved.now) (saved_size marked (count_in c.args.saved.now))) c.args.saved.now c.if-n-gt-LIMIT.true

pub returns-then-saved-size : goal.returns-then-saved-size
returns-then-saved-size c = laid_sized c.has_marks-with_marks.result c.args.saved.now c.if-n-gt-LIMIT.false (λ q. c.if-saved-size.true (q ∙ sym c.body_at-size.ensures)) ∙ ap (λ (b : Bool). is_laid (form_of b) capacity c.args.saved.now) c.has_marks-with_marks.ensures

pub returns : goal.returns
returns c = c.bodies_fit.ensures ∙ laid_by_bodies c.has_marks-with_marks.result c.args.saved.now c.if-n-gt-LIMIT.false (c.if-saved-size.false ∙ c.body_at-size.ensures) ∙ ap (λ (b : Bool). is_laid (form_of b) capacity c.args.saved.now) c.has_marks-with_marks.ensures
