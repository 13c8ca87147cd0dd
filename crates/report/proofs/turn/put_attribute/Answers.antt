-- The record of a report frame. Assumes nothing.
use mathlib.Core.Path.{ap, ◌∙◌}
use mathlib.Core.List.{List}
use Prim.Native.Nat.{ℕ}
use Rattle.frame.specs.Inside.Buffer.{put}
use Rattle.report.specs.Report.{encode, report_record}
use Rattle.report.specs.Turn.{record_in}
use Rattle.report.proofs.turn.put_attribute.Goals as goal

pub returns : goal.returns
unfolding record_in
returns c =
    c.put_record.ensures ∙ ap (λ (v : List ℕ). put c.args.frame.now c.args.out (encode (report_record c.args.a.name.0 c.args.a.type_id.0 v))) c.value_of.ensures
