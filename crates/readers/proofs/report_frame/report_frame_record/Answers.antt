-- A record that was met in a pass, with where its value lies. Assumes nothing.
use mathlib.Core.Path.{ap, ◌∙◌}
use mathlib.Core.List.{List}
use Prim.Native.Nat.{ℕ}
use Rattle.types.specs.Number.{unsigned_at}
use Rattle.frame.specs.declared.command_identifier.CommandIdentifier.TheVariants.{ReportAttributes}
use Rattle.readers.specs.declared.layout.Layout.TheVariants.{Report}
use Rattle.readers.specs.Values.{report_held, report_frame_held}
use Rattle.readers.proofs.Records.{there}
use Rattle.readers.proofs.SpanSizes.{span_long, span_within, report_behind}
use Rattle.readers.proofs.Values.{report_held_lem}
use Rattle.readers.proofs.report_frame.report_frame_record.Goals as goal

pub value_in-requires : goal.value_in-requires
value_in-requires c =
    let e = c.in_ok-swept.ensures in
    (report_behind _ _ (span_long ReportAttributes Report _ _ e c.in-Some.is), span_within ReportAttributes Report _ _ e c.in-Some.is)

pub returns : goal.returns
unfolding report_frame_held
returns c =
    let f = c.args.frame.now in
    let id = c.u16_at.ensures ∙ ap (λ (b : List ℕ). unsigned_at b 0 2) c.bytes_in-part.ensures in
    there (report_held f) _ _ c.in_ok-swept.ensures c.in-Some.is (report_held_lem f _ id c.value_in.ensures)
