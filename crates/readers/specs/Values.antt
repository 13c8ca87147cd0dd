-- Definitions. A record with where its value lies in the frame and the value's number, which is that of the store (document 01, "Number of a value"):
-- only Int types have a sign.
use Rattle.frame.specs.declared.answer.Refusal.{Refusal}
use Rattle.std.specs.Prelude.{ℕ, ◌+◌, ◌-◌, cond, List, map, get_or, eqb, None, Option, Some, Result}
use Rattle.types.specs.Value.{number_at}
use Rattle.read.specs.Read.{ReadRecord}
use Rattle.report.specs.Report.{ReportRecord}
use Rattle.frame.specs.declared.command_identifier.CommandIdentifier.TheVariants.{ReadAttributesResponse, ReportAttributes}
use Rattle.readers.specs.declared.layout.Layout.TheVariants.{ReadStatus, Report}
use Rattle.readers.specs.declared.value.ValueIn.{ValueIn}
use Rattle.readers.specs.declared.pass.Span.{Span}
use Rattle.readers.specs.Reading.{mapped, cut_out}
use Rattle.readers.specs.Replies.{spans_of, read_record, reported_record}

-- the value behind the type at p of a record
unfoldable pub value_in : List ℕ → Span → ℕ → ValueIn
value_in f x p =
    let start : ℕ = x.at + (p + 1) in
    record {
      type_id = record { 0 = get_or (cut_out f x) p 0 };
      start = start;
      len = x.size - (p + 1);
      number = number_at f start (get_or (cut_out f x) p 0);
    }

pub record Held (R : Type 0) : Type 0 where
  pub is : R
  pub value : Option ValueIn

abbrev pub held : {R : Type 0} → R → Option ValueIn → Held R
held r v = record { is = r; value = v }

-- of a read reply, a failure has no value
abbrev pub read_held : List ℕ → Span → Held ReadRecord
read_held f x = held (read_record (cut_out f x)) (cond (eqb (get_or (cut_out f x) 2 0) 0) (Some (value_in f x 3)) None)

unfoldable pub read_reply_held : List ℕ → Result (List (Held ReadRecord)) Refusal
read_reply_held f = mapped (map (read_held f)) (spans_of ReadAttributesResponse ReadStatus f)

-- of a report
abbrev pub report_held : List ℕ → Span → Held ReportRecord
report_held f x = held (reported_record (cut_out f x)) (Some (value_in f x 2))

unfoldable pub report_frame_held : List ℕ → Result (List (Held ReportRecord)) Refusal
report_frame_held f = mapped (map (report_held f)) (spans_of ReportAttributes Report f)
