-- Definitions. The Report Attributes frame (document 01, "Report frames .."; ZCL 2.5.11).
use Rattle.std.specs.Prelude.{ℕ, Bool, true, false, cond, List, [], ◌∷◌, ◌++◌, length, leb, ltb, None, Option, Some}
use Rattle.types.specs.Number.{bytes_of}
use Rattle.frame.specs.declared.header.ZclHeader.{ZclHeader}
use Rattle.frame.specs.declared.command_identifier.CommandIdentifier.TheVariants.{ReportAttributes}
use Rattle.frame.specs.declared.answer.Refusal.{Refusal}
use Rattle.frame.specs.declared.answer.Refusal.TheVariants.{ReplyTooLong, NotAStore, EmptyReport, NotReportable}
use Rattle.frame.specs.Header.{reply_head}
use Rattle.frame.specs.Answer.{Outcome, no_state, replied, refused}
use Rattle.frame.specs.Encoded.{encode_all, fits}
use Rattle.frame.specs.Walk.{done, walk, reached}
use Rattle.store.specs.declared.lookup.Attribute.{Attribute}
use Rattle.store.specs.Contents.{name_of, find_of, reportable}
use Rattle.store.specs.Layout.{is_store}
use Rattle.store.specs.Value.{value_of}

-- ---- the records

pub record ReportRecord : Type 0 where
  pub id : ℕ
  pub type : ℕ
  pub value : List ℕ

-- id (2), type (1), value
unfoldable pub encode : ReportRecord → List ℕ
encode r = bytes_of 2 r.id ++ r.type ∷ r.value

abbrev pub report_record : ℕ → ℕ → List ℕ → ReportRecord
report_record id t v = record { id = id; type = t; value = v }

abbrev pub record_of : List ℕ → ℕ → Attribute → ReportRecord
record_of s id a = report_record id a.type_id.0 (value_of s a)

-- ---- the list of ids, in its order, repeats as the list says

-- the records so far, or the trouble that ended the report
pub data Reported : Type 0 where
  all : List ReportRecord → Reported
  trouble : Refusal → Reported

-- one record more behind these, if it fits: else 5
abbrev pub added : ℕ → ℕ → List ReportRecord → ReportRecord → Reported
added room head rs r = cond (fits encode room head (rs ++ (r ∷ []))) (all (rs ++ (r ∷ []))) (trouble ReplyTooLong)

-- an id that is missing or not reportable is 12
abbrev pub report_by : List ℕ → ℕ → ℕ → List ReportRecord → ℕ → Option Attribute → Reported
report_by s room head rs id (Some a) = cond (reportable a) (added room head rs (record_of s id a)) (trouble NotReportable)
report_by s room head rs id None = trouble NotReportable

-- one id; a report that has ended stays as it is
abbrev pub report_one : ℕ → List ℕ → ℕ → ℕ → Reported → ℕ → Reported
report_one form s room head (all rs) id = report_by s room head rs id (find_of form s (name_of 0 id))
report_one form s room head (trouble why) id = trouble why

abbrev pub goes_on : Reported → Bool
goes_on (all rs) = true
goes_on (trouble why) = false

-- every id, with these records before it
unfoldable pub report_from : ℕ → List ℕ → ℕ → ℕ → List ReportRecord → List ℕ → Reported
report_from form s room head rs ids = reached (walk (report_one form s room head) goes_on (all rs) done ids)

unfoldable pub report_reply : ℕ → List ℕ → Reported → Outcome (Unit {0})
report_reply room head (all rs) = replied room (head ++ encode_all encode rs) no_state
report_reply room head (trouble why) = refused room why no_state

-- a report answers no request: its header is as that of a reply to this sequence number
abbrev pub unasked : ℕ → ZclHeader
unasked sequence =
    record {
      frame_control = record { 0 = 0 };
      manufacturer_code = record { 0 = 0 };
      sequence_number = sequence;
      command_identifier = record { 0 = 0 };
      body = 0;
    }

-- 18, the sequence number, 0a
abbrev pub report_head : ℕ → List ℕ
report_head sequence = reply_head (unasked sequence) ReportAttributes

-- A REPORT of these attributes: 7, 5 for the header, 11 for an empty list, then 12 or 5 per id
unfoldable pub report_of : ℕ → List ℕ → ℕ → List ℕ → ℕ → Outcome (Unit {0})
report_of form s sequence ids room =
    let head : List ℕ = report_head sequence in
    cond (is_store form s)
    (cond (leb (length head) room)
    (cond (ltb 0 (length ids))
    (report_reply room head (report_from form s room (length head) [] ids))
    (refused room EmptyReport no_state))
    (refused room ReplyTooLong no_state))
    (refused room NotAStore no_state)
