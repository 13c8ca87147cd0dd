-- Inside. What the functions of a report frame say; nothing that a caller must believe.
use Rattle.std.specs.Prelude.{◌≡◌, ℕ, List, [], ◌++◌, length, Err, Ok, Result}
use Rattle.types.specs.Number.{zeros}
use Rattle.frame.specs.declared.answer.Refusal.{Refusal}
use Rattle.frame.specs.Answer.{no_state, seen}
use Rattle.frame.specs.Inside.Buffer.{Shows, Longer}
use Rattle.frame.specs.Encoded.{encode_all}
use Rattle.report.specs.Report.{ReportRecord, encode, Reported, all, trouble, report_one, report_from, report_reply}

-- the report so far is these records, and the buffer shows them behind the head
pub record More (head : List ℕ) (capacity : ℕ) (y : Reported) (o : ℕ) (after : List ℕ) : Type 0 where
  pub records : List ReportRecord
  pub is : y ≡ all records
  pub longer : Longer encode head records capacity o after

-- it has ended, and nothing of it is left in the buffer
pub record Over (capacity : ℕ) (y : Reported) (why : Refusal) (after : List ℕ) : Type 0 where
  pub is : y ≡ trouble why
  pub cleared : after ≡ zeros capacity

-- the one or the other, by the answer
abbrev pub Shown : List ℕ → ℕ → Reported → Result ℕ Refusal → List ℕ → Type 0
Shown head capacity y (Ok o) after = More head capacity y o after
Shown head capacity y (Err why) after = Over capacity y why after

-- one id was reported, whatever records the buffer showed before it, and behind whatever head
abbrev pub Reports : List ℕ → ℕ → List ℕ → ℕ → Result ℕ Refusal → List ℕ → Type 0
Reports s id d out r after =
    (head : List ℕ) (rs : List ReportRecord) → Shows d out (head ++ encode_all encode rs)
    → Shown head (length d) (report_one 8 s (length d) (length head) (all rs) id) r after

-- every id was reported, behind whatever head the buffer showed
abbrev pub ReportsAll : List ℕ → List ℕ → List ℕ → ℕ → Result ℕ Refusal → List ℕ → Type 0
ReportsAll s ids d from r after =
    (head : List ℕ) → Shows d from head → seen r after no_state ≡ report_reply (length d) head (report_from 8 s (length d) (length head) [] ids)
