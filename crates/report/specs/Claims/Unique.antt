-- Claims. No second answer fits a call: one claim for each public function, of two results and exit buffers that meet its contract at the same entry
-- values.
use Rattle.std.specs.Prelude.{◌≡◌, List, ℕ, length, Result}
use Rattle.frame.specs.declared.answer.Refusal.{Refusal}
use Rattle.frame.specs.Answer.{no_state, seen}
use Rattle.report.specs.declared.turn.Turned.{Turned}
use Rattle.report.specs.Report.{report_of}
use Rattle.report.specs.Turn.{turn_for, after_turn, turn_of}

-- src/report.rt
abbrev pub ReportOnce : Type 0
ReportOnce =
    (store : List ℕ) (sequence : ℕ) (ids frame : List ℕ) (r q : Result ℕ Refusal) (x y : List ℕ)
    → seen r x no_state ≡ report_of 8 store sequence ids (length frame)
    → seen q y no_state ≡ report_of 8 store sequence ids (length frame)
    → (r ≡ q) × (x ≡ y)

-- src/turn.rt
abbrev pub ReportTurnOnce : Type 0
ReportTurnOnce =
    (store table : List ℕ) (sequence time last : ℕ) (frame : List ℕ) (r q : Turned) (x y bs cs : List ℕ)
    → seen r.answer x (after_turn bs r.last) ≡ turn_of 8 (turn_for store sequence last time (length frame)) table
    → seen q.answer y (after_turn cs q.last) ≡ turn_of 8 (turn_for store sequence last time (length frame)) table
    → (r ≡ q) × ((x ≡ y) × (bs ≡ cs))
