-- No second answer fits a call. Assumes nothing.
use mathlib.Core.Path.{ap}
use lib.ListN.{length}
use Rattle.frame.proofs.Outcome.{only_one, only_answer}
use Rattle.report.specs.Report.{report_of}
use Rattle.report.specs.Turn.{After, turn_for, after_turn, turn_of}
use Rattle.report.specs.Claims.Unique.{ReportOnce, ReportTurnOnce}

-- src/report.rt

pub report_once : ReportOnce
report_once store sequence ids frame r q x y e f = only_answer (report_of 8 store sequence ids (length frame)) r q x y e f

-- src/turn.rt

pub report_turn_once : ReportTurnOnce
report_turn_once store table sequence time last frame r q x y bs cs e f =
    let w = only_one (turn_of 8 (turn_for store sequence last time (length frame)) table) r.answer q.answer x y (after_turn bs r.last) (after_turn cs q.last) e f in
    (λ i. record { answer = w.0 i; last = (w.1.1 i).last }, (w.1.0, ap (λ (z : After). z.table) w.1.1))
