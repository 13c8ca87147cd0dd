-- Definitions. The server's functions towards C: those of crates `store`, `report` and `server`, with a table as its bytes and `unicast` as a number, 0 or
-- anything else.
use Rattle.std.specs.Prelude.{ℕ, Bool, not, List, eqb, ℤ}
use Rattle.frame.specs.Answer.{Outcome}
use Rattle.store.specs.Contents.{name_of}
use Rattle.store.specs.Value.{Telling, telling, number_of}
use Rattle.server.specs.Lent.{Lent, serve_lent}
use Rattle.server.specs.UnsupportedCluster.{unsupported_cluster}
use Rattle.report.specs.Report.{report_of}
use Rattle.report.specs.Turn.{After, turn_for, turn_of}

-- what C has after a call: the number, how many bytes of the reply are used, the whole reply buffer, and what else was lent
abbrev pub handed : {S : Type 0} → ℕ → ℕ → List ℕ → S → Outcome S
handed n used d s = record { number = n; size = used; reply = d; state = s }

abbrev pub is_unicast : ℕ → Bool
is_unicast unicast = not (eqb unicast 0)

-- hd_number
abbrev pub number_handed : ℕ → ℤ → Telling
number_handed n z = record { answer = n; value = z }

abbrev pub number_left : List ℕ → ℕ → Telling
number_left s attribute = telling (number_of 8 s (name_of 0 attribute))

-- hd_unsupported_cluster
abbrev pub unsupported_left : List ℕ → ℕ → ℕ → List ℕ → ℕ → Outcome (Unit {0})
unsupported_left served cluster unicast frame size = unsupported_cluster served cluster (is_unicast unicast) frame size

-- hd_report
abbrev pub report_left : List ℕ → ℕ → List ℕ → ℕ → Outcome (Unit {0})
report_left s sequence ids size = report_of 8 s sequence ids size

-- hd_report_turn
abbrev pub turn_left : List ℕ → List ℕ → ℕ → ℕ → ℕ → ℕ → Outcome After
turn_left s bs sequence now last size = turn_of 8 (turn_for s sequence last now size) bs

-- hd_handle_request
abbrev pub handle_left : List ℕ → List ℕ → ℕ → ℕ → List ℕ → ℕ → Outcome Lent
handle_left s bs cluster unicast frame size = serve_lent s bs cluster (is_unicast unicast) frame size
