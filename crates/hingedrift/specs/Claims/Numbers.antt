-- Claims. THE NUMBER COMES THROUGH, in what the functions towards C left: of every value in a frame that hd_handle_request or hd_report wrote,
-- hd_read_record and hd_report_record hand out the number that hd_number gives of the store, and none where it has none. So a counter that the box
-- holds as 2147483648 is 2147483648 at the head-end. Proved in proofs/Through.antt.
use Rattle.std.specs.Prelude.{◌≡◌, ℕ, ◌<◌, ◌^◌, cond, List, take, eqb, ℤ}
use Rattle.types.specs.Number.{AllBytes}
use Rattle.frame.specs.declared.header.ZclHeader.{ZclHeader}
use Rattle.frame.specs.declared.command_identifier.CommandIdentifier.TheVariants.{ReadAttributes}
use Rattle.frame.specs.declared.answer.Refusal.TheVariants.{NoNumber}
use Rattle.frame.specs.Answer.{refusal_number, no_state}
use Rattle.frame.specs.Walk.{All}
use Rattle.store.specs.Value.{Telling}
use Rattle.server.specs.Lent.{Lent}
use Rattle.server.specs.Claims.Asks.{Asks}
use Rattle.hingedrift.specs.Serving.{handed, number_handed, handle_left, report_left, number_left}
use Rattle.readers.specs.Told.{told, value_as, read_as, report_as}
use Rattle.hingedrift.specs.Reading.{read_recorded, report_recorded}

-- what a record says of its value's number, as hd_number would: the number, or 9
abbrev pub number_said : ℕ → ℤ → Telling
number_said numbered z = cond (eqb numbered 1) (number_handed 0 z) (number_handed (refusal_number NoNumber) z)

-- a Read Attributes was answered with a reply of `size` bytes; record k of these bytes was found, with status 0
abbrev pub HdReadNumber : Type 0
HdReadNumber =
    (s bs : List ℕ) (cluster unicast : ℕ) (frame : List ℕ) (room : ℕ) (h : ZclHeader)
    → AllBytes s → AllBytes bs → AllBytes frame → Asks ReadAttributes frame h
    → (size : ℕ) (reply : List ℕ) (after : Lent) → handed 0 size reply after ≡ handle_left s bs cluster unicast frame room
    → (k id t start len numbered : ℕ) (z : ℤ) → told 0 (read_as 1 id 0 (value_as t start len numbered z)) ≡ read_recorded (take size reply) k
    → number_said numbered z ≡ number_left s id

-- the same of a report
abbrev pub HdReportNumber : Type 0
HdReportNumber =
    (s : List ℕ) (sequence : ℕ) (ids : List ℕ) (room : ℕ) → All (λ (id : ℕ). id < 2 ^ 16) ids
    → (size : ℕ) (frame : List ℕ) → handed 0 size frame no_state ≡ report_left s sequence ids room
    → (k id t start len numbered : ℕ) (z : ℤ) → told 0 (report_as 1 id (value_as t start len numbered z)) ≡ report_recorded (take size frame) k
    → number_said numbered z ≡ number_left s id
