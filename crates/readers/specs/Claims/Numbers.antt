-- Claims. THE NUMBER COMES THROUGH: of every value that a read was answered with, or that a report carries, the number that is read from the frame is
-- the number of the attribute in the store. A counter with its top bit set is as large at the head-end as it is in the box. Proved in
-- proofs/Through.antt.
use Rattle.std.specs.Prelude.{◌≡◌, ℕ, ◌<◌, ◌^◌, Bool, List, take, Ok, Some}
use Rattle.frame.specs.declared.header.ZclHeader.{ZclHeader}
use Rattle.frame.specs.declared.command_identifier.CommandIdentifier.TheVariants.{ReadAttributes}
use Rattle.frame.specs.Answer.{no_state, seen}
use Rattle.frame.specs.Walk.{All}
use Rattle.store.specs.Contents.{name_of}
use Rattle.store.specs.Value.{numbered_by, number_of}
use Rattle.reporting.specs.declared.entry.Entry.{Entry}
use Rattle.reporting.specs.Table.{holding}
use Rattle.read.specs.Read.{value}
use Rattle.server.specs.Serve.{State, serve}
use Rattle.report.specs.Report.{report_record, report_of}
use Rattle.server.specs.Claims.Asks.{Asks}
use Rattle.readers.specs.declared.value.ValueIn.{ValueIn}
use Rattle.readers.specs.Reading.{kth}
use Rattle.readers.specs.Values.{held, read_reply_held, report_frame_held}
use Rattle.readers.specs.Claims.Served.{Typed}

abbrev pub ReadNumber : Type 0
ReadNumber =
    (form limit : ℕ) (s : List ℕ) (l : List Entry) (cluster : ℕ) (unicast : Bool) (frame : List ℕ) (room : ℕ) (h : ZclHeader)
    → Typed s frame l → Asks ReadAttributes frame h
    → (size : ℕ) (reply : List ℕ) (after : State) → seen (Ok size) reply after ≡ serve form limit s (holding l) cluster unicast frame room
    → (k id t : ℕ) (v : List ℕ) (w : ValueIn) → kth k (read_reply_held (take size reply)) ≡ Ok (Some (held (value id t v) (Some w)))
    → numbered_by w.number ≡ number_of form s (name_of h.manufacturer_code.0 id)

abbrev pub ReportNumber : Type 0
ReportNumber =
    (form : ℕ) (s : List ℕ) (sequence : ℕ) (ids : List ℕ) (room : ℕ) → All (λ (id : ℕ). id < 2 ^ 16) ids
    → (size : ℕ) (reply : List ℕ) → seen (Ok size) reply no_state ≡ report_of form s sequence ids room
    → (k id t : ℕ) (v : List ℕ) (w : ValueIn) → kth k (report_frame_held (take size reply)) ≡ Ok (Some (held (report_record id t v) (Some w)))
    → numbered_by w.number ≡ number_of form s (name_of 0 id)
