-- How every reply starts: by the head that it is written behind. Assumes nothing.
use Rattle.std.specs.Prelude.{Option, Some}
use mathlib.Core.Path.{◌≡◌, refl, sym, subst}
use mathlib.Core.Bool.{Bool}
use mathlib.Core.List.{List}
use Prim.Native.Nat.{ℕ}
use lib.ListN.{drop}
use Rattle.frame.specs.declared.header.ZclHeader.{ZclHeader}
use Rattle.frame.specs.declared.header.FrameType.{FrameType}
use Rattle.frame.specs.declared.header.FrameType.TheVariants.{GlobalCommand, ClusterCommand, Reserved}
use Rattle.frame.specs.declared.command_identifier.CommandIdentifier.TheVariants.{ReportAttributes, DefaultResponse}
use Rattle.frame.specs.declared.answer.Refusal.TheVariants.{ReservedFrameType}
use Rattle.frame.specs.CommandIdentifier.{command_of}
use Rattle.frame.specs.Header.{frame_type_of, header_of, reply_head}
use Rattle.reporting.specs.declared.entry.Entry.{Entry}
use Rattle.reporting.specs.Table.{Table, holding}
use Rattle.report.specs.Report.{unasked}
use Rattle.server.specs.Serve.{typed, by_header, serve}
use Rattle.server.specs.Claims.Starts.{answering, RepliesStart, ResponsesStart, ReportsStart}
use Rattle.server.specs.UnsupportedCluster.{unsupported_cluster}
use Rattle.server.proofs.Cases.{passed_case}
use Rattle.server.proofs.Elsewhere.{head_of, responder_says, report-says}
use Rattle.server.proofs.Shapes.{unsupported_shape, commanded_shape}
use Rattle.server.proofs.Says.{Says, declines, says_starts, shape_says}

-- ---- to a request

module _ (form limit : ℕ) (s : List ℕ) (cluster : ℕ) (unicast : Bool) (frame : List ℕ) (room : ℕ) (h : ZclHeader) where
  abbrev head_by : FrameType → List ℕ
  head_by k = reply_head h (answering k h.command_identifier.0)

  typed_says : (l : List Entry) (body : List ℕ) (k : FrameType) → Says (head_by k) room (typed form limit s (holding l) unicast h body room k)
  unfolding typed
  typed_says l body GlobalCommand = shape_says _ room _ (commanded_shape form limit s l unicast h body room (command_of h.command_identifier.0))
  typed_says l body ClusterCommand = shape_says _ room _ (unsupported_shape form limit s l unicast h body room)
  typed_says l body Reserved = declines ReservedFrameType refl

  module _ (e : header_of frame ≡ Some h) where
    abbrev head : List ℕ
    head = head_by (frame_type_of h.frame_control.0)

    header-says : (l : List Entry) → Says head room (by_header form limit s (holding l) unicast frame room (header_of frame))
    unfolding by_header
    header-says l =
        subst (λ (r : Option ZclHeader). Says head room (by_header form limit s (holding l) unicast frame room r)) (sym e) (typed_says l (drop h.body frame) (frame_type_of h.frame_control.0))

    pub request-says : (t : Table) → Says head room (serve form limit s t cluster unicast frame room)
    request-says = passed_case form limit s unicast room (λ t o. Says head room o) (λ t why e. declines why refl) cluster frame header-says

pub replies_start : RepliesStart
replies_start form limit s t cluster unicast frame room h e = says_starts h _ room _ (request-says form limit s cluster unicast frame room h e t)

-- ---- the responder's, and a report

pub responses_start : ResponsesStart
responses_start served cluster unicast frame room h e =
    says_starts h DefaultResponse room _
    (subst (λ (r : Option ZclHeader). Says (head_of r) room (unsupported_cluster served cluster unicast frame room)) e (responder_says served cluster unicast frame room))

pub reports_start : ReportsStart
reports_start form s sequence ids room = says_starts (unasked sequence) ReportAttributes room _ (report-says form s room sequence ids)
