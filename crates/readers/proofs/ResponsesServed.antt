-- Reading a Default Response gives the request's command and the status: to a cluster command, to any other global command, and of a
-- cluster that is not served. Assumes nothing.
use Rattle.std.specs.Prelude.{Option, Some}
use mathlib.Core.Path.{◌≡◌, refl, sym, subst}
use mathlib.Core.Bool.{Bool, not, ◌&&◌}
use mathlib.Core.List.{List, [], ◌++◌}
use Prim.Native.Nat.{ℕ}
use lib.ListN.{length}
use lib.Dec.{leb}
use Rattle.frame.specs.declared.header.ZclHeader.{ZclHeader}
use Rattle.frame.specs.declared.command_identifier.CommandIdentifier.{CommandIdentifier}
use Rattle.frame.specs.declared.command_identifier.CommandIdentifier.TheVariants.{ReadAttributes, ReadAttributesResponse, WriteAttributes, WriteAttributesUndivided, WriteAttributesResponse, WriteAttributesNoResponse, ConfigureReporting, ConfigureReportingResponse, ReadReportingConfiguration, ReadReportingConfigurationResponse, ReportAttributes, DefaultResponse, DiscoverAttributes, DiscoverAttributesResponse, Other}
use Rattle.frame.specs.declared.status.Status.{Status}
use Rattle.frame.specs.declared.status.Status.TheVariants.{UnsupCommand, UnsupportedCluster}
use Rattle.frame.specs.declared.answer.Refusal.TheVariants.{ReplyTooLong, NothingToSend}
use Rattle.frame.specs.Status.{status_code}
use Rattle.frame.specs.Header.{reply_head, header_of}
use Rattle.frame.specs.Answer.{Outcome, no_state, refused}
use Rattle.reporting.specs.Table.{Table, holding}
use Rattle.server.specs.DefaultResponse.{silences, default_reply, default_response}
use Rattle.server.specs.Serve.{State, commanded}
use Rattle.server.specs.Claims.Asks.{AsksCluster}
use Rattle.server.specs.UnsupportedCluster.{is_served, is_default_response, respond, unsupported_cluster}
use Rattle.readers.specs.Replies.{Response, default_response_of}
use Rattle.readers.specs.Claims.Back.{ReadsBack, response_bytes, DefaultResponsesBack}
use Rattle.readers.specs.Claims.Served.{response_made, ClusterServed, IsOther, OtherServed, UnsupportedClusterServed}
use Rattle.readers.proofs.Reaching.{by_cluster}
use Rattle.readers.proofs.Outs.{Sends, sends_replied, sends_refused, sends_either, sends_tested}
use Rattle.readers.proofs.Answers.{Commands, read_sent, answered_by, serves_by}

-- every one can be sent
abbrev Anything : Response → Type 0
Anything r = Unit {0}

responses_back : DefaultResponsesBack → ReadsBack default_response_of DefaultResponse response_bytes Anything
unfolding reply_head
responses_back back request x t = back request x []

abbrev response : ZclHeader → Status → Response
response h status = record { command = h.command_identifier.0; status = status_code status }

-- ---- what is sent

abbrev sent_by : ZclHeader → Status → List ℕ
sent_by h status = reply_head h DefaultResponse ++ response_bytes (response h status)

default_sends : (h : ZclHeader) (unicast : Bool) (status : Status) (room : ℕ) → Sends (default_response h unicast status room) (sent_by h status)
unfolding default_response default_reply
default_sends h unicast status room =
    let out : List ℕ = sent_by h status in
    sends_tested room (unicast && not (silences h.frame_control.0 status)) _ NothingToSend no_state out
    (sends_tested room (leb (length out) room) _ ReplyTooLong no_state out (sends_replied room out no_state))

-- what is not one of the seven and no Default Response is answered as a reply to a read that was received
module _ (form limit : ℕ) (s : List ℕ) (t : Table) (unicast : Bool) (h : ZclHeader) (body : List ℕ) (room : ℕ) where
  other_is : (c : CommandIdentifier) → IsOther c
      → commanded form limit s t unicast h body room ReadAttributesResponse ≡ commanded form limit s t unicast h body room c
  unfolding commanded
  other_is ReadAttributes o = absurd o
  other_is WriteAttributes o = absurd o
  other_is WriteAttributesUndivided o = absurd o
  other_is WriteAttributesNoResponse o = absurd o
  other_is ConfigureReporting o = absurd o
  other_is ReadReportingConfiguration o = absurd o
  other_is DiscoverAttributes o = absurd o
  other_is ReadAttributesResponse o = refl
  other_is WriteAttributesResponse o = refl
  other_is ConfigureReportingResponse o = refl
  other_is ReadReportingConfigurationResponse o = refl
  other_is ReportAttributes o = refl
  other_is DefaultResponse o = absurd o
  other_is DiscoverAttributesResponse o = refl
  other_is (Other b) o = refl

  unsupported_sends : Sends (commanded form limit s t unicast h body room ReadAttributesResponse) (sent_by h UnsupCommand)
  unfolding commanded
  unsupported_sends = default_sends h unicast UnsupCommand room

  other_sends : (c : CommandIdentifier) → IsOther c → Sends (commanded form limit s t unicast h body room c) (sent_by h UnsupCommand)
  other_sends c o = subst (λ (x : Outcome State). Sends x (sent_by h UnsupCommand)) (other_is c o) unsupported_sends

commands : (c : CommandIdentifier) → IsOther c → Commands DefaultResponse response_bytes Anything c response_made
commands c o form limit s l unicast h body room t store = record { sendable = tt; sends = other_sends form limit s (holding l) unicast h body room c o }

cluster_sends : (served : List ℕ) (cluster : ℕ) (unicast : Bool) (frame : List ℕ) (room : ℕ) (h : ZclHeader) → header_of frame ≡ Some h
    → Sends (unsupported_cluster served cluster unicast frame room) (sent_by h UnsupportedCluster)
unfolding unsupported_cluster respond
cluster_sends served cluster unicast frame room h e =
    let out : List ℕ = sent_by h UnsupportedCluster in
    let none : Outcome (Unit {0}) = refused room NothingToSend no_state in
    let one : Sends (respond unicast room (Some h)) out =
    sends_either (is_default_response h) none _ out (sends_refused room NothingToSend no_state out) (default_sends h unicast UnsupportedCluster room) in
    sends_either (is_served cluster served) none _ out (sends_refused room NothingToSend no_state out)
    (subst (λ (r : Option ZclHeader). Sends (respond unicast room r) out) (sym e) one)

-- ---- THE PROMISES

module _ (back : DefaultResponsesBack) where
  pub cluster_served : ClusterServed
  cluster_served =
      answered_by default_response_of DefaultResponse response_bytes Anything (responses_back back) ReadAttributesResponse AsksCluster response_made
      by_cluster (commands ReadAttributesResponse tt)

  pub other_served : OtherServed
  other_served c o = serves_by default_response_of DefaultResponse response_bytes Anything (responses_back back) c response_made (commands c o)

  pub unsupported_cluster_served : UnsupportedClusterServed
  unsupported_cluster_served served cluster unicast frame room h e size d g =
      read_sent default_response_of DefaultResponse response_bytes Anything (responses_back back) h (unsupported_cluster served cluster unicast frame room)
      (response h UnsupportedCluster) (record { sendable = tt; sends = cluster_sends served cluster unicast frame room h e }) size d no_state g
