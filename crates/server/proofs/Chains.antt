-- A chain of replies ends: every reply is a global command that gets a Default Response at most, and a Default Response gets nothing. Assumes nothing.
use Rattle.std.specs.Prelude.{None, Option, Some}
use mathlib.Core.Path.{◌≡◌, refl, sym, ap, ◌∙◌, subst}
use mathlib.Core.Bool.{Bool, true, false, cond, ◌&&◌, true≢false}
use mathlib.Core.List.{List, [], ◌∷◌, ◌++◌}
use Prim.Native.Nat.{ℕ, ◌≤◌}
use native.Mathlib.Omega.{arith}
use lib.ListN.{length, take, drop}
use lib.Dec.{eqb}
use borrow.Author.Tests.{eqb-true, eq-eqb, ne_eqb}
use Rattle.frame.specs.declared.header.ZclHeader.{ZclHeader}
use Rattle.frame.specs.declared.header.FrameType.{FrameType}
use Rattle.frame.specs.declared.header.FrameType.TheVariants.{GlobalCommand, ClusterCommand, Reserved}
use Rattle.frame.specs.declared.command_identifier.CommandIdentifier.{CommandIdentifier}
use Rattle.frame.specs.declared.command_identifier.CommandIdentifier.TheVariants.{ReadAttributes, ReadAttributesResponse, WriteAttributes, WriteAttributesUndivided, WriteAttributesResponse, WriteAttributesNoResponse, ConfigureReporting, ConfigureReportingResponse, ReadReportingConfiguration, ReadReportingConfigurationResponse, ReportAttributes, DefaultResponse, DiscoverAttributes, DiscoverAttributesResponse, Other}
use Rattle.frame.specs.declared.status.Status.TheVariants.{UnsupportedCluster}
use Rattle.frame.specs.declared.answer.Refusal.{Refusal}
use Rattle.frame.specs.declared.answer.Refusal.TheVariants.{NothingToSend}
use Rattle.frame.specs.CommandIdentifier.{command_code, command_of}
use Rattle.frame.specs.Header.{frame_type_of, is_global, header_with, header_of, reply_head}
use Rattle.frame.specs.Answer.{refusal_number, Outcome, no_state, replied, refused}
use Rattle.frame.proofs.Buffer.{take_padded}
use Rattle.frame.proofs.Codes.{refusal_nonzero, code_of}
use Rattle.frame.proofs.Headers.{header_plain}
use Rattle.store.specs.Contents.{cluster_of}
use Rattle.store.specs.Layout.{is_store}
use Rattle.reporting.specs.declared.entry.Entry.{Entry}
use Rattle.reporting.specs.Table.{Table, holding}
use Rattle.server.specs.DefaultResponse.{default_response}
use Rattle.server.specs.Serve.{state, commanded, typed, by_header, tabled, serve}
use Rattle.server.specs.UnsupportedCluster.{is_served, is_default_response, respond, unsupported_cluster}
use Rattle.report.specs.Report.{unasked, report_of}
use Rattle.server.specs.Claims.Starts.{reply_to, answering}
use Rattle.server.specs.Claims.Chain.{Box, serving, responding, sent, answer_of, onward, chain, DefaultResponseGetsNothing, DefaultResponseUnanswered, IsDefaultResponse, AnswerToAnswer, AnswerToReport, ChainEnds, ReportChainEnds}
use Rattle.server.proofs.Cases.{passed_case}
use Rattle.server.proofs.Elsewhere.{head_of, responder_says, report-says}
use Rattle.server.proofs.Says.{Says, sends, declines}
use Rattle.server.proofs.Starting.{request-says}

-- ---- frames by their command

-- a frame is a global command
pub record Is (command : CommandIdentifier) (frame : List ℕ) : Type 0 where
  pub h : ZclHeader
  pub header : header_of frame ≡ Some h
  pub global : frame_type_of h.frame_control.0 ≡ GlobalCommand
  pub command_is : command_of h.command_identifier.0 ≡ command

-- a command that gets a Default Response at most
pub record Response (command : CommandIdentifier) : Type 0 where
  pub own : command_of (command_code command) ≡ command
  pub next : reply_to command ≡ DefaultResponse

-- so does every command that is a reply
response : (c : CommandIdentifier) → Response (reply_to c)
unfolding command_of
response ReadAttributes = record { own = refl; next = refl }
response WriteAttributes = record { own = refl; next = refl }
response WriteAttributesUndivided = record { own = refl; next = refl }
response WriteAttributesNoResponse = record { own = refl; next = refl }
response ConfigureReporting = record { own = refl; next = refl }
response ReadReportingConfiguration = record { own = refl; next = refl }
response DiscoverAttributes = record { own = refl; next = refl }
response ReadAttributesResponse = record { own = refl; next = refl }
response WriteAttributesResponse = record { own = refl; next = refl }
response ConfigureReportingResponse = record { own = refl; next = refl }
response ReadReportingConfigurationResponse = record { own = refl; next = refl }
response ReportAttributes = record { own = refl; next = refl }
response DefaultResponse = record { own = refl; next = refl }
response DiscoverAttributesResponse = record { own = refl; next = refl }
response (Other b) = record { own = refl; next = refl }

answering_response : (k : FrameType) (n : ℕ) → Response (answering k n)
answering_response GlobalCommand n = response (command_of n)
answering_response ClusterCommand n = response DefaultResponse
answering_response Reserved n = response DefaultResponse

report_response : Response ReportAttributes
unfolding command_of
report_response = record { own = refl; next = refl }

-- a frame that gets a Default Response at most
abbrev Reply : List ℕ → Type 0
Reply frame = (c : CommandIdentifier) × Response c × Is c frame

-- what stands behind a reply's head is a frame of that command
headed_is : (request : ZclHeader) (c : CommandIdentifier) (rest : List ℕ) → Response c → Is c (reply_head request c ++ rest)
unfolding reply_head frame_type_of
headed_is request c rest r =
    let frame : List ℕ = reply_head request c ++ rest in
    record { h = header_with frame 0 0; header = header_plain frame refl (omega arith); global = refl; command_is = r.own }

-- ---- what is sent

-- nothing, or a frame of which P holds
abbrev Sent : (List ℕ → Type 0) → Option (List ℕ) → Type 0
Sent P None = Unit {0}
Sent P (Some frame) = P frame

sent_each : (P Q : List ℕ → Type 0) → ((frame : List ℕ) → P frame → Q frame) → (x : Option (List ℕ)) → Sent P x → Sent Q x
sent_each P Q f None p = tt
sent_each P Q f (Some frame) p = f frame p

refused_silent : {S : Type 0} (room : ℕ) (why : Refusal) (x : S) → sent (refused room why x) ≡ None
refused_silent room why x =
    ap (λ (b : Bool). cond b (Some (take 0 (refused room why x).reply)) None) (ne_eqb (refusal_number why) 0 (λ q. omega (arith, refusal_nonzero why, q)))

module _ {S : Type 0} (room : ℕ) (o : Outcome S) where
  sent_refused : (why : Refusal) → o ≡ refused room why o.state → sent o ≡ None
  sent_refused why e = ap sent e ∙ refused_silent room why o.state

  sent_replied : (out : List ℕ) → o ≡ replied room out o.state → sent o ≡ Some out
  sent_replied out e = ap sent e ∙ ap Some (take_padded room out)

  says_sent : (P : List ℕ → Type 0) (head : List ℕ) → ((rest : List ℕ) → P (head ++ rest)) → Says head room o → Sent P (sent o)
  says_sent P head p (sends rest k e) = subst (Sent P) (sym (sent_replied (head ++ rest) e)) (p rest)
  says_sent P head p (declines why e) = subst (Sent P) (sym (sent_refused why e)) tt

-- ---- any frame: every reply gets a Default Response at most

module _ (form limit : ℕ) (s : List ℕ) (t : Table) (cluster : ℕ) (unicast : Bool) (frame : List ℕ) (room : ℕ) where
  -- a frame with a header is answered by a frame of the command that answers its own
  request_sends : (h : ZclHeader) → header_of frame ≡ Some h → (c : CommandIdentifier) → answering (frame_type_of h.frame_control.0) h.command_identifier.0 ≡ c → Response c
      → Sent (Is c) (sent (serve form limit s t cluster unicast frame room))
  request_sends h e c a r =
      says_sent room _ (Is c) (reply_head h c) (λ rest. headed_is h c rest r)
      (subst (λ (x : CommandIdentifier). Says (reply_head h x) room (serve form limit s t cluster unicast frame room)) a (request-says form limit s cluster unicast frame room h e t))

  -- where what passes 7, 8 and 1 gets nothing, nothing is sent
  silent_passed : ((l : List Entry) → sent (by_header form limit s (holding l) unicast frame room (header_of frame)) ≡ None) → sent (serve form limit s t cluster unicast frame room) ≡ None
  silent_passed k = passed_case form limit s unicast room (λ u o. sent o ≡ None) (λ u why e. refused_silent room why (state s u)) cluster frame k t

  short_silent : header_of frame ≡ None → sent (serve form limit s t cluster unicast frame room) ≡ None
  unfolding by_header
  short_silent e = silent_passed (λ l. ap (λ (r : Option ZclHeader). sent (by_header form limit s (holding l) unicast frame room r)) e)

  request_replies : (r : Option ZclHeader) → header_of frame ≡ r → Sent Reply (sent (serve form limit s t cluster unicast frame room))
  request_replies (Some h) e =
      let c : CommandIdentifier = answering (frame_type_of h.frame_control.0) h.command_identifier.0 in
      let r : Response c = answering_response (frame_type_of h.frame_control.0) h.command_identifier.0 in
      sent_each (Is c) Reply (λ f i. (c, r, i)) (sent (serve form limit s t cluster unicast frame room)) (request_sends h e c refl r)
  request_replies None e = subst (Sent Reply) (sym (short_silent e)) tt

module _ (served : List ℕ) (cluster : ℕ) (unicast : Bool) (frame : List ℕ) (room : ℕ) where
  -- where what is not served gets nothing, nothing is sent
  silent_response : sent (respond unicast room (header_of frame)) ≡ None → sent (unsupported_cluster served cluster unicast frame room) ≡ None
  unfolding unsupported_cluster
  silent_response k = go (is_served cluster served)
    where
      go : (b : Bool) → sent (cond b (refused room NothingToSend no_state) (respond unicast room (header_of frame))) ≡ None
      go true = refused_silent room NothingToSend no_state
      go false = k

  response_sends : (r : Option ZclHeader) → header_of frame ≡ r → Sent (Is DefaultResponse) (sent (unsupported_cluster served cluster unicast frame room))
  unfolding respond
  response_sends (Some h) e =
      says_sent room _ (Is DefaultResponse) (reply_head h DefaultResponse) (λ rest. headed_is h DefaultResponse rest (response DefaultResponse))
      (subst (λ (r : Option ZclHeader). Says (head_of r) room (unsupported_cluster served cluster unicast frame room)) e (responder_says served cluster unicast frame room))
  response_sends None e =
      subst (Sent (Is DefaultResponse)) (sym (silent_response (ap (λ (r : Option ZclHeader). sent (respond unicast room r)) e))) tt

default-reply : (frame : List ℕ) → Is DefaultResponse frame → Reply frame
default-reply frame i = (DefaultResponse, response DefaultResponse, i)

box_replies : (b : Box) (frame : List ℕ) → Sent Reply (answer_of b frame)
box_replies (serving form limit s t cluster unicast room) frame = request_replies form limit s t cluster unicast frame room (header_of frame) refl
box_replies (responding served cluster unicast room) frame =
    sent_each (Is DefaultResponse) Reply default-reply (sent (unsupported_cluster served cluster unicast frame room)) (response_sends served cluster unicast frame room (header_of frame) refl)

-- ---- to such a reply: a Default Response

answer_sends : (b : Box) (frame : List ℕ) → Reply frame → Sent (Is DefaultResponse) (answer_of b frame)
answer_sends (serving form limit s t cluster unicast room) frame (c, r, i) =
    request_sends form limit s t cluster unicast frame room i.h i.header DefaultResponse
    (ap (λ (k : FrameType). answering k i.h.command_identifier.0) i.global ∙ ap reply_to i.command_is ∙ r.next) (response DefaultResponse)
answer_sends (responding served cluster unicast room) frame r = response_sends served cluster unicast frame room (header_of frame) refl

is_default : (frame : List ℕ) → Is DefaultResponse frame → IsDefaultResponse frame
is_default frame i =
    let n : ℕ = i.h.command_identifier.0 in
    let e : n ≡ command_code DefaultResponse = sym (code_of n) ∙ ap command_code i.command_is in
    (i.h, i.header, ap (λ (k : FrameType). is_global k && eqb n (command_code DefaultResponse)) i.global ∙ eq-eqb n (command_code DefaultResponse) e)

-- ---- to a Default Response: nothing

told : (k : FrameType) (b : Bool) → (is_global k && b) ≡ true → (k ≡ GlobalCommand) × (b ≡ true)
told GlobalCommand b e = (refl, e)
told ClusterCommand b e = absurd (true≢false (sym e))
told Reserved b e = absurd (true≢false (sym e))

named : (n : ℕ) → n ≡ command_code DefaultResponse → command_of n ≡ DefaultResponse
unfolding command_of
named n e = ap command_of e

module _ (frame : List ℕ) (h : ZclHeader) (e : header_of frame ≡ Some h) (d : is_default_response h ≡ true) where
  module _ (form limit : ℕ) (s : List ℕ) (l : List Entry) (unicast : Bool) (room : ℕ) where
    default_passed : by_header form limit s (holding l) unicast frame room (header_of frame) ≡ refused room NothingToSend (state s (holding l))
    unfolding by_header typed commanded
    default_passed =
        let n : ℕ = h.command_identifier.0 in
        let w : (frame_type_of h.frame_control.0 ≡ GlobalCommand) × (eqb n (command_code DefaultResponse) ≡ true) = told _ _ d in
        ap (by_header form limit s (holding l) unicast frame room) e
        ∙ ap (typed form limit s (holding l) unicast h (drop h.body frame) room) w.0
        ∙ ap (commanded form limit s (holding l) unicast h (drop h.body frame) room) (named n (eqb-true n (command_code DefaultResponse) w.1))

    default_served : is_store form s ≡ true → serve form limit s (holding l) (cluster_of s) unicast frame room ≡ refused room NothingToSend (state s (holding l))
    unfolding serve tabled
    default_served is = rw (is, eq-eqb (cluster_of s) (cluster_of s) refl) default_passed

  unanswered : (b : Box) → answer_of b frame ≡ None
  unfolding respond
  unanswered (serving form limit s t cluster unicast room) =
      silent_passed form limit s t cluster unicast frame room
      (λ l. ap sent (default_passed form limit s l unicast room) ∙ refused_silent room NothingToSend (state s (holding l)))
  unanswered (responding served cluster unicast room) =
      silent_response served cluster unicast frame room
      (ap (λ (r : Option ZclHeader). sent (respond unicast room r)) e
      ∙ ap (λ (b : Bool). sent (cond b (refused room NothingToSend no_state) (default_response h unicast UnsupportedCluster room))) d
      ∙ refused_silent room NothingToSend no_state)

pub default_response_gets_nothing : DefaultResponseGetsNothing
default_response_gets_nothing form limit s l unicast frame room h is e d = default_served frame h e d form limit s l unicast room is

pub default_response_unanswered : DefaultResponseUnanswered
default_response_unanswered b frame h e d = unanswered frame h e d b

-- ---- chains

sent_is : (P : List ℕ → Type 0) (x : Option (List ℕ)) (frame : List ℕ) → x ≡ Some frame → Sent P x → P frame
sent_is P x frame e p = subst (Sent P) e p

-- no reply to a Default Response, one at most to a reply, two at most to any frame
none_sent : (boxes : List Box) (frame : List ℕ) → Is DefaultResponse frame → chain boxes frame ≡ []
unfolding chain
none_sent [] frame i = refl
none_sent (b ∷ more) frame i =
    let w : IsDefaultResponse frame = is_default frame i in
    ap (λ (x : Option (List ℕ)). onward x (chain more)) (unanswered frame w.0 w.1 w.2 b)

one_sent : (boxes : List Box) (frame : List ℕ) → Reply frame → length (chain boxes frame) ≤ 1
unfolding chain
one_sent [] frame r = omega arith
one_sent (b ∷ more) frame r = go (answer_of b frame) (answer_sends b frame r)
  where
    go : (x : Option (List ℕ)) → Sent (Is DefaultResponse) x → length (onward x (chain more)) ≤ 1
    go None i = omega arith
    go (Some q) i = let n : length (chain more q) ≡ 0 = ap length (none_sent more q i) in omega arith

pub chain_ends : ChainEnds
unfolding chain
chain_ends [] frame = omega arith
chain_ends (b ∷ more) frame = go (answer_of b frame) (box_replies b frame)
  where
    go : (x : Option (List ℕ)) → Sent Reply x → length (onward x (chain more)) ≤ 2
    go None r = omega arith
    go (Some q) r = let n : length (chain more q) ≤ 1 = one_sent more q r in omega arith

pub answer_to_answer : AnswerToAnswer
answer_to_answer a b frame reply next e g =
    is_default next (sent_is (Is DefaultResponse) _ next g (answer_sends b reply (sent_is Reply _ reply e (box_replies a frame))))

-- ---- a report

report_replies : (form : ℕ) (s : List ℕ) (sequence : ℕ) (ids : List ℕ) (room : ℕ) → Sent Reply (sent (report_of form s sequence ids room))
report_replies form s sequence ids room =
    says_sent room _ Reply (reply_head (unasked sequence) ReportAttributes)
    (λ rest. (ReportAttributes, report_response, headed_is (unasked sequence) ReportAttributes rest report_response)) (report-says form s room sequence ids)

pub answer_to_report : AnswerToReport
answer_to_report form s sequence ids room b frame next e g =
    is_default next (sent_is (Is DefaultResponse) _ next g (answer_sends b frame (sent_is Reply _ frame e (report_replies form s sequence ids room))))

pub report_chain_ends : ReportChainEnds
report_chain_ends form s sequence ids room boxes frame e = one_sent boxes frame (sent_is Reply _ frame e (report_replies form s sequence ids room))
