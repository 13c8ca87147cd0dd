-- Claims. A CHAIN OF REPLIES ENDS (document 02, request 1; ZCL 2.5.12.2): a Default Response gets nothing, so that boxes which hand each other their
-- replies send no more than two, whatever they are and whatever started them.
use Rattle.std.specs.Prelude.{◌≡◌, Bool, true, cond, List, [], ◌∷◌, ℕ, ◌≤◌, length, take, eqb, None, Option, Some}
use Rattle.frame.specs.declared.header.ZclHeader.{ZclHeader}
use Rattle.frame.specs.declared.answer.Refusal.TheVariants.{NothingToSend}
use Rattle.frame.specs.Header.{header_of}
use Rattle.frame.specs.Answer.{Outcome, refused}
use Rattle.store.specs.Contents.{cluster_of}
use Rattle.store.specs.Layout.{is_store}
use Rattle.reporting.specs.declared.entry.Entry.{Entry}
use Rattle.reporting.specs.Table.{Table, holding}
use Rattle.server.specs.Serve.{state, serve}
use Rattle.server.specs.UnsupportedCluster.{is_default_response, unsupported_cluster}
use Rattle.report.specs.Report.{report_of}

-- ---- boxes

-- a box as a frame finds it: with any store and table, for any cluster, way of sending and room
pub data Box : Type 0 where
  -- answering by `handle_request`: form, limit, store, table, cluster, unicast, room
  serving : ℕ → ℕ → List ℕ → Table → ℕ → Bool → ℕ → Box
  -- answering by the responder: the clusters that it serves, cluster, unicast, room
  responding : List ℕ → ℕ → Bool → ℕ → Box

-- what is sent: the reply's bytes where the number is 0, else nothing
abbrev pub sent : {S : Type 0} → Outcome S → Option (List ℕ)
sent o = cond (eqb o.number 0) (Some (take o.size o.reply)) None

-- what a box sends in answer to a frame
abbrev pub answer_of : Box → List ℕ → Option (List ℕ)
answer_of (serving form limit s t cluster unicast room) frame = sent (serve form limit s t cluster unicast frame room)
answer_of (responding served cluster unicast room) frame = sent (unsupported_cluster served cluster unicast frame room)

-- ---- a chain

-- an answer, if there is one, and what follows it
abbrev pub onward : Option (List ℕ) → (List ℕ → List (List ℕ)) → List (List ℕ)
onward None more = []
onward (Some reply) more = reply ∷ more reply

-- THE REPLIES THAT ARE SENT: the frame is handed to the first box, its reply to the next, and so on, until one sends nothing or there is none. The box that comes
-- next may be any: of two that answer each other, every second one is the first again, with the store and table that it then has
unfoldable pub chain : List Box → List ℕ → List (List ℕ)
chain [] frame = []
chain (b ∷ more) frame = onward (answer_of b frame) (chain more)

-- ---- laws, to be proved

-- A RECEIVED DEFAULT RESPONSE GETS 6, once 7, 8 and 1 have let it pass: whatever its body, direction, bit 4 and manufacturer code are, unicast or not, in any room
abbrev pub DefaultResponseGetsNothing : Type 0
DefaultResponseGetsNothing =
    (form limit : ℕ) (s : List ℕ) (l : List Entry) (unicast : Bool) (frame : List ℕ) (room : ℕ) (h : ZclHeader)
    → is_store form s ≡ true → header_of frame ≡ Some h → is_default_response h ≡ true
    → serve form limit s (holding l) (cluster_of s) unicast frame room ≡ refused room NothingToSend (state s (holding l))

-- and no box answers it
abbrev pub DefaultResponseUnanswered : Type 0
DefaultResponseUnanswered = (b : Box) (frame : List ℕ) (h : ZclHeader) → header_of frame ≡ Some h → is_default_response h ≡ true → answer_of b frame ≡ None

-- a frame is a Default Response
abbrev pub IsDefaultResponse : List ℕ → Type 0
IsDefaultResponse frame = (h : ZclHeader) × (header_of frame ≡ Some h) × (is_default_response h ≡ true)

-- the answer to an answer is one, whatever was answered: 01, 04, 07, 09, 0d or 0b
abbrev pub AnswerToAnswer : Type 0
AnswerToAnswer = (a b : Box) (frame reply next : List ℕ) → answer_of a frame ≡ Some reply → answer_of b reply ≡ Some next → IsDefaultResponse next

-- and so is the answer to a report frame
abbrev pub AnswerToReport : Type 0
AnswerToReport =
    (form : ℕ) (s : List ℕ) (sequence : ℕ) (ids : List ℕ) (room : ℕ) (b : Box) (frame next : List ℕ)
    → sent (report_of form s sequence ids room) ≡ Some frame → answer_of b frame ≡ Some next → IsDefaultResponse next

-- A CHAIN ENDS: no more than two replies are sent, whatever the first frame and the boxes are
abbrev pub ChainEnds : Type 0
ChainEnds = (boxes : List Box) (frame : List ℕ) → length (chain boxes frame) ≤ 2

-- and to a report frame no more than one
abbrev pub ReportChainEnds : Type 0
ReportChainEnds =
    (form : ℕ) (s : List ℕ) (sequence : ℕ) (ids : List ℕ) (room : ℕ) (boxes : List Box) (frame : List ℕ)
    → sent (report_of form s sequence ids room) ≡ Some frame → length (chain boxes frame) ≤ 1
