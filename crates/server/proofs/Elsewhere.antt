-- What the responder and a report leave: each replies or refuses. Assumes nothing.
use Rattle.std.specs.Prelude.{None, Option, Some}
use mathlib.Core.Path.{◌≡◌, refl}
use mathlib.Core.Bool.{Bool, true, false, cond}
use mathlib.Core.List.{List, [], ◌∷◌, ◌++◌}
use Prim.Native.Nat.{ℕ, ◌+◌, ◌≤◌}
use native.Mathlib.Omega.{arith}
use lib.ListN.{length, length-append}
use lib.Dec.{leb, ltb}
use borrow.Author.Tests.{leb-true}
use Rattle.frame.specs.declared.header.ZclHeader.{ZclHeader}
use Rattle.frame.specs.declared.command_identifier.CommandIdentifier.TheVariants.{ReportAttributes, DefaultResponse}
use Rattle.frame.specs.declared.status.Status.TheVariants.{UnsupportedCluster}
use Rattle.frame.specs.declared.answer.Refusal.TheVariants.{HeaderShort, ReplyTooLong, NothingToSend, NotAStore, EmptyReport, NotReportable}
use Rattle.frame.specs.Header.{header_of, reply_head}
use Rattle.frame.specs.Answer.{no_state, refused}
use Rattle.frame.specs.Walk.{done}
use Rattle.frame.specs.Encoded.{encode_all, fits}
use Rattle.frame.proofs.Walks.{any, walk_keeps}
use Rattle.store.specs.declared.lookup.Attribute.{Attribute}
use Rattle.store.specs.Contents.{name_of, find_of, reportable}
use Rattle.store.specs.Layout.{is_store}
use Rattle.server.specs.Claims.Left.{ResponderClears, ResponderThenZeros, ResponderLength, ReportClears, ReportThenZeros, ReportLength}
use Rattle.report.specs.Report.{ReportRecord, encode, record_of, Reported, all, trouble, report_by, report_one, goes_on, report_from, report_reply, unasked, report_of}
use Rattle.server.specs.UnsupportedCluster.{is_served, is_default_response, respond, unsupported_cluster}
use Rattle.server.proofs.Shapes.{default_shape}
use Rattle.server.proofs.Says.{Says, sends, declines, says_either, says_clears, says_zeros, says_long, shape_says}

-- ---- the responder

-- the head of its reply, if the frame has a header
abbrev pub head_of : Option ZclHeader → List ℕ
head_of (Some h) = reply_head h DefaultResponse
head_of None = []

respond_says : (unicast : Bool) (room : ℕ) (r : Option ZclHeader) → Says (head_of r) room (respond unicast room r)
unfolding respond
respond_says unicast room (Some h) =
    says_either (reply_head h DefaultResponse) room (is_default_response h) _ _ (declines NothingToSend refl) (shape_says _ room _ (default_shape h unicast UnsupportedCluster room))
respond_says unicast room None = declines HeaderShort refl

pub responder_says : (served : List ℕ) (cluster : ℕ) (unicast : Bool) (frame : List ℕ) (room : ℕ) → Says (head_of (header_of frame)) room (unsupported_cluster served cluster unicast frame room)
unfolding unsupported_cluster
responder_says served cluster unicast frame room =
    says_either (head_of (header_of frame)) room (is_served cluster served) _ _ (declines NothingToSend refl) (respond_says unicast room (header_of frame))

pub responder_clears : ResponderClears
responder_clears served cluster unicast frame room = says_clears _ room _ (responder_says served cluster unicast frame room)

pub responder_then_zeros : ResponderThenZeros
responder_then_zeros served cluster unicast frame room = says_zeros _ room _ (responder_says served cluster unicast frame room)

pub responder_length : ResponderLength
responder_length served cluster unicast frame room = says_long _ room _ (responder_says served cluster unicast frame room)

-- ---- a report: records that were all taken fit behind the head

module _ (form : ℕ) (s : List ℕ) (room : ℕ) where
  abbrev Fit : ℕ → Reported → Type 0
  Fit head (all rs) = head + length (encode_all encode rs) ≤ room
  Fit head (trouble why) = Unit {0}

  none_fit : (head : ℕ) → head ≤ room → head + length (encode_all encode []) ≤ room
  unfolding encode_all
  none_fit head h = omega arith

  by_fits : (head : ℕ) (rs : List ReportRecord) (id : ℕ) (f : Option Attribute) → Fit head (report_by s room head rs id f)
  unfolding fits
  by_fits head rs id (Some a) = go (reportable a) (leb (head + length (encode_all encode longer)) room) refl
    where
      longer : List ReportRecord
      longer = rs ++ (record_of s id a ∷ [])

      go : (a b : Bool) → leb (head + length (encode_all encode longer)) room ≡ b → Fit head (cond a (cond b (all longer) (trouble ReplyTooLong)) (trouble NotReportable))
      go true true e = leb-true _ _ e
      go true false e = tt
      go false b e = tt
  by_fits head rs id None = tt

  turn_fits : (head : ℕ) (y : Reported) (id : ℕ) → Fit head y → Unit {0} → Fit head (report_one form s room head y id)
  turn_fits head (all rs) id h u = by_fits head rs id (find_of form s (name_of 0 id))
  turn_fits head (trouble why) id h u = tt

  from_fits : (head : ℕ) (ids : List ℕ) (rs : List ReportRecord) → head + length (encode_all encode rs) ≤ room → Fit head (report_from form s room head rs ids)
  unfolding report_from
  from_fits head ids rs h = walk_keeps (report_one form s room head) goes_on (Fit head) (λ id. Unit {0}) (turn_fits head) done ids (all rs) h (any ids)

  reply_says : (head : List ℕ) (y : Reported) → Fit (length head) y → Says head room (report_reply room head y)
  unfolding report_reply
  reply_says head (all rs) h = sends (encode_all encode rs) (omega (arith, length-append head (encode_all encode rs))) refl
  reply_says head (trouble why) h = declines why refl

  pub report-says : (sequence : ℕ) (ids : List ℕ) → Says (reply_head (unasked sequence) ReportAttributes) room (report_of form s sequence ids room)
  unfolding report_of
  report-says sequence ids =
      says_either (reply_head (unasked sequence) ReportAttributes) room (is_store form s) _ _ (go (leb (length head) room) refl) (declines NotAStore refl)
    where
      head : List ℕ
      head = reply_head (unasked sequence) ReportAttributes

      go : (b : Bool) → leb (length head) room ≡ b
          → Says head room
          (cond b (cond (ltb 0 (length ids)) (report_reply room head (report_from form s room (length head) [] ids)) (refused room EmptyReport no_state)) (refused room ReplyTooLong no_state))
      go true e =
          says_either head room (ltb 0 (length ids)) _ _ (reply_says head _ (from_fits (length head) ids [] (none_fit (length head) (leb-true _ _ e)))) (declines EmptyReport refl)
      go false e = declines ReplyTooLong refl

pub report_clears : ReportClears
report_clears form s sequence ids room = says_clears _ room _ (report-says form s room sequence ids)

pub report_then_zeros : ReportThenZeros
report_then_zeros form s sequence ids room = says_zeros _ room _ (report-says form s room sequence ids)

pub report_length : ReportLength
report_length form s sequence ids room = says_long _ room _ (report-says form s room sequence ids)
