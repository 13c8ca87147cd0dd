-- Reading a report that was made gives the records of its list of ids. Assumes nothing.
use Rattle.std.specs.Prelude.{Ok}
use mathlib.Core.Path.{◌≡◌, refl, ap, ◌∙◌}
use mathlib.Core.Bool.{cond}
use mathlib.Core.List.{List, [], ◌++◌}
use Prim.Native.Nat.{ℕ, ◌<◌, ◌^◌}
use native.Mathlib.Omega.{arith}
use lib.ListN.{length, take}
use lib.Dec.{leb, ltb}
use Rattle.frame.specs.Walk.{All}
use Rattle.frame.specs.declared.command_identifier.CommandIdentifier.TheVariants.{ReportAttributes}
use Rattle.frame.specs.declared.answer.Refusal.TheVariants.{ReplyTooLong, NotAStore, EmptyReport}
use Rattle.frame.specs.Header.{reply_head}
use Rattle.frame.specs.Answer.{Outcome, no_state, seen, refused}
use Rattle.frame.specs.Encoded.{encode_all}
use Rattle.frame.proofs.Codes.{refusal_nonzero}
use Rattle.store.specs.Contents.{name_of}
use Rattle.store.specs.Layout.{is_store}
use Rattle.report.specs.Report.{ReportRecord, encode, Reported, all, trouble, report_from, report_reply, unasked, report_of}
use Rattle.readers.specs.Replies.{report_frame_of}
use Rattle.readers.specs.Claims.Sendable.{ReportSendable}
use Rattle.readers.specs.Claims.Back.{ReportFrames}
use Rattle.readers.specs.Claims.Served.{ReportSent}
use Rattle.readers.proofs.Reaching.{passed}
use Rattle.readers.proofs.Wholes.{found_whole}
use Rattle.readers.proofs.Outs.{sends_replied}
use Rattle.readers.proofs.Finding.{Reports, made_report}
use Rattle.readers.proofs.Answers.{seen_zero, read_sent}

-- ---- THE PROMISE

module _ (back : ReportFrames) (room sequence size : ℕ) (reply : List ℕ) where
  -- what was sent is all records, and they are read
  by_report : (y : Reported) → Reports ReportSendable y → seen (Ok size) reply no_state ≡ report_reply room (reply_head (unasked sequence) ReportAttributes) y
      → (rs : List ReportRecord) × (y ≡ all rs) × (report_frame_of (take size reply) ≡ Ok rs)
  unfolding report_reply
  by_report (all rs) g e =
      let head : List ℕ = reply_head (unasked sequence) ReportAttributes in (
        rs,
        refl,
        read_sent report_frame_of ReportAttributes (encode_all encode) (All ReportSendable) back.0 (unasked sequence) (report_reply room head (all rs)) rs
            (record { sendable = g; sends = sends_replied room (head ++ encode_all encode rs) no_state }) size reply no_state e,
      )
  by_report (trouble why) g e = absurd (omega (arith, refusal_nonzero why, ap (λ (o : Outcome (Unit {0})). o.number) e))

pub report_sent : ReportFrames → ReportSent
unfolding report_of reply_head
report_sent back form s sequence ids room short size reply e =
    let head : List ℕ = reply_head (unasked sequence) ReportAttributes in
    let y : Reported = report_from form s room 3 [] ids in
    let one : Outcome (Unit {0}) = cond (ltb 0 (length ids)) (report_reply room head y) (refused room EmptyReport no_state) in
    let two : Outcome (Unit {0}) = cond (leb 3 room) one (refused room ReplyTooLong no_state) in
    let p = passed room (is_store form s) two NotAStore no_state (seen_zero _ size reply no_state e) in
    let e₂ : seen (Ok size) reply no_state ≡ two = e ∙ p.1 in
    let q = passed room (leb 3 room) one ReplyTooLong no_state (seen_zero two size reply no_state e₂) in
    let e₃ : seen (Ok size) reply no_state ≡ one = e₂ ∙ q.1 in
    let n = passed room (ltb 0 (length ids)) (report_reply room head y) EmptyReport no_state (seen_zero one size reply no_state e₃) in
    by_report back room sequence size reply y
    (made_report form s room 3 ReportSendable (λ id. id < 2 ^ 16) (λ id b a f. (b, found_whole form s (name_of 0 id) a p.0 f)) ids short)
    (e₃ ∙ n.1)
