-- Reading the reply to a write, undivided or not, gives the failures that were listed. Assumes nothing.
use Rattle.std.specs.Prelude.{Err, Ok, Result}
use mathlib.Core.Path.{◌≡◌, refl, subst}
use mathlib.Core.Bool.{Bool, true, false, cond}
use mathlib.Core.List.{List, ◌++◌}
use Prim.Native.Nat.{ℕ, ◌+◌, ◌<◌, ◌^◌}
use lib.ListN.{length, get_or}
use lib.Dec.{leb}
use Rattle.types.specs.Number.{unsigned_at, AllBytes}
use Rattle.types.specs.Extent.{extent_of}
use Rattle.types.specs.declared.extent.NoExtent.{NoExtent}
use Rattle.types.specs.declared.extent.NoExtent.TheVariants.{Cut, Without}
use Rattle.types.proofs.Numbers.{unsigned_below}
use Rattle.frame.specs.declared.header.ZclHeader.{ZclHeader}
use Rattle.frame.specs.declared.command_identifier.CommandIdentifier.TheVariants.{WriteAttributes, WriteAttributesUndivided, WriteAttributesResponse}
use Rattle.frame.specs.Header.{reply_head}
use Rattle.frame.specs.Walk.{item, unread, Way, through, broken, stopped, reached, All}
use Rattle.frame.specs.Encoded.{fits}
use Rattle.frame.specs.Failures.{Sofar, pass, encode_failures, concluded, performed}
use Rattle.write.specs.Request.{WriteRecord, valued, record_at, records_at, records}
use Rattle.write.specs.Reply.{Failure, encode}
use Rattle.write.specs.Write.{writing, checking, settled, written_all, write_attributes, write_undivided}
use Rattle.server.specs.Serve.{commanded}
use Rattle.readers.specs.Replies.{write_reply_of}
use Rattle.readers.specs.Claims.Sendable.{WriteSendable}
use Rattle.readers.specs.Claims.Back.{WriteReplies}
use Rattle.readers.specs.Claims.Served.{write_made, undivided_made, WriteServed, UndividedServed}
use Rattle.readers.proofs.Outs.{Sends, concluded_sends, performed_sends, headed_sends}
use Rattle.readers.proofs.Keeping.{every_read, keeps_failures}
use Rattle.readers.proofs.Answers.{Commands, serves_by}

-- ---- the records of a request have ids of two bytes

abbrev Named : WriteRecord → Type 0
Named r = r.id < 2 ^ 16

module _ (body : List ℕ) (bytes : AllBytes body) where
  named_by : (p : ℕ) (x : Result ℕ NoExtent) (r : WriteRecord) (q : ℕ) → valued body p x ≡ item r q → Named r
  named_by p (Ok e) r q g =
      let i : unsigned_at body p 2 ≡ r.id = cc in
      subst (λ (n : ℕ). n < 2 ^ 16) i (unsigned_below body p 2 bytes)
  named_by p (Err Cut) r q g = absurd cc
  named_by p (Err Without) r q g = absurd cc

  named_at : (p : ℕ) (r : WriteRecord) (q : ℕ) → record_at body p ≡ item r q → Named r
  unfolding record_at
  named_at p r q = go (leb (p + 3) (length body))
    where
      go : (b : Bool) → cond b (valued body p (extent_of body (p + 3) (get_or body (p + 2) 0))) unread ≡ item r q → Named r
      go true g = named_by p (extent_of body (p + 3) (get_or body (p + 2) 0)) r q g
      go false g = absurd cc

  named_all : All Named (records body).list
  unfolding records_at
  named_all = every_read (record_at body) (length body) Named named_at

  -- every failure of a pass can be sent
  module _ (form : ℕ) (h : ZclHeader) (s : List ℕ) (fine : List Failure → Bool) where
    written_good : All WriteSendable (reached (pass (writing form h) fine (records body) s)).failures
    written_good = keeps_failures (writing form h) WriteSendable Named (λ why r n f. (f, n)) fine (records body) s named_all

    checked_good : All WriteSendable (reached (pass (checking form h) fine (records body) s)).failures
    checked_good = keeps_failures (checking form h) WriteSendable Named (λ why r n f. (f, n)) fine (records body) s named_all

-- ---- 02

written_sent : Commands WriteAttributesResponse (encode_failures encode) (All WriteSendable) WriteAttributes write_made
unfolding commanded write_attributes reply_head
written_sent form limit s l unicast h body room t store =
    record {
      sendable = written_good body t.1 form h s (fits encode room 3);
      sends = headed_sends h WriteAttributesResponse s room (performed (writing form h) (records body) s room) _
          (performed_sends (writing form h) (records body) s room (reply_head h WriteAttributesResponse));
    }

pub write_served : WriteReplies → WriteServed
write_served back = serves_by write_reply_of WriteAttributesResponse (encode_failures encode) (All WriteSendable) back.0 WriteAttributes write_made written_sent

-- ---- 03: the failures of the first pass

settled_failures : (writes : List ℕ → List ℕ) (way : Way (Sofar (List ℕ) Failure)) → (reached (settled writes way)).failures ≡ (reached way).failures
settled_failures writes (through x) = refl
settled_failures writes (broken x) = refl
settled_failures writes (stopped x y) = refl

undivided_sent : Commands WriteAttributesResponse (encode_failures encode) (All WriteSendable) WriteAttributesUndivided undivided_made
unfolding commanded write_undivided reply_head
undivided_sent form limit s l unicast h body room t store =
    let head : List ℕ = reply_head h WriteAttributesResponse in
    let way : List ℕ → Way (Sofar (List ℕ) Failure) = λ head. pass (checking form h) (fits encode room (length head)) (records body) s in
    let leads : List ℕ → Way (Sofar (List ℕ) Failure) = λ head. settled (written_all form h body) (way head) in
    record {
      sendable = checked_good body t.1 form h s (fits encode room 3);
      sends = headed_sends h WriteAttributesResponse s room (λ head. concluded encode room head (leads head)) _
          (subst (λ (fs : List Failure). Sends (concluded encode room head (leads head)) (head ++ encode_failures encode fs)) (settled_failures (written_all form h body) (way head))
          (concluded_sends encode room head (leads head)));
    }

pub undivided_served : WriteReplies → UndividedServed
undivided_served back =
    serves_by write_reply_of WriteAttributesResponse (encode_failures encode) (All WriteSendable) back.0 WriteAttributesUndivided undivided_made undivided_sent
