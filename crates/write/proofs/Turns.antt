-- One record done, and the loop that lists nothing: what is left of the walk is the whole. Assumes nothing.
use Rattle.std.specs.Prelude.{Option, Some, None, Err}
use mathlib.Core.Path.{◌≡◌, refl, sym, ap, ◌∙◌}
use mathlib.Core.List.{List, []}
use Prim.Native.Nat.{ℕ, ◌+◌, ◌≤◌, ◌<◌}
use native.Mathlib.Omega.{arith}
use lib.ListN.{length, length-replicate}
use Rattle.frame.specs.declared.status.Status.{Status}
use Rattle.frame.specs.declared.header.ZclHeader.{ZclHeader}
use Rattle.frame.specs.Status.{status_code}
use Rattle.types.specs.Number.{zeros}
use Rattle.frame.specs.declared.answer.Refusal.TheVariants.{ReplyTooLong}
use Rattle.frame.specs.declared.command_identifier.CommandIdentifier.{CommandIdentifier}
use Rattle.frame.specs.Answer.{Outcome, no_state, seen}
use Rattle.frame.specs.Header.{reply_head}
use Rattle.frame.specs.Inside.Buffer.{putting, put}
use Rattle.frame.proofs.Buffer.{shows_none, shows_full}
use Rattle.frame.specs.Walk.{item, Way, reached}
use Rattle.frame.specs.Failures.{did, Doing, Sofar, sofar, also, pass_from, pass, always, headed}
use Rattle.frame.specs.Inside.Passes.{TookOne, TookNone}
use Rattle.frame.proofs.Passes.{more, cut_here, done_here, headed_past}
use Rattle.store.specs.Contents.{name_of}
use Rattle.store.specs.Write.{Wrote, wrote}
use Rattle.write.specs.declared.record.Record.{Record}
use Rattle.write.specs.Request.{WriteRecord, record_at, records_at}
use Rattle.write.specs.Reply.{Failure, failure, encode}
use Rattle.write.specs.Write.{listing}
use Rattle.write.specs.Inside.{record_of, item_of, OnValue, by_name}
use Rattle.write.proofs.Items.{record_within, ahead}

-- a failure takes bytes
pub some : (f : Failure) → 0 < length (encode f)
unfolding encode
some f = omega arith

-- a header that does not fit leaves nothing in the reply
pub unheaded : {S : Type 0} (request : ZclHeader) (command : CommandIdentifier) (s : S) (room : ℕ) (r : Option ℕ) (after : List ℕ)
    → putting r after ≡ put (zeros room) 0 (reply_head request command) → (rest : List ℕ → Outcome S) → r ≡ None → seen (Err ReplyTooLong) after s ≡ headed request command s room rest
unheaded request command s room r after p rest e =
    let empty : after ≡ zeros room = (shows_full (zeros room) 0 [] (reply_head request command) r after (shows_none room) p e).1 in
    headed_past request command s room r after p rest e (Err ReplyTooLong) after (ap (λ (d : List ℕ). seen (Err ReplyTooLong) d no_state) (empty ∙ sym (ap zeros (ap length empty ∙ length-replicate room 0))))

-- ---- one record

-- the record of a request that was read is x
module _ (body : List ℕ) (at : ℕ) {o : Option Record} {x : Record} (read : item_of body at o ≡ record_at body at) (some_x : o ≡ Some x) where
  stands : record_at body at ≡ item (record_of body at x) x.end
  stands = sym read ∙ ap (item_of body at) some_x

  pub read_within : (at + 3 ≤ x.end) × (x.end ≤ length body)
  read_within = record_within body at (record_of body at x) x.end stands

  -- and this is done with its value
  pub took_one : (does : OnValue) (request : ZclHeader) (s : List ℕ) (name : ℕ) (status : Status) (t : List ℕ)
      → name ≡ name_of request.manufacturer_code.0 x.id.0 → wrote status t ≡ does s name x.type_id.0 (record_of body at x).value
      → TookOne (listing (by_name does request)) (record_at body) s at x.end status (failure (status_code status) x.id.0) t
  took_one does request s name status t named by = record {
    taken = record_of body at x;
    is = stands;
    does = ap (λ (w : Wrote). did w.status w.store) (by ∙ ap (λ (n : ℕ). does s n x.type_id.0 (record_of body at x).value) named);
    named = refl;
  }

-- ---- the loop that lists nothing

pub record Silent (doing : Doing (List ℕ) WriteRecord Failure) (body s₀ s : List ℕ) (at : ℕ) : Type 0 where
  pub failures : List Failure
  pub same : pass_from doing always (records_at body at) (sofar s failures) ≡ pass doing always (records_at body 0) s₀

pub silent_first : (doing : Doing (List ℕ) WriteRecord Failure) (body s : List ℕ) → Silent doing body s s 0
silent_first doing body s = record { failures = []; same = refl }

module _ {doing : Doing (List ℕ) WriteRecord Failure} {body s₀ s : List ℕ} {at : ℕ} (g : Silent doing body s₀ s at) where
  abbrev Store : List ℕ
  Store = (reached (pass doing always (records_at body 0) s₀)).state

  pub silent_more : at < length body → (end : ℕ) (status : Status) (f : Failure) (t : List ℕ) → TookOne doing (record_at body) s at end status f t → Silent doing body s₀ t end
  unfolding records_at
  silent_more lt end status f t k = record {
    failures = also g.failures status f;
    same = sym (more (ahead body) k always g.failures (length body) lt refl) ∙ g.same;
  }

  ends_as : (y : Way (Sofar (List ℕ) Failure)) → pass_from doing always (records_at body at) (sofar s g.failures) ≡ y → (reached y).state ≡ Store
  ends_as y e = ap (λ (x : Way (Sofar (List ℕ) Failure)). (reached x).state) (sym e ∙ g.same)

  pub silent_cut : at < length body → (t : List ℕ) → TookNone (record_at body) s at t → t ≡ Store
  unfolding records_at
  silent_cut lt t k = ends_as _ (cut_here doing always (record_at body) (length body) s g.failures at lt t k)

  pub silent_end : length body ≤ at → s ≡ Store
  unfolding records_at
  silent_end h = ends_as _ (done_here doing always (record_at body) (length body) s g.failures at h)
