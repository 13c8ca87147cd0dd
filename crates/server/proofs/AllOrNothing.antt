-- All or nothing, from the ways of an undivided write (specs/Claims/AllOrNothing.antt). Assumes nothing.
use mathlib.Core.Path.{◌≡◌, sym, ap, ◌∙◌, subst}
use mathlib.Core.Bool.{Bool, true, false, cond}
use mathlib.Core.List.{List, [], ◌∷◌, ◌++◌}
use Prim.Native.Nat.{ℕ, ◌+◌, ◌≤◌, ◌<◌}
use native.Mathlib.Omega.{arith}
use lib.ListN.{length, drop, length-append}
use borrow.Author.Tests.{le-leb, lt-leb, leb-false}
use Rattle.frame.specs.declared.header.ZclHeader.{ZclHeader}
use Rattle.frame.specs.declared.command_identifier.CommandIdentifier.TheVariants.{WriteAttributesUndivided, WriteAttributesResponse}
use Rattle.frame.specs.declared.answer.Refusal.TheVariants.{RecordCut, ReplyTooLong}
use Rattle.frame.specs.Header.{reply_head}
use Rattle.frame.specs.Answer.{Outcome, replied, refused}
use Rattle.frame.specs.Encoded.{encode_all, fits}
use Rattle.frame.specs.Failures.{answered}
use Rattle.frame.proofs.Headers.{reply_head_length}
use Rattle.frame.proofs.Encoded.{fits_within}
use Rattle.store.specs.Contents.{cluster_of}
use Rattle.store.specs.Layout.{is_store}
use Rattle.reporting.specs.declared.entry.Entry.{Entry}
use Rattle.reporting.specs.Table.{Table, capacity, holding}
use Rattle.write.specs.Request.{records}
use Rattle.write.specs.Reply.{Failure, encode}
use Rattle.write.specs.Write.{written_all, write_undivided}
use Rattle.write.specs.Claims.Last.{Left}
use Rattle.write.proofs.UndividedWays.{Decided, tight, full, broke, listed, wrote, narrow, undivided_ways}
use Rattle.write.proofs.Last.{records_leave}
use Rattle.server.specs.Serve.{State, storing, commanded, serve}
use Rattle.server.specs.Claims.Asks.{Asks}
use Rattle.server.specs.Claims.AllOrNothing.{Readable, Unreadable, failures_over, AllOrNothing, store_of, AllOrNothingServed, AllOrNothingHandled}
use Rattle.server.proofs.Heard.{reaches}
use Rattle.server.proofs.Undivided.{never, some_none, left, none}

-- ---- the command

module _ (form : ℕ) (s : List ℕ) (h : ZclHeader) (body : List ℕ) (room : ℕ) (wide : 8 ≤ form) (is : is_store form s ≡ true) (byte : 4 ≤ room) where
  abbrev head : List ℕ
  head = reply_head h WriteAttributesResponse

  abbrev fs : List Failure
  fs = failures_over form s h body

  abbrev o : Outcome (List ℕ)
  o = write_undivided form s h body room

  abbrev all : List ℕ
  all = written_all form h body s

  abbrev Way : Type 0
  Way = Decided room head s all (records body).ending fs o

  -- no failure fits
  empty_full : {A : Type 0} → fits encode room 3 fs ≡ false → fs ≡ [] → A
  empty_full f z =
      let y : true ≡ false = sym (ap (fits encode room 3) z ∙ none (omega arith)) ∙ f in
      let k : ◌≡◌ {A = ℕ} 0 1 = cc in
      absurd (omega arith)

  unread_is : Unreadable body → Way → o ≡ refused room (cond (fits encode room 3 fs) RecordCut ReplyTooLong) s
  unread_is u (tight k e) = absurd (omega arith)
  unread_is u (full k f e) = e ∙ ap (λ (b : Bool). refused room (cond b RecordCut ReplyTooLong) s) (sym f)
  unread_is u (broke k f c e) = e ∙ ap (λ (b : Bool). refused room (cond b RecordCut ReplyTooLong) s) (sym f)
  unread_is u (listed k f c x l z e) = never (sym c ∙ u)
  unread_is u (wrote k c z e) = never (sym c ∙ u)
  unread_is u (narrow k c z e) = absurd (omega arith)

  unread_left : Unreadable body → Way → o.state ≡ s
  unread_left u w = left (unread_is u w)

  failed_left : (fs ≡ [] → ⊥) → Way → o.state ≡ s
  failed_left n (tight k e) = left e
  failed_left n (full k f e) = left e
  failed_left n (broke k f c e) = left e
  failed_left n (listed k f c x l z e) = left e
  failed_left n (wrote k c z e) = absurd (n z)
  failed_left n (narrow k c z e) = absurd (n z)

  written_is : Readable body → fs ≡ [] → Way → o ≡ replied room (head ++ (0x00 ∷ [])) all
  written_is r z (tight k e) = absurd (omega arith)
  written_is r z (full k f e) = empty_full f z
  written_is r z (broke k f c e) = never (sym r ∙ c)
  written_is r z (listed k f c x l y e) = some_none x l (sym z ∙ y)
  written_is r z (wrote k c y e) = e
  written_is r z (narrow k c y e) = absurd (omega arith)

  abbrev out : List ℕ
  out = head ++ encode_all encode fs

  out_length : length out ≡ 3 + length (encode_all encode fs)
  out_length = length-append head (encode_all encode fs) ∙ ap (λ (n : ℕ). n + length (encode_all encode fs)) (reply_head_length h WriteAttributesResponse)

  lists_is : Readable body → (fs ≡ [] → ⊥) → Way → o ≡ answered room out s
  unfolding answered fits
  lists_is r n (tight k e) = absurd (omega arith)
  lists_is r n (full k f e) =
      let past : room < length out = omega (arith, out_length, leb-false (3 + length (encode_all encode fs)) room f) in
      e ∙ sym (ap (λ (b : Bool). cond b (replied room out s) (refused room ReplyTooLong s)) (lt-leb (length out) room past))
  lists_is r n (broke k f c e) = never (sym r ∙ c)
  lists_is r n (listed k f c x l z e) =
      let whole : length out ≤ room = omega (arith, out_length, fits_within encode room 3 fs f) in
      e
      ∙ ap (λ (l : List Failure). replied room (head ++ encode_all encode l) s) (sym z)
      ∙ sym (ap (λ (b : Bool). cond b (replied room out s) (refused room ReplyTooLong s)) (le-leb (length out) room whole))
  lists_is r n (wrote k c z e) = absurd (n z)
  lists_is r n (narrow k c z e) = absurd (n z)

  undivided_all : AllOrNothing form s h body room o
  undivided_all =
      let w : Way = undivided_ways form s h body room in
      record {
        unread_leaves = λ u. unread_left u w;
        failed_leaves = λ n. failed_left n w;
        holds = λ r z. subst (Left form h (records body).list s) (sym (left (written_is r z w))) (records_leave form h s body wide is z);
        one_00 = λ r z. written_is r z w ∙ ap (replied room (head ++ (0x00 ∷ []))) (sym (left (written_is r z w)));
        lists = λ r n. lists_is r n w;
        unread = λ u. unread_is u w;
      }

-- ---- served

served_is : (form limit : ℕ) (s : List ℕ) (l : List Entry) (cluster : ℕ) (unicast : Bool) (frame : List ℕ) (room : ℕ) (h : ZclHeader) → is_store form s ≡ true → cluster ≡ cluster_of s
    → Asks WriteAttributesUndivided frame h → serve form limit s (holding l) cluster unicast frame room ≡ storing (holding l) (write_undivided form s h (drop h.body frame) room)
unfolding commanded
served_is form limit s l cluster unicast frame room h is own asks = reaches form limit s cluster unicast h WriteAttributesUndivided l is own frame room asks

pub all_or_nothing_served : AllOrNothingServed
all_or_nothing_served form limit s l cluster unicast frame room h wide is own asks byte =
    let e = served_is form limit s l cluster unicast frame room h is own asks in
    let w = undivided_all form s h (drop h.body frame) room wide is byte in
    (subst (λ (x : Outcome State). AllOrNothing form s h (drop h.body frame) room (store_of x)) (sym e) w, ap (λ (x : Outcome State). x.state.table) e)

pub all_or_nothing_handled : AllOrNothingHandled
all_or_nothing_handled store table l cluster unicast request reply h r x s is kept own asks byte e =
    let k = e ∙ ap (λ (t : Table). serve 8 capacity store t cluster.0 unicast request (length reply)) kept in
    let w = all_or_nothing_served 8 capacity store l cluster.0 unicast request (length reply) h (omega arith) is own asks byte in
    (subst (λ (o : Outcome State). AllOrNothing 8 store h (drop h.body request) (length reply) (store_of o)) (sym k) w.0, ap (λ (o : Outcome State). o.state.table) k ∙ w.1)
