-- What each of the three commands does to a store is to write some of its records, which ones the contents say; two commands that name no attribute in common leave one store in either order (document 02, request 4). Assumes nothing.
use mathlib.Core.Path.{◌≡◌, refl, sym, ap, ◌∙◌}
use mathlib.Core.Bool.{Bool, true, false, cond}
use mathlib.Core.List.{List, [], ◌∷◌}
use Prim.Native.Nat.{ℕ, ◌≤◌}
use native.Mathlib.Omega.{arith}
use lib.ListN.{length}
use lib.Dec.{leb, eqb}
use borrow.Author.Tests.{le-leb, lt-leb}
use Rattle.frame.specs.declared.header.ZclHeader.{ZclHeader}
use Rattle.frame.specs.declared.status.Status.{Status}
use Rattle.frame.specs.declared.command_identifier.CommandIdentifier.TheVariants.{WriteAttributesResponse}
use Rattle.frame.specs.declared.answer.Refusal.TheVariants.{ReplyTooLong}
use Rattle.frame.specs.Status.{status_code}
use Rattle.frame.specs.Header.{reply_head}
use Rattle.frame.specs.Answer.{Outcome, refused}
use Rattle.frame.specs.Walk.{Ending, done, cut, All}
use Rattle.frame.specs.Encoded.{encode_all, fits}
use Rattle.frame.specs.Failures.{pass_from, pass, also, performed, headed}
use Rattle.frame.specs.Claims.Failing.{failing_by}
use Rattle.frame.proofs.States.{folded, state_concluded}
use Rattle.frame.proofs.Failing.{fits_closed, takes, taken_leave}
use Rattle.store.specs.Layout.{is_store}
use Rattle.store.specs.Claims.Stays.{StoreLike}
use Rattle.store.proofs.Commute.{write_commute}
use Rattle.write.specs.Request.{WriteRecord, records}
use Rattle.write.specs.Reply.{Failure, failure, encode}
use Rattle.write.specs.Write.{written, writing, written_all, write_attributes, write_undivided, write_silently}
use Rattle.write.specs.Claims.Undivided.{status_over, failing}
use Rattle.write.specs.Claims.Last.{naming}
use Rattle.write.proofs.Items.{Whole, records_whole}
use Rattle.write.proofs.Kept.{record_alike}
use Rattle.write.proofs.Judged.{status_alike, alike, all_written}
use Rattle.write.proofs.UndividedWays.{Decided, tight, full, broke, listed, wrote, narrow, undivided_ways}

-- ---- records written one after the other

abbrev pub steps : ℕ → ZclHeader → List ℕ → List WriteRecord → List ℕ
steps form h t rs = folded (writing form h) t rs

module _ (form : ℕ) (s : List ℕ) (wide : 8 ≤ form) where
  pub steps_alike : (h : ZclHeader) (rs : List WriteRecord) → All Whole rs → (t : List ℕ) → StoreLike form s t → StoreLike form s (steps form h t rs)
  steps_alike h [] all t like = like
  steps_alike h (r ∷ rs) all t like = steps_alike h rs all.1 (written form h t r).store (record_alike form s h wide t r like all.0)

  -- none of these is named
  abbrev pub Apart : ZclHeader → ZclHeader → WriteRecord → List WriteRecord → Type 0
  Apart p q r rs = All (λ x. naming p r ≡ naming q x → ⊥) rs

  -- one record, behind others or before them
  one_past : (p q : ZclHeader) (r : WriteRecord) → Whole r → (rs : List WriteRecord) → All Whole rs → Apart p q r rs → (t : List ℕ) → StoreLike form s t
      → (written form p (steps form q t rs) r).store ≡ steps form q (written form p t r).store rs
  unfolding written
  one_past p q r w [] all apart t like = refl
  one_past p q r w (x ∷ rs) all apart t like =
      one_past p q r w rs all.1 apart.1 (written form q t x).store (record_alike form s q wide t x like all.0)
      ∙ ap (λ (u : List ℕ). steps form q u rs)
      (write_commute form t like.still (naming q x) (naming p r) (λ e. apart.0 (sym e)) x.type r.type x.value r.value all.0 w wide)

  -- ONE STORE IN EITHER ORDER
  pub either_order : (p q : ZclHeader) (one two : List WriteRecord) → All Whole one → All Whole two → All (λ r. Apart p q r two) one → (t : List ℕ) → StoreLike form s t
      → steps form p (steps form q t two) one ≡ steps form q (steps form p t one) two
  either_order p q [] two all whole apart t like = refl
  either_order p q (r ∷ one) two all whole apart t like =
      ap (λ (u : List ℕ). steps form p u one) (one_past p q r all.0 two whole apart.0 t like)
      ∙ either_order p q one two all.1 whole apart.1 (written form p t r).store (record_alike form s p wide t r like all.0)

-- ---- what a command does to every store with the contents of s: it writes some records of its body

pub record Deed (form : ℕ) (h : ZclHeader) (s body : List ℕ) (leaves : List ℕ → List ℕ) : Type 1 where
  pub doing : List WriteRecord
  pub among : (P : WriteRecord → Type 0) → All P (records body).list → All P doing
  pub is : (t : List ℕ) → StoreLike form s t → leaves t ≡ steps form h t doing

takes_among : (status : WriteRecord → Status) (fine : List Failure → Bool) (P : WriteRecord → Type 0) (rs : List WriteRecord) (l : List Failure) → All P rs
    → All P (takes status (λ why r. failure (status_code why) r.id) fine l rs)
takes_among status fine P [] l a = tt
takes_among status fine P (r ∷ rs) l a = (a.0, go (fine m) (takes_among status fine P rs m a.1))
  where
    m : List Failure
    m = also l (status r) (failure (status_code (status r)) r.id)

    go : (b : Bool) → All P (takes status (λ why r. failure (status_code why) r.id) fine m rs) → All P (cond b (takes status (λ why r. failure (status_code why) r.id) fine m rs) [])
    go true k = k
    go false k = tt

module _ (form : ℕ) (h : ZclHeader) (s body : List ℕ) (room : ℕ) (wide : 8 ≤ form) (is : is_store form s ≡ true) where
  abbrev rs : List WriteRecord
  rs = (records body).list

  abbrev head : List ℕ
  head = reply_head h WriteAttributesResponse

  -- 05: all
  pub silent_deed : Deed form h s body (λ t. (write_silently form t h body room).state)
  unfolding write_silently
  silent_deed = record { doing = rs; among = λ P a. a; is = λ t like. all_written form h t wide like.still body }

  -- 02: those before a failure that does not fit, and that one; none, where the header does not
  abbrev fine : List Failure → Bool
  fine = fits encode room (length head)

  abbrev taken : List WriteRecord
  taken = takes (status_over form h s) (λ why r. failure (status_code why) r.id) fine [] rs

  pass_leaves : (t : List ℕ) → StoreLike form s t → (performed (writing form h) (records body) t room head).state ≡ steps form h t taken
  unfolding performed pass_from
  pass_leaves t like =
      state_concluded room encode head (pass (writing form h) fine (records body) t)
      ∙ taken_leave (writing form h) (StoreLike form s) Whole (status_over form h s) (status_alike form h s wide is) (alike form h s wide is) fine (fits_closed encode room (length head)) (records body).ending rs t [] like (records_whole body 0)

  write-by : (b : Bool) (t : List ℕ) → StoreLike form s t → (cond b (performed (writing form h) (records body) t room head) (refused room ReplyTooLong t)).state ≡ steps form h t (cond b taken [])
  write-by true t like = pass_leaves t like
  write-by false t like = refl

  some_taken : (b : Bool) (P : WriteRecord → Type 0) → All P rs → All P (cond b taken [])
  some_taken true P a = takes_among (status_over form h s) fine P rs [] a
  some_taken false P a = tt

  pub write_deed : Deed form h s body (λ t. (write_attributes form t h body room).state)
  unfolding write_attributes headed
  write_deed = record { doing = cond (leb (length head) room) taken []; among = some_taken (leb (length head) room); is = write-by (leb (length head) room) }

  -- 03: all or none
  abbrev chosen : Ending → List Failure → List WriteRecord
  chosen done [] = rs
  chosen done (f ∷ fs) = []
  chosen cut fs = []

  some_chosen : (b : Bool) (e : Ending) (fs : List Failure) (P : WriteRecord → Type 0) → All P rs → All P (cond b (chosen e fs) [])
  some_chosen true done [] P a = a
  some_chosen true done (f ∷ fs) P a = tt
  some_chosen true cut fs P a = tt
  some_chosen false e fs P a = tt

  none_chosen : (e : Ending) (fs : List Failure) → (fs ≡ [] → ⊥) → chosen e fs ≡ []
  none_chosen done [] n = absurd (n refl)
  none_chosen done (f ∷ fs) n = refl
  none_chosen cut fs n = refl

  same_failing : (t : List ℕ) → StoreLike form s t → (l : List WriteRecord) → All Whole l → failing form h t l ≡ failing form h s l
  unfolding failing_by
  same_failing t like [] a = refl
  same_failing t like (r ∷ l) a =
      λ i.
      let w : Status = status_alike form h s wide is t r like a.0 i in
      let rest : List Failure = same_failing t like l a.1 i in
      cond (eqb (status_code w) 0) rest (failure (status_code w) r.id ∷ rest)

  left : {o p : Outcome (List ℕ)} → o ≡ p → o.state ≡ p.state
  left e = ap (λ (o : Outcome (List ℕ)). o.state) e

  module _ (t : List ℕ) (like : StoreLike form s t) where
    abbrev done_of : Bool → Ending → List Failure → List WriteRecord
    done_of b e fs = cond b (chosen e fs) []

    abbrev o : Outcome (List ℕ)
    o = write_undivided form t h body room

    -- by the store's own failures
    by_way : Decided room head t (written_all form h body t) (records body).ending (failing form h t rs) o
        → o.state ≡ steps form h t (done_of (leb 3 room) (records body).ending (failing form h t rs))
    unfolding fits encode_all
    by_way (tight k e) = left e ∙ ap (λ (b : Bool). steps form h t (done_of b (records body).ending (failing form h t rs))) (sym (lt-leb 3 room k))
    by_way (full k f e) =
        let some : failing form h t rs ≡ [] → ⊥ = λ z. differ (sym (le-leb 3 room k) ∙ ap (fits encode room 3) (sym z) ∙ f) in
        left e ∙ sym (λ i. steps form h t (cond (le-leb 3 room k i) (none_chosen (records body).ending (failing form h t rs) some i) []))
      where
        differ : true ≡ false → ⊥
        differ z = let y : ◌≡◌ {A = ℕ} 0 1 = cc in omega arith
    by_way (broke k f c e) = left e ∙ sym (λ i. steps form h t (cond (le-leb 3 room k i) (chosen (c i) (failing form h t rs)) []))
    by_way (listed k f c x l z e) = left e ∙ sym (λ i. steps form h t (cond (le-leb 3 room k i) (chosen (c i) (z i)) []))
    by_way (wrote k c z e) =
        left e ∙ all_written form h t wide like.still body ∙ sym (λ i. steps form h t (cond (le-leb 3 room (omega arith) i) (chosen (c i) (z i)) []))
    by_way (narrow k c z e) =
        left e ∙ all_written form h t wide like.still body ∙ sym (λ i. steps form h t (cond (le-leb 3 room (omega arith) i) (chosen (c i) (z i)) []))

    -- which are those of s
    undivided_leaves : o.state ≡ steps form h t (done_of (leb 3 room) (records body).ending (failing form h s rs))
    undivided_leaves =
        by_way (undivided_ways form t h body room)
        ∙ ap (λ (l : List Failure). steps form h t (done_of (leb 3 room) (records body).ending l)) (same_failing t like rs (records_whole body 0))

  pub undivided_deed : Deed form h s body (λ t. (write_undivided form t h body room).state)
  undivided_deed = record {
    doing = cond (leb 3 room) (chosen (records body).ending (failing form h s rs)) [];
    among = some_chosen (leb 3 room) (records body).ending (failing form h s rs);
    is = undivided_leaves;
  }
