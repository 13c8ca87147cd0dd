-- Failures listed one behind the other, the buffer that shows them behind a head, and what is answered to a pass, for any state and any
-- failure (`specs/Failures.antt`, `specs/Inside/Failures.antt`). Assumes nothing.
use Rattle.std.specs.Prelude.{Err, None, Ok, Option, Result, Some}
use mathlib.Core.Path.{◌≡◌, refl, sym, ap, ◌∙◌, subst}
use mathlib.Core.Bool.{Bool, true, false, cond}
use mathlib.Core.List.{List, [], ◌∷◌, ◌++◌, append-nil}
use Prim.Native.Nat.{ℕ, ◌+◌, ◌≤◌, ◌<◌}
use native.Mathlib.Omega.{arith}
use lib.ListN.{length, length-append}
use lib.Dec.{eqb}
use borrow.Author.Tests.{le-leb, lt-leb, eq-eqb, ne_eqb}
use Rattle.frame.specs.declared.status.Status.{Status}
use Rattle.frame.specs.declared.answer.Refusal.{Refusal}
use Rattle.frame.specs.declared.answer.Refusal.TheVariants.{ReplyTooLong}
use Rattle.frame.specs.declared.failures.Unfinished.{Unfinished}
use Rattle.frame.specs.Status.{status_code}
use Rattle.frame.specs.Inside.Buffer.{Putting, putting, put, Shows, Ways}
use Rattle.frame.specs.Answer.{no_state, within, seen, replied, refused}
use Rattle.frame.specs.Walk.{Way}
use Rattle.frame.specs.Encoded.{encode_all, fits}
use Rattle.frame.specs.Failures.{Sofar, also, encode_failures, answered, concluded}
use Rattle.frame.specs.Inside.Failures.{noting, sent, concluded_at}
use Rattle.frame.specs.Inside.Passes.{Passes}
use Rattle.frame.proofs.Buffer.{shows_put, shows_full}
use Rattle.frame.proofs.Outcome.{seen_reply}
use Rattle.frame.proofs.Encoded.{put_record}

-- ---- one failure

module _ (d : List ℕ) (out : ℕ) (status : Status) (bytes : List ℕ) where
  pub note_success : status_code status ≡ 0 → noting d out status bytes ≡ putting (Some out) d
  unfolding noting
  note_success e = rw (eq-eqb (status_code status) 0 e)

  pub note_failure : (status_code status ≡ 0 → ⊥) → noting d out status bytes ≡ put d out bytes
  unfolding noting
  note_failure e = rw (ne_eqb (status_code status) 0 e)

module _ {F : Type 0} (bytes : F → List ℕ) (head : List ℕ) (fs : List F) (d : List ℕ) (out : ℕ) (h : Shows d out (head ++ encode_all bytes fs)) where
  shown_fits : fits bytes (length d) (length head) fs ≡ true
  unfolding fits
  shown_fits =
      le-leb (length head + length (encode_all bytes fs)) (length d) (omega (arith, h.place, h.within, length-append head (encode_all bytes fs)))

  -- a failure that fits is shown behind the others; one that does not leaves the buffer
  pub note_ways : (status : Status) (f : F) (p : Option ℕ) (after : List ℕ) → putting p after ≡ noting d out status (bytes f)
      → Ways bytes head (also fs status f) (length d) d p after
  unfolding noting
  note_ways status f p after g = go (eqb (status_code status) 0) g
    where
      go : (b : Bool) → putting p after ≡ cond b (putting (Some out) d) (put d out (bytes f)) → Ways bytes head (cond b fs (fs ++ (f ∷ []))) (length d) d p after
      go true g =
          subst (λ (x : Putting). Ways bytes head fs (length d) d x.answer x.buffer) (sym g) (record { shows = h; same = refl; fit = shown_fits })
      go false g = put_record bytes head fs f d out p after h g

-- ---- the answer on the buffer

module _ (d : List ℕ) (start out : ℕ) where
  -- something is listed
  pub conclude_listed : (out ≡ start → ⊥) → seen (Ok out) d no_state ≡ concluded_at d start (Ok out)
  unfolding concluded_at
  conclude_listed n = rw (ne_eqb out start n)

  -- nothing is: one 00 is put
  pub conclude_none : out ≡ start → (b : ℕ) → b ≡ 0 → (r : Option ℕ) (after : List ℕ) → putting r after ≡ put d out (b ∷ []) → sent r after ≡ concluded_at d start (Ok out)
  unfolding concluded_at
  conclude_none e b z r after p =
      rw (eq-eqb out start e) (ap (λ (x : Putting). sent x.answer x.buffer) (p ∙ ap (λ (k : ℕ). put d out (k ∷ [])) z))

-- ---- a reply, or 5

module _ {S : Type 0} (room : ℕ) (out : List ℕ) (s : S) where
  answered_in : length out ≤ room → answered room out s ≡ replied room out s
  unfolding answered
  answered_in h = rw (le-leb (length out) room h)

  answered_past : room < length out → answered room out s ≡ refused room ReplyTooLong s
  unfolding answered
  answered_past h = rw (lt-leb (length out) room h)

  -- a reply that the buffer shows
  answered_shown : (d : List ℕ) (n : ℕ) → Shows d n out → length d ≡ room → seen (Ok n) d s ≡ answered room out s
  answered_shown d n h l = seen_reply room d n out s h l ∙ sym (answered_in (omega (arith, h.place, h.within)))

-- the one 00 behind a head
one_more : {S : Type 0} (d : List ℕ) (out : ℕ) (head : List ℕ) (s : S) → Shows d out head → (r : Option ℕ) (after : List ℕ) → putting r after ≡ put d out (0 ∷ [])
    → within (λ u. s) (sent r after) ≡ answered (length d) (head ++ (0 ∷ [])) s
one_more d out head s h (Some n) after p =
    let w = shows_put d out head (0 ∷ []) (Some n) n after h p refl in
    answered_shown (length d) (head ++ (0 ∷ [])) s after n w.shows w.same
one_more d out head s h None after p =
    let w = shows_full d out head (0 ∷ []) None after h p refl in
    ap (λ (l : List ℕ). refused (length l) ReplyTooLong s) w.1 ∙ sym (answered_past (length d) (head ++ (0 ∷ [])) s w.0)

-- ---- the answer by the failures, each of which takes bytes

module _ {F : Type 0} (bytes : F → List ℕ) (some : (f : F) → 0 < length (bytes f)) where
  some_listed : (f : F) (fs : List F) → 0 < length (encode_all bytes (f ∷ fs))
  unfolding encode_all
  some_listed f fs = omega (arith, some f, length-append (bytes f) (encode_all bytes fs))

  -- behind a head of so many bytes either nothing is listed, and the buffer shows the head; or something is
  module _ (d : List ℕ) (start out : ℕ) (head : List ℕ) (k : start ≡ length head) where
    longer_than : (f : F) (fs : List F) → Shows d out (head ++ encode_all bytes (f ∷ fs)) → out ≡ start → ⊥
    longer_than f fs h e = omega (arith, h.place, length-append head (encode_all bytes (f ∷ fs)), some_listed f fs)

    pub none_listed : (fs : List F) → Shows d out (head ++ encode_all bytes fs) → out ≡ start → fs ≡ []
    none_listed [] h e = refl
    none_listed (f ∷ fs) h e = absurd (longer_than f fs h e)

    shown_head : Shows d out (head ++ encode_all bytes []) → Shows d out head
    unfolding encode_all
    shown_head h = subst (Shows d out) (append-nil head) h

    pub head_ends : Shows d out (head ++ encode_all bytes []) → out ≡ start
    head_ends h = (shown_head h).place ∙ sym k

    pub head_shown : Shows d out (head ++ encode_all bytes []) → Shows d start head
    head_shown h = subst (λ (n : ℕ). Shows d n head) (head_ends h) (shown_head h)

    finished : {S : Type 0} (s : S) (fs : List F) → Shows d out (head ++ encode_all bytes fs)
        → within (λ u. s) (concluded_at d start (Ok out)) ≡ answered (length d) (head ++ encode_failures bytes fs) s
    unfolding encode_failures
    finished s [] h =
        let x : Putting = put d out (0 ∷ []) in
        ap (within (λ u. s)) (sym (conclude_none d start out (head_ends h) 0 refl x.answer x.buffer refl))
        ∙ one_more d out head s (shown_head h) x.answer x.buffer refl
    finished s (f ∷ fs) h =
        ap (within (λ u. s)) (sym (conclude_listed d start out (longer_than f fs h))) ∙ answered_shown (length d) (head ++ encode_all bytes (f ∷ fs)) s d out h refl

  concludes_by : {S : Type 0} (d : List ℕ) (start : ℕ) (head : List ℕ) → start ≡ length head → (way : Way (Sofar S F)) (s : S) (done : Result ℕ Unfinished) → Passes bytes way head done s d
      → within (λ u. s) (concluded_at d start done) ≡ concluded bytes (length d) head way
  unfolding concluded_at concluded
  concludes_by d start head k way s (Ok out) w = finished d start out head k s w.failures w.shows ∙ sym (ap (concluded bytes (length d) head) w.is)
  concludes_by d start head k way s (Err Unfinished.Cut) w = sym (ap (concluded bytes (length d) head) w.is)
  concludes_by d start head k way s (Err Unfinished.Full) w = sym (ap (concluded bytes (length d) head) w.is)

  -- THE ANSWER TO A PASS is what its way concludes, behind every head and with every state
  pub concludes : {S : Type 0} (d : List ℕ) (start : ℕ) (done : Result ℕ Unfinished) (r : Result ℕ Refusal) (after : List ℕ) → seen r after no_state ≡ concluded_at d start done
      → (head : List ℕ) (way : Way (Sofar S F)) (s : S) → start ≡ length head → Passes bytes way head done s d → seen r after s ≡ concluded bytes (length d) head way
  concludes d start done r after e head way s k p = ap (within (λ u. s)) e ∙ concludes_by d start head k way s done p
