-- Records of which none fails, in a room and in that of the head alone (`specs/Claims/Troubles.antt`). Assumes nothing.
use mathlib.Core.Path.{◌≡◌, refl, sym, ap, ◌∙◌}
use mathlib.Core.Bool.{Bool, true, false, cond}
use mathlib.Core.List.{List, [], ◌∷◌, ◌++◌}
use Prim.Native.Nat.{ℕ, ◌+◌}
use native.Mathlib.Omega.{arith}
use lib.ListN.{length, length-append}
use lib.Dec.{leb, eqb}
use borrow.Author.Tests.{le-leb, lt-leb}
use Rattle.frame.specs.declared.answer.Refusal.TheVariants.{RecordCut, ReplyTooLong}
use Rattle.frame.specs.Status.{status_code}
use Rattle.frame.specs.Answer.{Outcome, replied, refused}
use Rattle.frame.specs.Walk.{done, cut, Records, ended, joined, Way, through, stopped, walk}
use Rattle.frame.specs.Encoded.{encode_all, fits}
use Rattle.frame.specs.Failures.{Doing, Sofar, sofar, done_with, pass_from, encode_failures, answered, concluded, performed}
use Rattle.frame.specs.Claims.Troubles.{LongFailures}
use Rattle.frame.proofs.Walks.{Ended, taken, halted}
use Rattle.frame.proofs.Halts.{test, way, outcome_is, state_is, halted_is, goes, way_ended, cut_behind}

module _ {S R F : Type 0} (doing : Doing S R F) (here there : List F → Bool) (empty : there [] ≡ true) where
  abbrev by : (List F → Bool) → Sofar S F → List R → Way (Sofar S F)
  by fine x rs = walk (done_with doing) (λ y. fine y.failures) x done rs

  -- none at the end: none before
  none_before : (rs : List R) (x y : Sofar S F) → by here x rs ≡ through y → y.failures ≡ [] → x.failures ≡ []
  unfolding walk done_with
  none_before [] x y h k = let q : x ≡ y = cc in ap (λ (z : Sofar S F). z.failures) q ∙ k
  none_before (r ∷ rs) x y h k = go (here (done_with doing x r).failures) h (λ g. none_before rs (done_with doing x r) y g k)
    where
      earlier : (b : Bool) (f : F) → cond b x.failures (x.failures ++ (f ∷ [])) ≡ [] → x.failures ≡ []
      earlier true f e = e
      earlier false f e = let n : length (x.failures ++ (f ∷ [])) ≡ 0 = ap length e in absurd (omega (arith, length-append x.failures (f ∷ [])))

      go : (b : Bool) → cond b (by here (done_with doing x r) rs) (stopped x (done_with doing x r)) ≡ through y → (by here (done_with doing x r) rs ≡ through y → (done_with doing x r).failures ≡ []) → x.failures ≡ []
      go true g rec = earlier (eqb (status_code (doing.does x.state r).status) 0) (doing.fails (doing.does x.state r).status r) (rec g)
      go false g rec = let z : ◌≡◌ {A = ℕ} 0 1 = cc in absurd (omega arith)

  -- so that the other room is enough
  none_there : (rs : List R) (x y : Sofar S F) → by here x rs ≡ through y → y.failures ≡ [] → by there x rs ≡ through y
  unfolding walk
  none_there [] x y h k = h
  none_there (r ∷ rs) x y h k = go (here (done_with doing x r).failures) h (λ g. none_there rs (done_with doing x r) y g k)
    where
      fits_there : by here (done_with doing x r) rs ≡ through y → there (done_with doing x r).failures ≡ true
      fits_there g = ap there (none_before rs (done_with doing x r) y g k) ∙ empty

      go : (b : Bool) → cond b (by here (done_with doing x r) rs) (stopped x (done_with doing x r)) ≡ through y → (by here (done_with doing x r) rs ≡ through y → by there (done_with doing x r) rs ≡ through y)
          → cond (there (done_with doing x r).failures) (by there (done_with doing x r) rs) (stopped x (done_with doing x r)) ≡ through y
      go true g rec = rw (fits_there g) (rec g)
      go false g rec = let z : ◌≡◌ {A = ℕ} 0 1 = cc in absurd (omega arith)

module _ {S R F : Type 0} (doing : Doing S R F) (long : LongFailures doing) (s : S) (head : List ℕ) (more : ℕ) where
  -- one byte behind the head is a 00
  none_listed : (fs : List F) → length (encode_failures doing.bytes fs) ≡ 1 → fs ≡ []
  unfolding encode_failures encode_all
  none_listed [] e = refl
  none_listed (f ∷ fs) e = absurd (omega (arith, long f, length-append (doing.bytes f) (encode_all doing.bytes fs)))

  replied_size : (out : List ℕ) (t : S) → (answered more out t).number ≡ 0 → (answered more out t).size ≡ length out
  unfolding answered
  replied_size out t = go (leb (length out) more)
    where
      go : (b : Bool) → (cond b (replied more out t) (refused more ReplyTooLong t)).number ≡ 0 → (cond b (replied more out t) (refused more ReplyTooLong t)).size ≡ length out
      go true e = refl
      go false e = absurd (omega arith)

  module _ (a : Records R) (readable : a.ending ≡ done) (zeroth : (performed doing a s more head).number ≡ 0) (size : (performed doing a s more head).size ≡ length head + 1) where
    none_failed : (y : Sofar S F) → way doing s more head a ≡ through y → y.failures ≡ []
    unfolding concluded
    none_failed y e =
        let out : List ℕ = head ++ encode_failures doing.bytes y.failures in
        let is : performed doing a s more head ≡ answered more out y.state = outcome_is doing s more head a (through y) e in
        let n : (answered more out y.state).size ≡ length out = replied_size out y.state (ap (λ (o : Outcome S). o.number) (sym is) ∙ zeroth) in
        let m : (answered more out y.state).size ≡ length head + 1 = ap (λ (o : Outcome S). o.size) (sym is) ∙ size in
        none_listed y.failures (omega (arith, n, m, length-append head (encode_failures doing.bytes y.failures)))

    abbrev room : ℕ
    room = length head

    way_there : (y : Sofar S F) → way doing s more head a ≡ through y → way doing s room head a ≡ through y
    unfolding pass_from fits encode_all
    way_there y e =
        let base : test doing s room head [] ≡ true = le-leb (length head + 0) room (omega arith) in
        ap (goes doing s room head a readable) readable
        ∙ none_there doing (test doing s more head) (test doing s room head) base a.list (sofar s []) y (ap (goes doing s more head a readable) (sym readable) ∙ e) (none_failed y e)

    -- a 00 does not fit
    no_room : (y : Sofar S F) → y.failures ≡ [] → concluded doing.bytes room head (through y) ≡ refused room ReplyTooLong y.state
    unfolding concluded answered encode_failures
    no_room y e =
        let unfit : leb (length (head ++ (0 ∷ []))) room ≡ false = lt-leb (length (head ++ (0 ∷ []))) room (omega (arith, length-append head (0 ∷ []))) in
        ap (λ (fs : List F). concluded doing.bytes room head (through (sofar y.state fs))) e ∙ rw unfit

    module _ (y : Sofar S F) (e : way doing s more head a ≡ through y) where
      state_there : (performed doing a s more head).state ≡ y.state
      state_there = state_is doing s more head a (through y) e

      five_there : performed doing a s room head ≡ refused room ReplyTooLong (performed doing a s more head).state
      five_there =
          outcome_is doing s room head a (through y) (way_there y e) ∙ no_room y (none_failed y e) ∙ ap (refused room ReplyTooLong) (sym state_there)

      cut_there : performed doing (joined a (ended cut)) s room head ≡ refused room RecordCut (performed doing a s more head).state
      cut_there = cut_behind doing s room head a readable y (way_there y e) ∙ ap (refused room RecordCut) (sym state_there)

    -- the pass took every record
    all_taken : (P : Type 0) → ((y : Sofar S F) → way doing s more head a ≡ through y → P) → P
    all_taken P k = go (way_ended doing s more head a readable)
      where
        go : Ended (way doing s more head a) → P
        go (taken y e) = k y e
        go (halted y z e) =
            let w : ◌≡◌ {A = ℕ} 5 0 = sym (ap (λ (o : Outcome S). o.number) (halted_is doing s more head a y z e)) ∙ zeroth in
            absurd (omega arith)

    pub five_at_header_in : performed doing a s room head ≡ refused room ReplyTooLong (performed doing a s more head).state
    five_at_header_in = all_taken _ five_there

    pub cut_at_header_in : performed doing (joined a (ended cut)) s room head ≡ refused room RecordCut (performed doing a s more head).state
    cut_at_header_in = all_taken _ cut_there
