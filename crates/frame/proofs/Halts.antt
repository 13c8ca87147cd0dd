-- What a pass behind a head comes to over records that can all be read, and with others behind them: it takes them all, or halts (`specs/Claims/Troubles.antt`). Assumes nothing.
use mathlib.Core.Path.{◌≡◌, refl, sym, ap, ◌∙◌, subst}
use mathlib.Core.Bool.{Bool, true, false, cond}
use mathlib.Core.List.{List, [], ◌∷◌, ◌++◌}
use Prim.Native.Nat.{ℕ, ◌+◌, ◌≤◌}
use native.Mathlib.Omega.{arith}
use lib.ListN.{length, length-append}
use lib.Dec.{leb}
use borrow.Author.Tests.{le-leb}
use Rattle.frame.specs.declared.answer.Refusal.TheVariants.{RecordCut, ReplyTooLong}
use Rattle.frame.specs.Answer.{Outcome, replied, refused}
use Rattle.frame.specs.Walk.{Ending, done, cut, Records, ended, joined, Way, through, broken, stopped, walk, reached}
use Rattle.frame.specs.Encoded.{encode_all, fits}
use Rattle.frame.specs.Failures.{Doing, Sofar, sofar, done_with, pass_from, pass, encode_failures, answered, concluded, performed}
use Rattle.frame.specs.Claims.Troubles.{Is5, Not5, single}
use Rattle.frame.proofs.Walks.{Ended, taken, halted, walk_ended, walk_fine, walk_stays, walk_unread, walk_append}
use Rattle.frame.proofs.Encoded.{fits_within}
use Rattle.frame.proofs.States.{state_concluded, folded, folded_append, performed_folds}

module _ {S R F : Type 0} (doing : Doing S R F) (s : S) (room : ℕ) (head : List ℕ) where
  abbrev pub test : List F → Bool
  test fs = fits doing.bytes room (length head) fs

  abbrev pub way : Records R → Way (Sofar S F)
  way rs = pass doing test rs s

  abbrev outcome : Records R → Outcome S
  outcome rs = performed doing rs s room head

  pub outcome_is : (rs : Records R) (w : Way (Sofar S F)) → way rs ≡ w → outcome rs ≡ concluded doing.bytes room head w
  unfolding performed
  outcome_is rs w e = ap (concluded doing.bytes room head) e

  pub state_is : (rs : Records R) (w : Way (Sofar S F)) → way rs ≡ w → (outcome rs).state ≡ (reached w).state
  state_is rs w e = ap (λ (o : Outcome S). o.state) (outcome_is rs w e) ∙ state_concluded room doing.bytes head w

  pub halted_is : (rs : Records R) (y z : Sofar S F) → way rs ≡ stopped y z → outcome rs ≡ refused room ReplyTooLong z.state
  unfolding concluded
  halted_is rs y z e = outcome_is rs (stopped y z) e

  -- the records of a body that can all be read, and those of another behind it
  module _ (a : Records R) (readable : a.ending ≡ done) where
    abbrev pub goes : Ending → Way (Sofar S F)
    goes e = walk (done_with doing) (λ y. test y.failures) (sofar s []) e a.list

    pub way_ended : Ended (way a)
    unfolding pass_from
    way_ended = subst (λ (e : Ending). Ended (goes e)) (sym readable) (walk_ended (done_with doing) (λ y. test y.failures) a.list (sofar s []))

    way_joined : (b : Records R) (y : Sofar S F) → way a ≡ through y → way (joined a b) ≡ pass_from doing test b y
    unfolding pass_from
    way_joined b y e = walk_append (done_with doing) (λ y. test y.failures) b.ending b.list a.list (sofar s []) y (ap goes (sym readable) ∙ e)

    way_stays : (b : Records R) (y z : Sofar S F) → way a ≡ stopped y z → way (joined a b) ≡ stopped y z
    unfolding pass_from
    way_stays b y z e = walk_stays (done_with doing) (λ y. test y.failures) b.ending b.list a.list (sofar s []) y z (ap goes (sym readable) ∙ e)

    -- ---- 4

    pub cut_behind : (y : Sofar S F) → way a ≡ through y → outcome (joined a (ended cut)) ≡ refused room RecordCut y.state
    unfolding pass_from walk concluded
    cut_behind y e = outcome_is (joined a (ended cut)) (broken y) (way_joined (ended cut) y e)

    pub cut_four_in : Not5 (outcome a) → outcome (joined a (ended cut)) ≡ refused room RecordCut (outcome a).state
    cut_four_in n = go way_ended
      where
        go : Ended (way a) → outcome (joined a (ended cut)) ≡ refused room RecordCut (outcome a).state
        go (taken y e) = cut_behind y e ∙ ap (refused room RecordCut) (sym (state_is a (through y) e))
        go (halted y z e) = absurd (n (ap (λ (o : Outcome S). o.number) (halted_is a y z e)))

    -- a pass that meets such a record takes none behind it
    pub cut_ends : (y : Sofar S F) → way (joined a (ended cut)) ≡ through y → ⊥
    unfolding pass_from
    cut_ends y e = walk_unread (done_with doing) (λ y. test y.failures) (a.list ++ []) (sofar s []) y e

    -- ---- 5

    listed_fits : (fs : List F) → length head + 1 ≤ room → test fs ≡ true → length (head ++ encode_failures doing.bytes fs) ≤ room
    unfolding encode_failures
    listed_fits [] h e = omega (arith, length-append head (0 ∷ []))
    listed_fits (f ∷ fs) h e = omega (arith, length-append head (encode_all doing.bytes (f ∷ fs)), fits_within doing.bytes room (length head) (f ∷ fs) e)

    -- where every record was done, the failures fit, and with one byte more so does a 00
    pub taken_replies : length head + 1 ≤ room → (y : Sofar S F) → way a ≡ through y → Not5 (outcome a)
    unfolding pass_from concluded answered fits encode_all
    taken_replies h y e n =
        let base : test [] ≡ true = le-leb (length head + 0) room (omega arith) in
        let fit : test y.failures ≡ true = walk_fine (done_with doing) (λ y. test y.failures) a.list (sofar s []) y base (ap goes (sym readable) ∙ e) in
        let out : List ℕ = head ++ encode_failures doing.bytes y.failures in
        let whole : leb (length out) room ≡ true = le-leb (length out) room (listed_fits y.failures h fit) in
        let is : outcome a ≡ replied room out y.state = outcome_is a (through y) e ∙ ap (λ (b : Bool). cond b (replied room out y.state) (refused room ReplyTooLong y.state)) whole in
        let z : ◌≡◌ {A = ℕ} 0 5 = sym (ap (λ (o : Outcome S). o.number) is) ∙ n in
        absurd (omega arith)

    pub five_stays_in : length head + 1 ≤ room → (b : Records R) → Is5 (outcome a) → outcome (joined a b) ≡ outcome a
    five_stays_in h b n = go way_ended
      where
        go : Ended (way a) → outcome (joined a b) ≡ outcome a
        go (taken y e) = absurd (taken_replies h y e n)
        go (halted y z e) = halted_is (joined a b) y z (way_stays b y z e) ∙ sym (halted_is a y z e)

    -- one record more is done, whether it fits or not
    one_more : (r : R) (y : Sofar S F) → (reached (pass_from doing test (single r) y)).state ≡ (doing.does y.state r).state
    unfolding pass_from walk done_with
    one_more r y = go (test (done_with doing y r).failures)
      where
        go : (b : Bool) → (reached (cond b (through (done_with doing y r)) (stopped y (done_with doing y r)))).state ≡ (doing.does y.state r).state
        go true = refl
        go false = refl

    pub five_done_in : (r : R) → Not5 (outcome a) → (outcome (joined a (single r))).state ≡ folded doing s (a.list ++ (r ∷ []))
    five_done_in r n = go way_ended
      where
        go : Ended (way a) → (outcome (joined a (single r))).state ≡ folded doing s (a.list ++ (r ∷ []))
        go (taken y e) =
            let so_far : y.state ≡ folded doing s a.list = sym (state_is a (through y) e) ∙ performed_folds doing a s room head n in
            state_is (joined a (single r)) (pass_from doing test (single r) y) (way_joined (single r) y e)
            ∙ one_more r y
            ∙ ap (λ (t : S). (doing.does t r).state) so_far
            ∙ sym (folded_append doing a.list (r ∷ []) s)
        go (halted y z e) = absurd (n (ap (λ (o : Outcome S). o.number) (halted_is a y z e)))
