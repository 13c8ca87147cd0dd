-- Which trouble counts, of a whole command (`specs/Claims/Troubles.antt`). Assumes nothing.
use mathlib.Core.Path.{◌≡◌, refl, sym, ap, ◌∙◌, subst}
use mathlib.Core.Bool.{Bool, true, false}
use mathlib.Core.List.{List, [], ◌∷◌, ◌++◌, append_assoc, append-nil}
use Prim.Native.Nat.{ℕ, ◌+◌, ◌≤◌, ◌<◌}
use native.Mathlib.Omega.{arith}
use lib.ListN.{length}
use lib.Dec.{leb, eqb}
use borrow.Author.Tests.{le-leb, lt-leb, leb-true, leb-false, eqb-true, eqb-false}
use Rattle.frame.specs.declared.header.ZclHeader.{ZclHeader}
use Rattle.frame.specs.declared.command_identifier.CommandIdentifier.{CommandIdentifier}
use Rattle.frame.specs.declared.answer.Refusal.TheVariants.{RecordCut, ReplyTooLong}
use Rattle.frame.specs.Header.{reply_head}
use Rattle.frame.specs.Answer.{Outcome, refused}
use Rattle.frame.specs.Walk.{Ending, done, cut, Records, ended, joined, through, walk}
use Rattle.frame.specs.Encoded.{fits}
use Rattle.frame.specs.Failures.{Doing, sofar, pass_from, pass, performed, headed}
use Rattle.frame.specs.Claims.Troubles.{executed, Is5, Not5, single, CutIsFour, FiveStays, FiveDone, MetAt, FiveIsMet, NoneFails, LongFailures, FiveAtHeader, CutIsFourAtHeader}
use Rattle.frame.proofs.Headers.{reply_head_length}
use Rattle.frame.proofs.States.{performed_folded}
use Rattle.frame.proofs.Halts.{cut_four_in, taken_replies, five_stays_in, five_done_in}
use Rattle.frame.proofs.NoneFails.{five_at_header_in, cut_at_header_in}

module _ {S R F : Type 0} (doing : Doing S R F) (request : ZclHeader) (command : CommandIdentifier) (s : S) where
  abbrev head3 : List ℕ
  head3 = reply_head request command

  abbrev answer : Records R → ℕ → Outcome S
  answer = executed doing request command s

  -- with room for the header, the records come
  pub roomy : (room : ℕ) → 3 ≤ room → (rs : Records R) → answer rs room ≡ performed doing rs s room head3
  unfolding headed
  roomy room h rs = rw (le-leb (length head3) room (omega (arith, reply_head_length request command)))

  -- without it, 5
  pub tight : (room : ℕ) → room < 3 → (rs : Records R) → answer rs room ≡ refused room ReplyTooLong s
  unfolding headed
  tight room h rs = rw (lt-leb (length head3) room (omega (arith, reply_head_length request command)))

  pub some_room : (rs : Records R) (room : ℕ) → Not5 (answer rs room) → 3 ≤ room
  some_room rs room n = go (leb 3 room) refl
    where
      go : (b : Bool) → leb 3 room ≡ b → 3 ≤ room
      go true e = leb-true 3 room e
      go false e = absurd (n (ap (λ (o : Outcome S). o.number) (tight room (leb-false 3 room e) rs)))

  pub behind_head : (rs : Records R) (room : ℕ) → Not5 (answer rs room) → Not5 (performed doing rs s room head3)
  behind_head rs room n = subst (λ (o : Outcome S). Not5 o) (roomy room (some_room rs room n) rs) n

  four : (a : Records R) (room : ℕ) → a.ending ≡ done → Not5 (answer a room) → answer (joined a (ended cut)) room ≡ refused room RecordCut (answer a room).state
  four a room e n =
      let h : 3 ≤ room = some_room a room n in
      roomy room h (joined a (ended cut))
      ∙ cut_four_in doing s room head3 a e (behind_head a room n)
      ∙ ap (λ (o : Outcome S). refused room RecordCut o.state) (sym (roomy room h a))

  stays : (a b : Records R) (room : ℕ) → a.ending ≡ done → 4 ≤ room → Is5 (answer a room) → answer (joined a b) room ≡ answer a room
  stays a b room e h n =
      let g : 3 ≤ room = omega arith in
      roomy room g (joined a b)
      ∙ five_stays_in doing s room head3 a e (omega (arith, reply_head_length request command)) b (ap (λ (o : Outcome S). o.number) (sym (roomy room g a)) ∙ n)
      ∙ sym (roomy room g a)

  its_record : (a : Records R) (r : R) (room more : ℕ) → a.ending ≡ done → Not5 (answer a room) → Not5 (answer (joined a (single r)) more)
      → (answer (joined a (single r)) room).state ≡ (answer (joined a (single r)) more).state
  its_record a r room more e n m =
      ap (λ (o : Outcome S). o.state) (roomy room (some_room a room n) (joined a (single r)))
      ∙ five_done_in doing s room head3 a e r (behind_head a room n)
      ∙ sym (performed_folded doing (joined a (single r)) request command s more m)

  -- ---- room for the header alone

  module _ (long : LongFailures doing) (a : Records R) (more : ℕ) (e : a.ending ≡ done) (none : NoneFails (answer a more)) where
    three : length head3 ≡ 3
    three = reply_head_length request command

    is : answer a more ≡ performed doing a s more head3
    is = roomy more (some_room a more (λ f. omega (arith, f, none.0))) a

    number : (performed doing a s more head3).number ≡ 0
    number = ap (λ (o : Outcome S). o.number) (sym is) ∙ none.0

    size : (performed doing a s more head3).size ≡ length head3 + 1
    size = ap (λ (o : Outcome S). o.size) (sym is) ∙ none.1 ∙ ap (λ (k : ℕ). k + 1) (sym three)

    five_there_too : answer a 3 ≡ refused 3 ReplyTooLong (answer a more).state
    five_there_too =
        roomy 3 (omega arith) a
        ∙ subst (λ (k : ℕ). performed doing a s k head3 ≡ refused k ReplyTooLong (performed doing a s more head3).state) three (five_at_header_in doing long s head3 more a e number size)
        ∙ ap (λ (o : Outcome S). refused 3 ReplyTooLong o.state) (sym is)

    four_there : answer (joined a (ended cut)) 3 ≡ refused 3 RecordCut (answer a more).state
    four_there =
        roomy 3 (omega arith) (joined a (ended cut))
        ∙ subst (λ (k : ℕ). performed doing (joined a (ended cut)) s k head3 ≡ refused k RecordCut (performed doing a s more head3).state) three (cut_at_header_in doing long s head3 more a e number size)
        ∙ ap (λ (o : Outcome S). refused 3 RecordCut o.state) (sym is)

  -- ---- where 5 is met

  abbrev of : List R → Ending → Records R
  of l e = record { list = l; ending = e }

  nothing_done : (room : ℕ) → pass doing (fits doing.bytes room (length head3)) (ended done) s ≡ through (sofar s [])
  unfolding pass_from walk
  nothing_done room = refl

  -- not before the first record
  none_yet : (room : ℕ) → 4 ≤ room → Not5 (answer (of [] done) room)
  none_yet room h n =
      let g : 3 ≤ room = omega arith in
      taken_replies doing s room head3 (ended done) refl (omega (arith, reply_head_length request command)) (sofar s []) (nothing_done room)
      (ap (λ (o : Outcome S). o.number) (sym (roomy room g (ended done))) ∙ n)

  -- and not by a record that cannot be read
  not_by_cut : (room : ℕ) (pre : List R) (e : Ending) → Not5 (answer (of pre done) room) → Not5 (answer (of pre e) room)
  not_by_cut room pre done n f = n f
  not_by_cut room pre cut n f =
      let is : answer (of (pre ++ []) cut) room ≡ refused room RecordCut (answer (of pre done) room).state = four (of pre done) room refl n in
      let z : ◌≡◌ {A = ℕ} 4 5 = sym (ap (λ (o : Outcome S). o.number) is) ∙ ap (λ (l : List R). (answer (of l cut) room).number) (append-nil pre) ∙ f in
      absurd (omega arith)

  meets : (room : ℕ) (e : Ending) (l pre : List R) → Not5 (answer (of pre done) room) → Is5 (answer (of (pre ++ l) e) room) → MetAt answer (of (pre ++ l) e) room
  meets room e [] pre n f = absurd (not_by_cut room pre e n (subst (λ (l : List R). Is5 (answer (of l e) room)) (append-nil pre) f))
  meets room e (r ∷ l) pre n f =
      go (eqb (answer (of (pre ++ (r ∷ [])) done) room).number 5) refl
      (λ m. subst (λ (l : List R). MetAt answer (of l e) room) (append_assoc pre (r ∷ []) l)
      (meets room e l (pre ++ (r ∷ [])) m (subst (λ (l : List R). Is5 (answer (of l e) room)) (sym (append_assoc pre (r ∷ []) l)) f)))
    where
      go : (b : Bool) → eqb (answer (of (pre ++ (r ∷ [])) done) room).number 5 ≡ b → (Not5 (answer (of (pre ++ (r ∷ [])) done) room) → MetAt answer (of (pre ++ (r ∷ l)) e) room)
          → MetAt answer (of (pre ++ (r ∷ l)) e) room
      go true q rec = record { earlier = of pre done; met = r; rest = of l e; whole = refl; readable = refl; not_before = n; here = eqb-true _ _ q }
      go false q rec = rec (eqb-false _ _ q)

pub cut_is_four : {S R F : Type 0} (doing : Doing S R F) → CutIsFour doing
cut_is_four doing request command s a room e n = four doing request command s a room e n

pub five_stays : {S R F : Type 0} (doing : Doing S R F) → FiveStays doing
five_stays doing request command s a b room e h n = stays doing request command s a b room e h n

pub five_done : {S R F : Type 0} (doing : Doing S R F) → FiveDone doing
five_done doing request command s a r room more e n m = its_record doing request command s a r room more e n m

pub five_is_met : {S R F : Type 0} (doing : Doing S R F) → FiveIsMet doing
five_is_met doing request command s rs room h f = meets doing request command s room rs.ending rs.list [] (none_yet doing request command s room h) f

pub five_at_header : {S R F : Type 0} (doing : Doing S R F) → FiveAtHeader doing
five_at_header doing long request command s a more e none = five_there_too doing request command s long a more e none

pub cut_is_four_at_header : {S R F : Type 0} (doing : Doing S R F) → CutIsFourAtHeader doing
cut_is_four_at_header doing long request command s a more e none = four_there doing request command s long a more e none
