-- A list cut in two (document 02, request 4), of every command that lists its failures: where the whole is not refused by 5, neither part is stopped in a room that is no smaller. Assumes nothing.
use mathlib.Core.Path.{◌≡◌, refl, sym, ap, ◌∙◌, subst}
use mathlib.Core.Bool.{Bool, true, false, cond}
use mathlib.Core.List.{List, [], ◌∷◌, ◌++◌, append_assoc, append-nil}
use Prim.Native.Nat.{ℕ, ◌+◌, ◌≤◌}
use native.Mathlib.Omega.{arith}
use lib.ListN.{length, length-append}
use lib.Dec.{eqb}
use borrow.Author.Tests.{le-leb}
use Rattle.frame.specs.declared.header.ZclHeader.{ZclHeader}
use Rattle.frame.specs.declared.command_identifier.CommandIdentifier.{CommandIdentifier}
use Rattle.frame.specs.declared.status.Status.{Status}
use Rattle.frame.specs.Status.{status_code}
use Rattle.frame.specs.Header.{reply_head}
use Rattle.frame.specs.Answer.{Outcome}
use Rattle.frame.specs.Walk.{Ending, done, cut, Records, joined, Way, stopped, walk}
use Rattle.frame.specs.Encoded.{encode_all, fits}
use Rattle.frame.specs.Failures.{Doing, Sofar, sofar, also, done_with, pass_from, pass}
use Rattle.frame.specs.Claims.Troubles.{executed, Not5}
use Rattle.frame.proofs.Headers.{reply_head_length}
use Rattle.frame.proofs.Encoded.{encode_all_append, fits_within}
use Rattle.frame.proofs.States.{folded, folded_append, Unstopped, walk_folded, not_five}
use Rattle.frame.proofs.Halts.{outcome_is, state_is}
use Rattle.frame.proofs.Troubles.{roomy, some_room, behind_head}

-- ---- a walk that nothing stops

-- what is listed so far may differ, if every list that is fine behind the one is fine behind the other
abbrev Looser : {F : Type 0} → (List F → Bool) → (List F → Bool) → List F → List F → Type 0
Looser {F} fine loose l m = (z : List F) → fine (l ++ z) ≡ true → loose (m ++ z) ≡ true

module _ {S R F : Type 0} (doing : Doing S R F) (fine : List F → Bool) where
  abbrev goes : Sofar S F → Ending → List R → Way (Sofar S F)
  goes x e rs = walk (done_with doing) (λ y. fine y.failures) x e rs

  -- the first records alone
  unstopped_first : (e : Ending) (rs more : List R) (x : Sofar S F) → Unstopped (goes x e (rs ++ more)) → Unstopped (goes x done rs)
  unfolding walk
  unstopped_first e [] more x u = tt
  unstopped_first e (r ∷ rs) more x u = go (fine (done_with doing x r).failures) u (λ v. unstopped_first e rs more (done_with doing x r) v)
    where
      go : (b : Bool) → Unstopped (cond b (goes (done_with doing x r) e (rs ++ more)) (stopped x (done_with doing x r)))
          → (Unstopped (goes (done_with doing x r) e (rs ++ more)) → Unstopped (goes (done_with doing x r) done rs))
          → Unstopped (cond b (goes (done_with doing x r) done rs) (stopped x (done_with doing x r)))
      go true u rec = rec u
      go false u rec = absurd u

  -- and those behind them
  unstopped_rest : (e : Ending) (rs more : List R) (x : Sofar S F) → Unstopped (goes x e (rs ++ more)) → (m : List F) × Unstopped (goes (sofar (folded doing x.state rs) m) e more)
  unfolding walk done_with
  unstopped_rest e [] more x u = (x.failures, u)
  unstopped_rest e (r ∷ rs) more x u = go (fine (done_with doing x r).failures) u (λ v. unstopped_rest e rs more (done_with doing x r) v)
    where
      go : (b : Bool) → Unstopped (cond b (goes (done_with doing x r) e (rs ++ more)) (stopped x (done_with doing x r)))
          → (Unstopped (goes (done_with doing x r) e (rs ++ more)) → (m : List F) × Unstopped (goes (sofar (folded doing (doing.does x.state r).state rs) m) e more))
          → (m : List F) × Unstopped (goes (sofar (folded doing (doing.does x.state r).state rs) m) e more)
      go true u rec = rec u
      go false u rec = absurd u

-- a looser test stops it less
module _ {S R F : Type 0} (doing : Doing S R F) (fine loose : List F → Bool) where
  -- one status more
  looser_also : (l m : List F) (status : Status) (f : F) → Looser fine loose l m → Looser fine loose (also l status f) (also m status f)
  looser_also l m status f h = go (eqb (status_code status) 0)
    where
      go : (b : Bool) → Looser fine loose (cond b l (l ++ (f ∷ []))) (cond b m (m ++ (f ∷ [])))
      go true z e = h z e
      go false z e = ap loose (append_assoc m (f ∷ []) z) ∙ h (f ∷ z) (ap fine (sym (append_assoc l (f ∷ []) z)) ∙ e)

  looser_now : (l m : List F) → Looser fine loose l m → fine l ≡ true → loose m ≡ true
  looser_now l m h e = ap loose (sym (append-nil m)) ∙ h [] (ap fine (append-nil l) ∙ e)

  unstopped_looser : (e : Ending) (rs : List R) (s : S) (l m : List F) → Looser fine loose l m → Unstopped (goes doing fine (sofar s l) e rs) → Unstopped (goes doing loose (sofar s m) e rs)
  unfolding walk done_with
  unstopped_looser done [] s l m h u = tt
  unstopped_looser cut [] s l m h u = tt
  unstopped_looser e (r ∷ rs) s l m h u =
      let w : Status = (doing.does s r).status in
      let k = looser_also l m w (doing.fails w r) h in
      go (fine (also l w (doing.fails w r))) refl u (λ v. unstopped_looser e rs (doing.does s r).state (also l w (doing.fails w r)) (also m w (doing.fails w r)) k v) (looser_now _ _ k)
    where
      t : S
      t = (doing.does s r).state

      ls : List F
      ls = also l (doing.does s r).status (doing.fails (doing.does s r).status r)

      ms : List F
      ms = also m (doing.does s r).status (doing.fails (doing.does s r).status r)

      go : (b : Bool) → fine ls ≡ b → Unstopped (cond b (goes doing fine (sofar t ls) e rs) (stopped (sofar s l) (sofar t ls)))
          → (Unstopped (goes doing fine (sofar t ls) e rs) → Unstopped (goes doing loose (sofar t ms) e rs)) → (fine ls ≡ true → loose ms ≡ true)
          → Unstopped (cond (loose ms) (goes doing loose (sofar t ms) e rs) (stopped (sofar s m) (sofar t ms)))
      go true q u rec now = subst (λ (b : Bool). Unstopped (cond b (goes doing loose (sofar t ms) e rs) (stopped (sofar s m) (sofar t ms)))) (sym (now q)) (rec u)
      go false q u rec now = absurd u

-- ---- of a command

module _ {S R F : Type 0} (doing : Doing S R F) (command : CommandIdentifier) where
  abbrev fine : ℕ → List F → Bool
  fine room = fits doing.bytes room 3

  -- a command that is not stopped leaves what its records leave, also where its 00 does not fit
  unstopped_leaves : (request : ZclHeader) (s : S) (rs : Records R) (room : ℕ) → 3 ≤ room → Unstopped (pass doing (fine room) rs s) → (executed doing request command s rs room).state ≡ folded doing s rs.list
  unfolding pass_from
  unstopped_leaves request s rs room h u =
      ap (λ (o : Outcome S). o.state) (roomy doing request command s room h rs)
      ∙ state_is doing s room (reply_head request command) rs (pass doing (fine room) rs s) (ap (λ (n : ℕ). pass doing (fits doing.bytes room n) rs s) (reply_head_length request command))
      ∙ walk_folded doing (fine room) rs.ending rs.list (sofar s []) u

  not_stopped : (request : ZclHeader) (s : S) (rs : Records R) (room : ℕ) → Not5 (executed doing request command s rs room) → Unstopped (pass doing (fine room) rs s)
  not_stopped request s rs room n =
      subst (λ (k : ℕ). Unstopped (pass doing (fits doing.bytes room k) rs s)) (reply_head_length request command)
      (not_five doing.bytes room (reply_head request command) (pass doing (fits doing.bytes room (length (reply_head request command))) rs s)
      (subst (λ (o : Outcome S). Not5 o) (outcome_is doing s room (reply_head request command) rs _ refl) (behind_head doing request command s rs room n)))

  module _ (room more : ℕ) (wide : room ≤ more) where
    looser_room : Looser (fine room) (fine more) [] []
    unfolding fits
    looser_room z e = le-leb (3 + length (encode_all doing.bytes z)) more (omega (arith, fits_within doing.bytes room 3 z e))

    looser_list : (l : List F) → Looser (fine room) (fine more) l []
    unfolding fits
    looser_list l z e =
        le-leb (3 + length (encode_all doing.bytes z)) more
        (omega (arith, fits_within doing.bytes room 3 (l ++ z) e, ap length (encode_all_append doing.bytes l z), length-append (encode_all doing.bytes l) (encode_all doing.bytes z)))

  -- THE PARTS of a list that is not refused by 5 leave what their records leave, each in a room that is no smaller
  module _ (request : ZclHeader) (s : S) (a b : Records R) (room : ℕ) (readable : a.ending ≡ done) (n : Not5 (executed doing request command s (joined a b) room)) where
    whole : Unstopped (pass doing (fine room) (joined a b) s)
    whole = not_stopped request s (joined a b) room n

    header : 3 ≤ room
    header = some_room doing request command s (joined a b) room n

    pub first_leaves : (p : ZclHeader) (more : ℕ) → room ≤ more → (executed doing p command s a more).state ≡ folded doing s a.list
    unfolding pass_from
    first_leaves p more h =
        unstopped_leaves p s a more (omega (arith, header))
        (subst (λ (e : Ending). Unstopped (goes doing (fine more) (sofar s []) e a.list)) (sym readable)
        (unstopped_looser doing (fine room) (fine more) done a.list s [] [] (looser_room room more h) (unstopped_first doing (fine room) b.ending a.list b.list (sofar s []) whole)))

    pub second_leaves : (q : ZclHeader) (more : ℕ) → room ≤ more → (executed doing q command (folded doing s a.list) b more).state ≡ folded doing s (a.list ++ b.list)
    unfolding pass_from
    second_leaves q more h =
        let w = unstopped_rest doing (fine room) b.ending a.list b.list (sofar s []) whole in
        unstopped_leaves q (folded doing s a.list) b more (omega (arith, header))
        (unstopped_looser doing (fine room) (fine more) b.ending b.list (folded doing s a.list) w.0 [] (looser_list room more h w.0) w.1)
        ∙ sym (folded_append doing a.list b.list s)
