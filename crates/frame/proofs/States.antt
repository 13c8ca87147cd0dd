-- The state that a command leaves which lists its failures, for any state. Assumes nothing.
use mathlib.Core.Path.{◌≡◌, refl, sym, ◌∙◌, subst}
use mathlib.Core.Bool.{Bool, true, false, cond}
use mathlib.Core.List.{List, [], ◌∷◌, ◌++◌}
use Prim.Native.Nat.{ℕ}
use lib.ListN.{length}
use lib.Dec.{leb}
use Rattle.frame.specs.declared.header.ZclHeader.{ZclHeader}
use Rattle.frame.specs.declared.command_identifier.CommandIdentifier.{CommandIdentifier}
use Rattle.frame.specs.declared.answer.Refusal.TheVariants.{ReplyTooLong}
use Rattle.frame.specs.Header.{reply_head}
use Rattle.frame.specs.Answer.{Outcome, replied, refused}
use Rattle.frame.specs.Walk.{Ending, done, cut, Records, Way, through, broken, stopped, walk, reached, All}
use Rattle.frame.specs.Encoded.{fits}
use Rattle.frame.specs.Failures.{Doing, Sofar, sofar, done_with, pass_from, pass, encode_failures, answered, concluded, performed, headed}
use Rattle.frame.proofs.Walks.{walk_keeps}

module _ {S : Type 0} (room : ℕ) where
  state_answered : (out : List ℕ) (s : S) → (answered room out s).state ≡ s
  unfolding answered
  state_answered out s = go (leb (length out) room)
    where
      go : (b : Bool) → (cond b (replied room out s) (refused room ReplyTooLong s)).state ≡ s
      go true = refl
      go false = refl

  -- a command leaves the state that its pass reached
  pub state_concluded : {F : Type 0} (bytes : F → List ℕ) (head : List ℕ) (way : Way (Sofar S F)) → (concluded bytes room head way).state ≡ (reached way).state
  unfolding concluded
  state_concluded bytes head (through x) = state_answered (head ++ encode_failures bytes x.failures) x.state
  state_concluded bytes head (broken x) = refl
  state_concluded bytes head (stopped x y) = refl

-- what holds of the state before, and of the state behind every head, holds of the state afterwards
pub headed_keeps : {S : Type 0} (P : S → Type 0) (request : ZclHeader) (command : CommandIdentifier) (s : S) (room : ℕ) (rest : List ℕ → Outcome S)
    → P s → ((head : List ℕ) → P (rest head).state) → P (headed request command s room rest).state
unfolding headed
headed_keeps P request command s room rest h k = go (leb (length (reply_head request command)) room)
  where
    go : (b : Bool) → P (cond b (rest (reply_head request command)) (refused room ReplyTooLong s)).state
    go true = k (reply_head request command)
    go false = h

-- what every record keeps, a pass keeps
module _ {S R F : Type 0} (doing : Doing S R F) (P : S → Type 0) (Q : R → Type 0) (keep : (s : S) (r : R) → P s → Q r → P (doing.does s r).state) (rs : Records R) (all : All Q rs.list) where
  pub pass_keeps : (fine : List F → Bool) (s : S) → P s → P (reached (pass doing fine rs s)).state
  unfolding pass_from done_with
  pass_keeps fine s h = walk_keeps (done_with doing) (λ y. fine y.failures) (λ x. P x.state) Q (λ x r k w. keep x.state r k w) _ _ (sofar s []) h all

  pub concluded_keeps : (room : ℕ) (head : List ℕ) (way : Way (Sofar S F)) → P (reached way).state → P (concluded doing.bytes room head way).state
  concluded_keeps room head way h = subst P (sym (state_concluded room doing.bytes head way)) h

  pub performed_keeps : (s : S) (room : ℕ) (head : List ℕ) → P s → P (performed doing rs s room head).state
  unfolding performed
  performed_keeps s room head h =
      let fine : List F → Bool = fits doing.bytes room (length head) in
      concluded_keeps room head (pass doing fine rs s) (pass_keeps fine s h)

-- ---- where nothing stops a pass, its state is what the records leave, one after the other

abbrev pub folded : {S R F : Type 0} → Doing S R F → S → List R → S
folded doing s [] = s
folded doing s (r ∷ rs) = folded doing (doing.does s r).state rs

pub folded_append : {S R F : Type 0} (doing : Doing S R F) (a b : List R) (s : S) → folded doing s (a ++ b) ≡ folded doing (folded doing s a) b
folded_append doing [] b s = refl
folded_append doing (r ∷ a) b s = folded_append doing a b (doing.does s r).state

abbrev pub Unstopped : {S : Type 0} → Way S → Type 0
Unstopped (through x) = Unit {0}
Unstopped (broken x) = Unit {0}
Unstopped (stopped x y) = ⊥

module _ {S R F : Type 0} (doing : Doing S R F) (fine : List F → Bool) where
  abbrev goes : Sofar S F → Ending → List R → Way (Sofar S F)
  goes x e rs = walk (done_with doing) (λ y. fine y.failures) x e rs

  pub walk_folded : (e : Ending) (rs : List R) (x : Sofar S F) → Unstopped (goes x e rs) → (reached (goes x e rs)).state ≡ folded doing x.state rs
  unfolding walk done_with
  walk_folded done [] x u = refl
  walk_folded cut [] x u = refl
  walk_folded e (r ∷ rs) x u = go (fine (done_with doing x r).failures) u (λ v. walk_folded e rs (done_with doing x r) v)
    where
      go : (b : Bool) → Unstopped (cond b (goes (done_with doing x r) e rs) (stopped x (done_with doing x r)))
          → (Unstopped (goes (done_with doing x r) e rs) → (reached (goes (done_with doing x r) e rs)).state ≡ folded doing (doing.does x.state r).state rs)
          → (reached (cond b (goes (done_with doing x r) e rs) (stopped x (done_with doing x r)))).state ≡ folded doing (doing.does x.state r).state rs
      go true u rec = rec u
      go false u rec = absurd u

-- only a stop, or a reply that does not fit, is 5
pub not_five : {S F : Type 0} (bytes : F → List ℕ) (room : ℕ) (head : List ℕ) (way : Way (Sofar S F)) → ((concluded bytes room head way).number ≡ 5 → ⊥) → Unstopped way
unfolding concluded
not_five bytes room head (through x) n = tt
not_five bytes room head (broken x) n = tt
not_five bytes room head (stopped x y) n = n refl

-- A COMMAND THAT IS NOT REFUSED BY 5 leaves what its records leave, one after the other: behind a head, and with its header
pub performed_folds : {S R F : Type 0} (doing : Doing S R F) (rs : Records R) (s : S) (room : ℕ) (head : List ℕ)
    → ((performed doing rs s room head).number ≡ 5 → ⊥) → (performed doing rs s room head).state ≡ folded doing s rs.list
unfolding performed pass_from
performed_folds doing rs s room head n =
    let way = pass doing (fits doing.bytes room (length head)) rs s in
    state_concluded room doing.bytes head way
    ∙ walk_folded doing (fits doing.bytes room (length head)) rs.ending rs.list (sofar s []) (not_five doing.bytes room head way n)

pub performed_folded : {S R F : Type 0} (doing : Doing S R F) (rs : Records R) (request : ZclHeader) (command : CommandIdentifier) (s : S) (room : ℕ)
    → ((headed request command s room (performed doing rs s room)).number ≡ 5 → ⊥) → (headed request command s room (performed doing rs s room)).state ≡ folded doing s rs.list
unfolding headed
performed_folded doing rs request command s room n = go (leb (length (reply_head request command)) room) n
  where
    go : (b : Bool) → ((cond b (performed doing rs s room (reply_head request command)) (refused room ReplyTooLong s)).number ≡ 5 → ⊥)
        → (cond b (performed doing rs s room (reply_head request command)) (refused room ReplyTooLong s)).state ≡ folded doing s rs.list
    go true n = performed_folds doing rs s room (reply_head request command) n
    go false n = absurd (n refl)
