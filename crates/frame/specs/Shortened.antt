-- Definitions. A reply that lists a record for each record of the request, as long as they fit (document 01, "Commands, step by step": Read, "Stop
-- without error at the first record whose three bytes do not fit; the rest of the request is not read"; Read configuration, "Stops at a record that
-- does not fit"). Over the request's record Q, the reply's record R, its bytes, and which record is made for which.
use Rattle.std.specs.Prelude.{ℕ, Bool, cond, List, [], ◌∷◌, ◌++◌, length, leb}
use Rattle.frame.specs.declared.answer.Refusal.TheVariants.{RecordCut, ReplyTooLong}
use Rattle.frame.specs.Answer.{Outcome, no_state, replied, refused}
use Rattle.frame.specs.Walk.{Records, Way, through, broken, stopped, walk_over}
use Rattle.frame.specs.Encoded.{encode_all, fits}

-- the record made for one of the request; it may ask whether a record fits behind those before it
abbrev pub Making : Type 0 → Type 0 → Type 0
Making Q R = (R → Bool) → Q → R

-- one record of the request, with these of the reply before it
unfoldable pub with_record_for : {Q R : Type 0} → (R → List ℕ) → Making Q R → ℕ → ℕ → List R → Q → List R
with_record_for encode making room head rs q = rs ++ (making (λ r. fits encode room head (rs ++ (r ∷ []))) q ∷ [])

-- the walk over records of the request, with these of the reply before it
unfoldable pub shortened_from : {Q R : Type 0} → (R → List ℕ) → Making Q R → ℕ → ℕ → List R → Records Q → Way (List R)
shortened_from encode making room head rs requests = walk_over (with_record_for encode making room head) (fits encode room head) rs requests

-- Stop without error at the first record that does not fit: the reply is without it, and the rest of the request is not read
unfoldable pub shortened_reply : {R : Type 0} → (R → List ℕ) → ℕ → List ℕ → Way (List R) → Outcome (Unit {0})
shortened_reply encode room head (through rs) = replied room (head ++ encode_all encode rs) no_state
shortened_reply encode room head (broken rs) = refused room RecordCut no_state
shortened_reply encode room head (stopped rs more) = replied room (head ++ encode_all encode rs) no_state

-- THE COMMAND: the header is written first
unfoldable pub shortened : {Q R : Type 0} → (R → List ℕ) → Making Q R → List ℕ → Records Q → ℕ → Outcome (Unit {0})
shortened encode making head requests room =
    cond (leb (length head) room)
    (shortened_reply encode room head (shortened_from encode making room (length head) [] requests))
    (refused room ReplyTooLong no_state)
