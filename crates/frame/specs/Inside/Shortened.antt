-- Inside. What functions say that list a record for each record of the request, as long as they fit; nothing that a caller must believe.
use Rattle.std.specs.Prelude.{◌≡◌, ℕ, List, [], ◌++◌, length, Option, Result}
use Rattle.frame.specs.declared.answer.Refusal.{Refusal}
use Rattle.frame.specs.Inside.Buffer.{Shows, Ways}
use Rattle.frame.specs.Answer.{no_state, seen}
use Rattle.frame.specs.Walk.{Item, records_from}
use Rattle.frame.specs.Encoded.{encode_all}
use Rattle.frame.specs.Shortened.{Making, with_record_for, shortened_from, shortened_reply}

-- one record of the request was done, whatever records the buffer showed before it, and behind whatever head
abbrev pub Turned : {Q R : Type 0} → (R → List ℕ) → Making Q R → Q → List ℕ → ℕ → Option ℕ → List ℕ → Type 0
Turned {Q} {R} encode making q d out r after =
    (head : List ℕ) (rs : List R) → Shows d out (head ++ encode_all encode rs) → Ways encode head (with_record_for encode making (length d) (length head) rs q) (length d) d r after

-- every record of a body of len bytes was done, behind whatever head the buffer showed
abbrev pub Walked : {Q R : Type 0} → (R → List ℕ) → Making Q R → (ℕ → Item Q) → ℕ → List ℕ → ℕ → Result ℕ Refusal → List ℕ → Type 0
Walked encode making next len d from r after =
    (head : List ℕ) → Shows d from head
    → seen r after no_state ≡ shortened_reply encode (length d) head (shortened_from encode making (length d) (length head) [] (records_from next len 0))
