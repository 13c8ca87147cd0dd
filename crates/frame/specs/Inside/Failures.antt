-- Inside. What functions that list failures say of the reply buffer, which holds a head and the failures so far; nothing that a caller must believe.
use Rattle.std.specs.Prelude.{ℕ, cond, List, [], ◌∷◌, length, eqb, Err, None, Ok, Option, Result, Some}
use Rattle.frame.specs.declared.status.Status.{Status}
use Rattle.frame.specs.declared.status.Status.TheVariants.{Success}
use Rattle.frame.specs.declared.answer.Refusal.{Refusal}
use Rattle.frame.specs.declared.answer.Refusal.TheVariants.{RecordCut, ReplyTooLong}
use Rattle.frame.specs.declared.failures.Unfinished.{Unfinished}
use Rattle.frame.specs.Status.{status_code}
use Rattle.frame.specs.Inside.Buffer.{Putting, putting, put}
use Rattle.frame.specs.Answer.{Outcome, no_state, seen, refused}

-- a failure is put behind those listed so far; a success leaves the buffer
unfoldable pub noting : List ℕ → ℕ → Status → List ℕ → Putting
noting d at status bytes = cond (eqb (status_code status) 0) (putting (Some at) d) (put d at bytes)

-- the buffer up to a place, or 5
abbrev pub sent : Option ℕ → List ℕ → Outcome (Unit {0})
sent (Some n) d = seen (Ok n) d no_state
sent None d = refused (length d) ReplyTooLong no_state

-- why a pass did not come to the records' end, as a refusal
abbrev pub refusal_of : Unfinished → Refusal
refusal_of Unfinished.Cut = RecordCut
refusal_of Unfinished.Full = ReplyTooLong

-- the answer to a pass, behind a head that ends at `start`: the failures stand in the buffer, or one 00 is put if none does
unfoldable pub concluded_at : List ℕ → ℕ → Result ℕ Unfinished → Outcome (Unit {0})
concluded_at d start (Ok out) =
    let one : Putting = put d out (status_code Success ∷ []) in
    cond (eqb out start) (sent one.answer one.buffer) (seen (Ok out) d no_state)
concluded_at d start (Err why) = refused (length d) (refusal_of why) no_state
