-- Claims. Which trouble counts (document 01, "What a call says back": "Within records the first trouble met counts"; beside 4 "earlier records stay
-- done", beside 5 "records up to there stay done"), of every command that lists its failures, over its state, its record and its failure.
use Rattle.std.specs.Prelude.{◌≡◌, ℕ, ◌≤◌, length}
use Rattle.frame.specs.declared.header.ZclHeader.{ZclHeader}
use Rattle.frame.specs.declared.command_identifier.CommandIdentifier.{CommandIdentifier}
use Rattle.frame.specs.declared.answer.Refusal.TheVariants.{RecordCut, ReplyTooLong}
use Rattle.frame.specs.Answer.{Outcome, refused}
use Rattle.frame.specs.Walk.{done, cut, Records, ended, behind, joined}
use Rattle.frame.specs.Failures.{Doing, performed, headed}

-- the whole command: its header, and every record done behind it
abbrev pub executed : {S R F : Type 0} → Doing S R F → ZclHeader → CommandIdentifier → S → Records R → ℕ → Outcome S
executed doing request command s rs room = headed request command s room (performed doing rs s room)

abbrev pub Is5 : {S : Type 0} → Outcome S → Type 0
Is5 o = o.number ≡ 5

abbrev pub Not5 : {S : Type 0} → Outcome S → Type 0
Not5 o = Is5 o → ⊥

-- a body of one record
abbrev pub single : {R : Type 0} → R → Records R
single r = behind r (ended done)

-- what is claimed of a command, whatever request it answers and whatever state it meets
abbrev pub OfCommand : {S R F : Type 0} → Doing S R F → ((Records R → ℕ → Outcome S) → Type 0) → Type 0
OfCommand {S} doing P = (request : ZclHeader) (command : CommandIdentifier) (s : S) → P (executed doing request command s)

-- ---- 4: records that can all be read, and behind them one that cannot

-- where those before it are not refused by 5, the answer is 4, and they stay done: the state is the one that they alone leave
abbrev pub CutIsFour : {S R F : Type 0} → Doing S R F → Type 0
CutIsFour {S} {R} doing =
    OfCommand doing
    (λ answer.
    (a : Records R) (room : ℕ)
    → a.ending ≡ done
    → Not5 (answer a room)
    → answer (joined a (ended cut)) room ≡ refused room RecordCut (answer a room).state)

-- ---- 5, with room for the header and one byte at least

-- what follows makes no difference, also where it cannot be read: the same answer, and the same state
abbrev pub FiveStays : {S R F : Type 0} → Doing S R F → Type 0
FiveStays {S} {R} doing =
    OfCommand doing
    (λ answer. (a b : Records R) (room : ℕ) → a.ending ≡ done → 4 ≤ room → Is5 (answer a room) → answer (joined a b) room ≡ answer a room)

-- the record that did not fit is done too: where those before it are not refused by 5, the state is the one that they and it leave in any room in which they are not
-- refused by 5
abbrev pub FiveDone : {S R F : Type 0} → Doing S R F → Type 0
FiveDone {S} {R} doing =
    OfCommand doing
    (λ answer.
    (a : Records R) (r : R) (room more : ℕ)
    → a.ending ≡ done
    → Not5 (answer a room)
    → Not5 (answer (joined a (single r)) more)
    → (answer (joined a (single r)) room).state ≡ (answer (joined a (single r)) more).state)

-- and there is such a record wherever the answer is 5
pub record MetAt {S R : Type 0} (answer : Records R → ℕ → Outcome S) (rs : Records R) (room : ℕ) : Type 0 where
  pub earlier : Records R
  pub met : R
  pub rest : Records R
  pub whole : rs ≡ joined earlier (behind met rest)
  pub readable : earlier.ending ≡ done
  pub not_before : Not5 (answer earlier room)
  pub here : Is5 (answer (joined earlier (single met)) room)

abbrev pub FiveIsMet : {S R F : Type 0} → Doing S R F → Type 0
FiveIsMet {S} {R} doing = OfCommand doing (λ answer. (rs : Records R) (room : ℕ) → 4 ≤ room → Is5 (answer rs room) → MetAt answer rs room)

-- ---- room for the header alone, and records of which none fails: in some other room they are answered by one byte behind the header, where a failure has more

abbrev pub NoneFails : {S : Type 0} → Outcome S → Type 0
NoneFails o = (o.number ≡ 0) × (o.size ≡ 4)

abbrev pub LongFailures : {S R F : Type 0} → Doing S R F → Type 0
LongFailures {F = F} doing = (f : F) → 2 ≤ length (doing.bytes f)

-- their 00 does not fit, so that they are refused by 5, all done
abbrev pub FiveAtHeader : {S R F : Type 0} → Doing S R F → Type 0
FiveAtHeader {S} {R} doing =
    LongFailures doing
    → OfCommand doing
    (λ answer. (a : Records R) (more : ℕ) → a.ending ≡ done → NoneFails (answer a more) → answer a 3 ≡ refused 3 ReplyTooLong (answer a more).state)

-- but a record behind them that cannot be read is met before: 4
abbrev pub CutIsFourAtHeader : {S R F : Type 0} → Doing S R F → Type 0
CutIsFourAtHeader {S} {R} doing =
    LongFailures doing
    → OfCommand doing
    (λ answer.
    (a : Records R) (more : ℕ) → a.ending ≡ done → NoneFails (answer a more) → answer (joined a (ended cut)) 3 ≡ refused 3 RecordCut (answer a more).state)
