-- Inside. What functions say of a pass over the records that lists its failures; nothing that a caller must believe.
use Rattle.std.specs.Prelude.{◌≡◌, ℕ, List, ◌++◌, length, Err, Ok, Result}
use Rattle.frame.specs.declared.status.Status.{Status}
use Rattle.frame.specs.declared.answer.Refusal.{Refusal}
use Rattle.frame.specs.declared.failures.Unfinished.{Unfinished}
use Rattle.frame.specs.Inside.Buffer.{Shows}
use Rattle.frame.specs.Answer.{seen}
use Rattle.frame.specs.Walk.{Item, item, unread, Records, Way, through, broken, stopped}
use Rattle.frame.specs.Encoded.{encode_all, fits}
use Rattle.frame.specs.Failures.{did, Doing, Sofar, sofar, pass, performed}

-- ---- one record: it was read and done, or none could be read

pub record TookOne {S R F : Type 0} (doing : Doing S R F) (next : ℕ → Item R) (s : S) (at end : ℕ) (status : Status) (f : F) (t : S) : Type 0 where
  pub taken : R
  pub is : next at ≡ item taken end
  pub does : did status t ≡ doing.does s taken
  pub named : f ≡ doing.fails status taken

pub record TookNone {S R : Type 0} (next : ℕ → Item R) (s : S) (at : ℕ) (t : S) : Type 0 where
  pub is : next at ≡ unread
  pub same : t ≡ s

-- ---- a pass, behind a head that the buffer shows: all is done, with the failures in the buffer; or where it ended

pub record Listed {S F : Type 0} (bytes : F → List ℕ) (way : Way (Sofar S F)) (head : List ℕ) (out : ℕ) (s : S) (d : List ℕ) : Type 0 where
  pub failures : List F
  pub is : way ≡ through (sofar s failures)
  pub shows : Shows d out (head ++ encode_all bytes failures)

pub record Broken {S F : Type 0} (way : Way (Sofar S F)) (s : S) : Type 0 where
  pub failures : List F
  pub is : way ≡ broken (sofar s failures)

pub record Stopped {S F : Type 0} (way : Way (Sofar S F)) (s : S) : Type 0 where
  pub last : Sofar S F
  pub failures : List F
  pub is : way ≡ stopped last (sofar s failures)

abbrev pub Passes : {S F : Type 0} → (F → List ℕ) → Way (Sofar S F) → List ℕ → Result ℕ Unfinished → S → List ℕ → Type 0
Passes bytes way head (Ok out) s d = Listed bytes way head out s d
Passes bytes way head (Err Unfinished.Cut) s d = Broken way s
Passes bytes way head (Err Unfinished.Full) s d = Stopped way s

abbrev pub Passed : {S R F : Type 0} → Doing S R F → Records R → ℕ → S → List ℕ → Result ℕ Unfinished → S → List ℕ → Type 0
Passed doing rs start s d r t after =
    (head : List ℕ) → Shows d start head → Passes doing.bytes (pass doing (fits doing.bytes (length d) (length head)) rs s) head r t after

-- a pass and its answer
abbrev pub Performs : {S R F : Type 0} → Doing S R F → Records R → ℕ → S → List ℕ → Result ℕ Refusal → S → List ℕ → Type 0
Performs doing rs start s d r t after = (head : List ℕ) → Shows d start head → seen r after t ≡ performed doing rs s (length d) head
