-- Inside. What functions that put bytes into the reply buffer say of it; nothing that a caller must believe.
use Rattle.std.specs.Prelude.{◌≡◌, ℕ, ◌+◌, ◌≤◌, cond, true, false, List, ◌++◌, length, leb, None, Option, Some}
use Rattle.std.proofs.lemmas.List.Edits.{sets}
use Rattle.frame.specs.Reply.{padded}
use Rattle.frame.specs.Encoded.{encode_all, fits}

-- ---- bytes put into it

-- what a put leaves: its answer, and the buffer
pub record Putting : Type 0 where
  pub answer : Option ℕ
  pub buffer : List ℕ

abbrev pub putting : Option ℕ → List ℕ → Putting
putting r d = record { answer = r; buffer = d }

-- bytes put at `at`: what does not fit changes nothing
unfoldable pub put : List ℕ → ℕ → List ℕ → Putting
put d at bytes = cond (leb (at + length bytes) (length d)) (putting (Some (at + length bytes)) (sets d at bytes)) (putting None d)

-- the buffer is `out` and then zeros, and the next byte goes to `at`
pub record Shows (d : List ℕ) (at : ℕ) (out : List ℕ) : Type 0 where
  pub place : at ≡ length out
  pub within : at ≤ length d
  pub bytes : d ≡ padded (length d) out

-- ---- records put into it

-- these records fit the room, and the buffer shows them behind the head
pub record Longer {R : Type 0} (encode : R → List ℕ) (head : List ℕ) (rs : List R) (room o : ℕ) (after : List ℕ) : Type 0 where
  pub shows : Shows after o (head ++ encode_all encode rs)
  pub same : length after ≡ room
  pub fit : fits encode room (length head) rs ≡ true

-- these records do not fit the room, and the buffer is as it was
pub record Stays {R : Type 0} (encode : R → List ℕ) (head : List ℕ) (rs : List R) (room : ℕ) (d after : List ℕ) : Type 0 where
  pub unfit : fits encode room (length head) rs ≡ false
  pub same : after ≡ d

-- the one or the other, by the answer of a put
abbrev pub Ways : {R : Type 0} → (R → List ℕ) → List ℕ → List R → ℕ → List ℕ → Option ℕ → List ℕ → Type 0
Ways encode head rs room d (Some o) after = Longer encode head rs room o after
Ways encode head rs room d None after = Stays encode head rs room d after
