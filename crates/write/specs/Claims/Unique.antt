-- Claims. No second answer fits a contract: at the same entry values there is one answer, one reply buffer and one store.
use Rattle.std.specs.Prelude.{◌≡◌, List, length, ℕ, Result}
use Rattle.frame.specs.declared.answer.Refusal.{Refusal}
use Rattle.frame.specs.declared.header.ZclHeader.{ZclHeader}
use Rattle.frame.specs.Answer.{seen}
use Rattle.write.specs.Write.{write_attributes, write_undivided, write_silently}

-- src/attributes.rt
abbrev pub WriteAttributesOnce : Type 0
WriteAttributesOnce =
    (store : List ℕ) (request : ZclHeader) (body reply : List ℕ) (r q : Result ℕ Refusal) (x y s u : List ℕ)
    → seen r x s ≡ write_attributes 8 store request body (length reply)
    → seen q y u ≡ write_attributes 8 store request body (length reply)
    → (r ≡ q) × ((x ≡ y) × (s ≡ u))

abbrev pub WriteAttributesUndividedOnce : Type 0
WriteAttributesUndividedOnce =
    (store : List ℕ) (request : ZclHeader) (body reply : List ℕ) (r q : Result ℕ Refusal) (x y s u : List ℕ)
    → seen r x s ≡ write_undivided 8 store request body (length reply)
    → seen q y u ≡ write_undivided 8 store request body (length reply)
    → (r ≡ q) × ((x ≡ y) × (s ≡ u))

abbrev pub WriteAttributesNoResponseOnce : Type 0
WriteAttributesNoResponseOnce =
    (store : List ℕ) (request : ZclHeader) (body reply : List ℕ) (r q : Result ℕ Refusal) (x y s u : List ℕ)
    → seen r x s ≡ write_silently 8 store request body (length reply)
    → seen q y u ≡ write_silently 8 store request body (length reply)
    → (r ≡ q) × ((x ≡ y) × (s ≡ u))
