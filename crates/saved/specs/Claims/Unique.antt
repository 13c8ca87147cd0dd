-- Claims. No second answer fits a contract: one claim for each public function, of two results and exit buffers that meet it at the same entry values.
use Rattle.std.specs.Prelude.{◌≡◌, List, ℕ, length, Result}
use Rattle.frame.specs.declared.answer.Refusal.{Refusal}
use Rattle.frame.specs.Answer.{seen, no_state}
use Rattle.saved.specs.Lent.{save_lent, restored, restore_lent}

-- src/restore.rt
abbrev pub RestoreOnce : Type 0
RestoreOnce =
    (table saved : List ℕ) (r q : Result (Unit {0}) Refusal) (x y : List ℕ)
    → restored r x ≡ restore_lent saved table
    → restored q y ≡ restore_lent saved table
    → (r ≡ q) × (x ≡ y)

-- src/save.rt
abbrev pub SaveOnce : Type 0
SaveOnce =
    (table saved : List ℕ) (r q : Result ℕ Refusal) (x y : List ℕ)
    → seen r x no_state ≡ save_lent table (length saved)
    → seen q y no_state ≡ save_lent table (length saved)
    → (r ≡ q) × (x ≡ y)
