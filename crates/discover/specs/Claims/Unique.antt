-- Claims. No second answer fits a contract: at the same entry values there is one answer and one reply buffer.
use Rattle.std.specs.Prelude.{◌≡◌, List, length, ℕ, Result}
use Rattle.frame.specs.declared.answer.Refusal.{Refusal}
use Rattle.frame.specs.declared.header.ZclHeader.{ZclHeader}
use Rattle.frame.specs.Answer.{no_state, seen}
use Rattle.discover.specs.Discover.{discover_of}

-- src/attributes.rt
abbrev pub DiscoverAttributesOnce : Type 0
DiscoverAttributesOnce =
    (store : List ℕ) (request : ZclHeader) (body reply : List ℕ) (r q : Result ℕ Refusal) (x y : List ℕ)
    → seen r x no_state ≡ discover_of 8 store request body (length reply)
    → seen q y no_state ≡ discover_of 8 store request body (length reply)
    → (r ≡ q) × (x ≡ y)
