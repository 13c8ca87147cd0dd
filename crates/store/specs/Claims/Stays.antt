-- Claims. A store stays a store (document 01, "The store": its layout, "also after a write").
use Rattle.std.specs.Prelude.{ℕ, ◌≤◌, ◌≡◌, true, List, length, Ok}
use Rattle.types.specs.Extent.{extent_of}
use Rattle.store.specs.Contents.{attributes_of}
use Rattle.store.specs.Layout.{is_store}
use Rattle.store.specs.Write.{write_of}

-- t is a store like s: of the same length, with the same contents
pub record StoreLike (form : ℕ) (s t : List ℕ) : Type 0 where
  pub still : is_store form t ≡ true
  pub same_length : length t ≡ length s
  pub same_contents : attributes_of form t ≡ attributes_of form s

-- a write of a whole value, whatever its status, leaves a store like the one it met
abbrev pub WriteStays : Type 0
WriteStays =
    (form : ℕ) (s : List ℕ) (name t : ℕ) (v : List ℕ)
    → 8 ≤ form
    → is_store form s ≡ true
    → extent_of v 0 t ≡ Ok (length v)
    → StoreLike form s (write_of form s name t v).store
