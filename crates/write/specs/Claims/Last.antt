-- Claims. What records of which none fails leave in a store, one after the other: each attribute the value of the last record that names it (document 02,
-- request 10).
use Rattle.std.specs.Prelude.{◌≡◌, ℕ, ◌≤◌, true, cond, List, [], ◌∷◌, take, eqb, Some}
use Rattle.frame.specs.declared.header.ZclHeader.{ZclHeader}
use Rattle.store.specs.declared.lookup.Attribute.{Attribute}
use Rattle.store.specs.Contents.{name_of, find_of}
use Rattle.store.specs.Layout.{bodies_at, is_store}
use Rattle.store.specs.Value.{value_of}
use Rattle.write.specs.Request.{WriteRecord, records}
use Rattle.write.specs.Write.{written_all}
use Rattle.write.specs.Claims.Undivided.{failing}

-- the attribute that a record of a request names
abbrev pub naming : ZclHeader → WriteRecord → ℕ
naming request r = name_of request.manufacturer_code.0 r.id

-- THE VALUE OF THE LAST RECORD NAMING an attribute, of an attribute with the value v; it keeps v where no record names it
unfoldable pub last_value : ZclHeader → ℕ → List WriteRecord → List ℕ → List ℕ
last_value request name [] v = v
last_value request name (r ∷ rs) v = last_value request name rs (cond (eqb (naming request r) name) r.value v)

-- what the records rs leave of a store s: every attribute has the value that the last of them naming it has, and the contents stay, every byte
pub record Left (form : ℕ) (request : ZclHeader) (rs : List WriteRecord) (s t : List ℕ) : Type 0 where
  pub values : (name : ℕ) (a : Attribute) → find_of form s name ≡ Some a → value_of t a ≡ last_value request name rs (value_of s a)
  pub contents : take (bodies_at form s) t ≡ take (bodies_at form s) s

-- so do the records of a body, written to a store, where none of them fails over it
abbrev pub RecordsLeave : Type 0
RecordsLeave =
    (form : ℕ) (request : ZclHeader) (s body : List ℕ)
    → 8 ≤ form
    → is_store form s ≡ true
    → failing form request s (records body).list ≡ []
    → Left form request (records body).list s (written_all form request body s)
