-- The record for an id, by what was found. Assumes nothing.
use Rattle.std.specs.Prelude.{None, Some}
use mathlib.Core.Path.{◌≡◌, ap}
use mathlib.Core.Bool.{Bool, cond}
use mathlib.Core.List.{List}
use Prim.Native.Nat.{ℕ}
use Rattle.frame.specs.declared.header.ZclHeader.{ZclHeader}
use Rattle.frame.specs.declared.status.Status.TheVariants.{UnsupportedAttribute, InsufficientSpace}
use Rattle.frame.specs.Status.{status_code}
use Rattle.store.specs.declared.lookup.Attribute.{Attribute}
use Rattle.store.specs.Contents.{name_of, find_of}
use Rattle.store.specs.Value.{value_of}
use Rattle.read.specs.Read.{ReadRecord, value, failure, record_by, record_for}

module _ (s : List ℕ) (request : ZclHeader) (id : ℕ) where
  -- nothing: id and 86
  pub made_nothing : find_of 8 s (name_of request.manufacturer_code.0 id) ≡ None → (fit : ReadRecord → Bool)
      → record_for 8 s request fit id ≡ failure id (status_code UnsupportedAttribute)
  unfolding record_for record_by
  made_nothing found fit = ap (record_by s fit id) found

  -- an attribute: id, 00, type and value, or id and 89 where that does not fit
  pub made_value : (a : Attribute) → find_of 8 s (name_of request.manufacturer_code.0 id) ≡ Some a → (fit : ReadRecord → Bool)
      → record_for 8 s request fit id
      ≡ cond (fit (value id a.type_id.0 (value_of s a))) (value id a.type_id.0 (value_of s a)) (failure id (status_code InsufficientSpace))
  unfolding record_for record_by
  made_value a found fit = ap (record_by s fit id) found
