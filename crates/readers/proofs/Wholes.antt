-- The value of an attribute of a store is a whole value of its type, as it is sent. Assumes nothing.
use Rattle.std.specs.Prelude.{Ok, Some}
use mathlib.Core.Path.{◌≡◌, sym, ap, ◌∙◌}
use mathlib.Core.Logic.{inl, inr}
use mathlib.Core.Bool.{true, cond}
use mathlib.Core.List.{List}
use Prim.Native.Nat.{ℕ, ◌+◌, ◌-◌, ◌≤◌}
use native.Mathlib.Omega.{arith}
use lib.ListN.{length, drop, length-drop}
use lib.Seq.{length-take-le, take-take}
use Rattle.types.specs.Number.{le, unsigned_at}
use Rattle.types.specs.Ids.{shape_of}
use Rattle.types.specs.Extent.{by_shape, series_at, structure_at, text, count_by, count, extent_of}
use Rattle.types.specs.declared.ids.Shape.{Shape}
use Rattle.types.specs.declared.ids.Shape.TheVariants.{Fixed, Text}
use Rattle.types.proofs.Extents.{upto_in, value_at_shape, fixed_value, text_from}
use Rattle.store.specs.declared.lookup.Attribute.{Attribute}
use Rattle.store.specs.Contents.{find_of}
use Rattle.store.specs.Layout.{text_by, is_text, text_length, is_store}
use Rattle.store.specs.Value.{used_of, value_of}
use Rattle.store.proofs.Contents.{found_in}
use Rattle.store.proofs.Placed.{Placed, placed}
use Rattle.store.proofs.Stored.{room_kinds, used_within}
use Rattle.readers.specs.Claims.Sendable.{Whole}

module _ (form : ℕ) (s : List ℕ) (a : Attribute) (p : Placed form s a) where
  -- all of its bytes are there
  value_length : length (value_of s a) ≡ used_of s a
  unfolding value_of
  value_length =
      let u : used_of s a ≤ a.room = used_within s a p.length-ok in
      let d : length (drop a.offset s) ≡ length s - a.offset = length-drop a.offset s in
      length-take-le (used_of s a) (drop a.offset s) (omega (arith, p.within))

  used_as : (f : Shape) → shape_of a.type_id.0 ≡ f → used_of s a ≡ cond (text_by f) (1 + text_length s a) a.room
  unfolding used_of is_text
  used_as f k = ap (λ (x : Shape). cond (text_by x) (1 + text_length s a) a.room) k

  fixed_whole : shape_of a.type_id.0 ≡ Fixed a.room → Whole a.type_id.0 (value_of s a)
  fixed_whole k =
      let n : length (value_of s a) ≡ a.room = value_length ∙ used_as (Fixed a.room) k in
      fixed_value 15 (value_of s a) a.type_id.0 a.room k 0 ∙ upto_in (value_of s a) 0 a.room (omega arith) ∙ ap Ok (omega arith)

  -- a string's length byte says as much of the value as of the store
  text_count : 1 ≤ used_of s a → text_length s a ≡ count 1 (value_of s a) 0
  unfolding count unsigned_at value_of
  text_count h = ap (λ (l : List ℕ). count_by 1 (le l)) (sym (take-take 1 (used_of s a) (drop a.offset s) h))

  by_text : (v : List ℕ) (t : ℕ) → shape_of t ≡ Text → text 1 v 0 ≡ extent_of v 0 t
  unfolding by_shape
  by_text v t k = sym (value_at_shape 15 v t 0 ∙ ap (λ (f : Shape). by_shape v 0 f (series_at 15 v 0) (structure_at 15 v 0)) k)

  text_whole : shape_of a.type_id.0 ≡ Text → Whole a.type_id.0 (value_of s a)
  text_whole k =
      let v : List ℕ = value_of s a in
      let m : ℕ = text_length s a in
      let u : used_of s a ≡ 1 + text_length s a = used_as Text k in
      let n : length (value_of s a) ≡ 1 + text_length s a = value_length ∙ u in
      let e : Ok (1 + m) ≡ text 1 v 0 =
      text_from 1 v 0 1 m (Ok (1 + m)) (upto_in v 0 1 (omega arith)) (text_count (omega arith)) (sym (upto_in v 1 m (omega arith))) in
      sym (by_text v a.type_id.0 k) ∙ sym e ∙ ap Ok (sym n)

  placed_whole : Whole a.type_id.0 (value_of s a)
  placed_whole = elim (room_kinds a p.room-ok).1 [ inl k ↦ text_whole k | inr k ↦ fixed_whole k ]

-- THE LAW
pub found_whole : (form : ℕ) (s : List ℕ) (name : ℕ) (a : Attribute) → is_store form s ≡ true → find_of form s name ≡ Some a
    → Whole a.type_id.0 (value_of s a)
found_whole form s name a h e = placed_whole form s a (placed form s a (found_in form s name a e) h)
