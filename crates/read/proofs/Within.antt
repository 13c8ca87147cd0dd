-- What every reply to a read has: it fits its room, and its records are for the first ids of the request. Assumes nothing.
use Rattle.std.specs.Prelude.{None, Option, Some}
use mathlib.Core.Path.{◌≡◌, refl}
use mathlib.Core.Bool.{Bool, true, false, cond}
use mathlib.Core.List.{List, [], map}
use Prim.Native.Nat.{ℕ, ◌≤◌}
use Rattle.frame.specs.Status.{status_code}
use Rattle.frame.specs.Header.{reply_head}
use Rattle.frame.specs.Shortened.{shortened_from}
use Rattle.frame.specs.declared.header.ZclHeader.{ZclHeader}
use Rattle.frame.specs.declared.command_identifier.CommandIdentifier.TheVariants.{ReadAttributesResponse}
use Rattle.frame.specs.declared.status.Status.TheVariants.{InsufficientSpace}
use Rattle.frame.proofs.Shortened.{did, Prefix, shortened_within, shortened_prefix}
use Rattle.store.specs.declared.lookup.Attribute.{Attribute}
use Rattle.store.specs.Contents.{name_of, find_of}
use Rattle.store.specs.Value.{value_of}
use Rattle.read.specs.Read.{ReadRecord, value, failure, encode, ids_from, record_by, record_for, read_of}

abbrev pub id_of : ReadRecord → ℕ
id_of (value id t v) = id
id_of (failure id why) = id

-- a record is for the id that was asked
pub record_id : (s : List ℕ) (fit : ReadRecord → Bool) (id : ℕ) (f : Option Attribute) → id_of (record_by s fit id f) ≡ id
unfolding record_by
record_id s fit id None = refl
record_id s fit id (Some a) = go (fit (value id a.type_id.0 (value_of s a)))
  where
    go : (b : Bool) → id_of (cond b (value id a.type_id.0 (value_of s a)) (failure id (status_code InsufficientSpace))) ≡ id
    go true = refl
    go false = refl

module _ (form : ℕ) (s : List ℕ) (request : ZclHeader) where
  made_id : (fit : ReadRecord → Bool) (id : ℕ) → id_of (record_for form s request fit id) ≡ id
  unfolding record_for
  made_id fit id = record_id s fit id (find_of form s (name_of request.manufacturer_code.0 id))

  -- the reply is never longer than the room
  pub read_within : (body : List ℕ) (room : ℕ) → (read_of form s request body room).size ≤ room
  unfolding read_of
  read_within body room = shortened_within encode (record_for form s request) (reply_head request ReadAttributesResponse) (ids_from body 0) room

  -- the records are for the first ids of the request, in its order
  pub read_prefix : (room head : ℕ) (body : List ℕ) → Prefix (map id_of (did (shortened_from encode (record_for form s request) room head [] (ids_from body 0)))) (ids_from body 0).list
  read_prefix room head body = shortened_prefix encode (record_for form s request) id_of made_id room head (ids_from body 0)
