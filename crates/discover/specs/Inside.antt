-- Inside. What inner functions say; nothing that a caller must believe.
use Rattle.std.specs.Prelude.{ℕ, ◌≤◌, ◌<◌, List, ◌∷◌, ◌++◌, length, take, None, Option, Some}
use Rattle.frame.specs.Inside.Buffer.{Shows}
use Rattle.frame.specs.Encoded.{encode_all}
use Rattle.store.specs.declared.lookup.Attribute.{Attribute}
use Rattle.store.specs.Contents.{attributes_of}
use Rattle.discover.specs.declared.attributes.Listing.{Listing}
use Rattle.discover.specs.declared.attributes.Listing.TheVariants.{All, Part}
use Rattle.discover.specs.Discover.{encode, at_or_after, complete_byte, discovered_all}

-- the bytes of attributes' records
abbrev pub records_of : List Attribute → List ℕ
records_of attributes = encode_all encode (discovered_all attributes)

-- a buffer of this room came to show these bytes, or they are longer than the room
abbrev pub Fills : List ℕ → ℕ → Option ℕ → List ℕ → Type 0
Fills shown room (Some o) after = Shows after o shown
Fills shown room None after = room < length shown

-- a buffer of this room came to show these bytes, with no more than `wanted` of `all` to list or with more; or they are longer than
-- the room
abbrev pub Scanned : List Attribute → ℕ → List ℕ → ℕ → Option Listing → List ℕ → Type 0
Scanned all wanted shown room (Some (All o)) after = Shows after o shown × (length all ≤ wanted)
Scanned all wanted shown room (Some (Part o)) after = Shows after o shown × (wanted < length all)
Scanned all wanted shown room None after = room < length shown

-- the records of so many of these attributes were put, behind whatever the buffer showed
abbrev pub Puts : List Attribute → ℕ → List ℕ → ℕ → Option Listing → List ℕ → Type 0
Puts all wanted d from r after = (before : List ℕ) → Shows d from before → Scanned all wanted (before ++ records_of (take wanted all)) (length d) r after

-- of those at or after a name
abbrev pub Ends : List ℕ → ℕ → ℕ → List ℕ → ℕ → Option Listing → List ℕ → Type 0
Ends s start wanted d from r after = Puts (at_or_after start (attributes_of 8 s)) wanted d from r after

-- the complete byte, and the records of so many of these attributes
abbrev pub list_of : List Attribute → ℕ → List ℕ
list_of all wanted = complete_byte all (take wanted all) ∷ records_of (take wanted all)

-- so many attributes at or after a name were listed, behind whatever the buffer showed
abbrev pub Lists : List ℕ → ℕ → ℕ → List ℕ → ℕ → Option ℕ → List ℕ → Type 0
Lists s start wanted d from r after =
    (before : List ℕ) → Shows d from before → Fills (before ++ list_of (at_or_after start (attributes_of 8 s)) wanted) (length d) r after
