-- Claims. Turns in the history of a reporting table.
use Rattle.std.specs.Prelude.{◌≡◌, ℕ, cond, List, [], ◌∷◌, eqb}
use Rattle.store.specs.declared.lookup.Attribute.{Attribute}
use Rattle.store.specs.Contents.{cluster_of}
use Rattle.reporting.specs.declared.entry.Entry.{Entry}
use Rattle.reporting.specs.Claims.Events.{Event, marked, after, Leads}
use Rattle.report.specs.Turn.{Turn, id_of, key_of, value_in}
use Rattle.report.specs.Claims.Turns.{frame_of, turned, given_back}

-- A turn, or any other event of the table. Every other call and request is its events (crate `reporting`, specs/Claims/Events.antt); what only
-- reads, or writes a store, is none.
pub data Happening : Type 0 where
  turn : Turn → Happening
  event : Event → Happening

-- the entries after one
abbrev pub leaves : ℕ → ℕ → Happening → List Entry → List Entry
leaves form limit (turn u) l = turned form u l
leaves form limit (event e) l = after limit e l

-- the entries after many
abbrev pub left_by : ℕ → ℕ → List Happening → List Entry → List Entry
left_by form limit [] l = l
left_by form limit (h ∷ hs) l = left_by form limit hs (leaves form limit h l)

-- a turn, and the entries that it met
pub record Met : Type 0 where
  pub turn : Turn
  pub entries : List Entry

-- the turns of a cluster, in their order
abbrev pub turns_of : ℕ → ℕ → ℕ → List Happening → List Entry → List Met
turns_of form limit cluster [] l = []
turns_of form limit cluster (turn u ∷ hs) l =
    cond (eqb (cluster_of u.store) cluster)
    (record { turn = u; entries = l } ∷ turns_of form limit cluster hs (turned form u l))
    (turns_of form limit cluster hs (turned form u l))
turns_of form limit cluster (event e ∷ hs) l = turns_of form limit cluster hs (after limit e l)

-- "each turn of the cluster is handed the id that its turn before gave back": the first of these was handed `last`
abbrev pub HandedFrom : ℕ → ℕ → List Met → Type 0
HandedFrom form last [] = Unit
HandedFrom form last (m ∷ ms) = (m.turn.last ≡ last) × HandedFrom form (given_back form m.turn m.entries) ms

-- the first of these was handed anything
abbrev pub Handed : ℕ → List Met → Type 0
Handed form [] = Unit
Handed form (m ∷ ms) = HandedFrom form (given_back form m.turn m.entries) ms

-- ---- a turn is its events

-- its marks; what it found due needs no event
abbrev pub marking : List ℕ → ℕ → List Attribute → List Event
marking s now [] = []
marking s now (a ∷ more) = marked (key_of (cluster_of s) (id_of a)) now (value_in s a) ∷ marking s now more

-- So demand 3 of attributes that are asked for holds with turns among the other calls.
abbrev pub TurnsAreEvents : Type 0
TurnsAreEvents = (form limit : ℕ) (u : Turn) (l : List Entry) → Leads limit (marking u.store u.now (frame_of form u l)) l (turned form u l)
