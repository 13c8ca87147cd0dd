-- Claims. One report turn, told as three lists: what it found due, what is in its frame, and the entries afterwards. All claims about many turns speak of
-- these.
use Rattle.std.specs.Prelude.{◌≡◌, ℕ, Bool, true, cond, ◌&&◌, List, [], ◌∷◌, ◌++◌, length, leb, ltb, eqb, ℤ, pos}
use Rattle.types.specs.Number.{AllBytes}
use Rattle.frame.specs.Answer.{replied}
use Rattle.frame.specs.Encoded.{encode_all}
use Rattle.store.specs.declared.lookup.Attribute.{Attribute}
use Rattle.store.specs.Contents.{cluster_of, attributes_of, reportable}
use Rattle.store.specs.Layout.{is_store}
use Rattle.reporting.specs.declared.entry.Entry.{Entry}
use Rattle.reporting.specs.Due.{due_l}
use Rattle.reporting.specs.Table.{capacity}
use Rattle.reporting.specs.Carried.{table_in, is_table, table_bytes}
use Rattle.report.specs.Report.{report_head}
use Rattle.report.specs.Round.{keep, last_of}
use Rattle.report.specs.Turn.{Turn, id_of, key_of, value_in, record_in, due_of, written_of, mark_each, after_turn, turn_of}
use Rattle.report.specs.Claims.Words.{names, Row}

-- neither 7 nor 5 for the header
unfoldable pub begins : ℕ → Turn → Bool
begins form u = is_store form u.store && leb (length (report_head u.sequence)) u.room

-- FOUND DUE in a turn
abbrev pub found_in : ℕ → Turn → List Entry → List Attribute
found_in form u l = cond (begins form u) (due_of form u.store u.now l) []

-- IN ITS FRAME
abbrev pub frame_of : ℕ → Turn → List Entry → List Attribute
frame_of form u l = cond (begins form u) (written_of form u l) []

-- the id given back
abbrev pub given_back : ℕ → Turn → List Entry → ℕ
given_back form u l = last_of id_of u.last (frame_of form u l)

-- the entries afterwards
abbrev pub turned : ℕ → Turn → List Entry → List Entry
turned form u l = mark_each u.store u.now (frame_of form u l) l

-- What a turn over a table's bytes leaves is what these say.
abbrev pub TurnsAreLists : Type 0
TurnsAreLists =
    (form : ℕ) (u : Turn) (bs : List ℕ)
    → AllBytes bs
    → is_table capacity bs ≡ true
    → (turn_of form u bs).state ≡ after_turn (table_bytes capacity (turned form u (table_in bs))) (given_back form u (table_in bs))

-- What a turn sends is its frame: number 0 and these records, where the frame has one.
abbrev pub FramesAreSent : Type 0
FramesAreSent =
    (form : ℕ) (u : Turn) (bs : List ℕ) (a : Attribute) (more : List Attribute)
    → is_table capacity bs ≡ true
    → frame_of form u (table_in bs) ≡ a ∷ more
    → turn_of form u bs
    ≡ replied u.room (report_head u.sequence ++ encode_all (record_in u.store) (a ∷ more))
    (after_turn (table_bytes capacity (turned form u (table_in bs))) (given_back form u (table_in bs)))

-- ---- "the due entries in ascending id, an id once"

-- the number of the attribute of this id; no number counts as 0
abbrev pub value_at : List ℕ → ℕ → List Attribute → ℤ
value_at s id [] = pos 0
value_at s id (a ∷ more) = cond (eqb (id_of a) id) (value_in s a) (value_at s id more)

-- an id is found due exactly where its attribute is there and reportable and an ask for it is a yes
abbrev pub DueIs : Type 0
DueIs =
    (form : ℕ) (s : List ℕ) (now id : ℕ) (l : List Entry)
    → is_store form s ≡ true
    → names id_of id (due_of form s now l)
    ≡ (names id_of id (keep reportable (attributes_of form s)) && due_l (key_of (cluster_of s) id) now (value_at s id (attributes_of form s)) l)

-- each id is below those behind it
abbrev pub DueAscend : Type 0
DueAscend = (form : ℕ) (s : List ℕ) (now : ℕ) (l : List Entry) → is_store form s ≡ true → Row id_of ltb (due_of form s now l)
