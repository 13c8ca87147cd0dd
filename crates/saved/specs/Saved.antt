-- Definitions. The saved form of a reporting table (document 02, request 5), for flash: count (1 byte), then a contents list of key and offset from the start in
-- table order, then the bodies in that order, nothing after. Over the limit, and the widths of a key and of a body.
use Rattle.std.specs.Prelude.{ℕ, suc, ◌+◌, ◌*◌, Bool, true, false, cond, ◌&&◌, List, [], ◌∷◌, ◌++◌, map, length, get_or, drop, leb, eqb}
use Rattle.reporting.specs.declared.entry.Entry.{Entry}
use Rattle.reporting.specs.Entries.{distinct, fresh}
use Rattle.reporting.specs.declared.entry.Wish.{Wish}
use Rattle.reporting.specs.declared.entry.Wish.TheVariants.{ToClear, ToRefuse, ToSet}
use Rattle.reporting.specs.Wish.{wish}
use Rattle.reporting.specs.Carried.{total, if_marked, rows_laid, rows_in, count_in}

-- ---- the form

-- the widths of a key's numbers, and of a body's
pub record Form : Type 0 where
  pub keys : List ℕ
  pub bodies : List ℕ

-- cluster, attribute (2 each); minimum, maximum (2 each), change (8) and, in a form with marks, the mark (1)
abbrev pub form_of : Bool → Form
form_of marks = record { keys = 2 ∷ 2 ∷ []; bodies = cond marks (2 ∷ 2 ∷ 8 ∷ 1 ∷ []) (2 ∷ 2 ∷ 8 ∷ []) }

abbrev pub marked : Form
marked = form_of true

abbrev pub plain : Form
plain = form_of false

abbrev pub key_of : Entry → List ℕ
key_of e = e.key.cluster.0 ∷ e.key.attribute.0 ∷ []

abbrev pub body_of : Entry → List ℕ
body_of e = e.config.min_interval ∷ e.config.max_interval ∷ e.config.reportable_change ∷ if_marked e.config.unsigned 1 ∷ []

-- a row of the contents: the key, and an offset of two bytes
abbrev pub row_of : Form → List ℕ
row_of f = f.keys ++ (2 ∷ [])

-- the bytes of a row, and of a body
abbrev pub row_bytes : Form → ℕ
row_bytes f = total (row_of f)

abbrev pub body_bytes : Form → ℕ
body_bytes f = total f.bodies

-- where body i of n starts: behind the contents and the bodies before it
abbrev pub offset_at : Form → ℕ → ℕ → ℕ
offset_at f n i = 1 + n * row_bytes f + i * body_bytes f

abbrev pub saved_size : Form → ℕ → ℕ
saved_size f n = offset_at f n n

-- ---- written

-- the rows of the contents of n entries, from number i on
unfoldable pub contents_from : Form → ℕ → ℕ → List (List ℕ) → List (List ℕ)
contents_from f n i [] = []
contents_from f n i (k ∷ ks) = (k ++ (offset_at f n i ∷ [])) ∷ contents_from f n (suc i) ks

-- THE SAVED FORM of a table's entries
unfoldable pub saved_bytes : Form → List Entry → List ℕ
saved_bytes f l = length l ∷ (rows_laid (row_of f) (contents_from f (length l) 0 (map key_of l)) ++ rows_laid f.bodies (map body_of l))

-- "a maximum of ffff, 0 with minimum ffff, or nonzero below its minimum": what no record sets (reporting, Wish.antt)
abbrev pub is_set : Wish → Bool
is_set ToClear = false
is_set ToRefuse = false
is_set ToSet = true

unfoldable pub all_set : List Entry → Bool
all_set [] = true
all_set (e ∷ es) = is_set (wish e.config) && all_set es

-- a table that is written: "Keys repeated .. are not a saved form"
abbrev pub is_savable : List Entry → Bool
is_savable l = distinct l && all_set l

-- ---- read

abbrev pub rows_of : Form → List ℕ → List (List ℕ)
rows_of f bs = rows_in (row_of f) (count_in bs) (drop 1 bs)

abbrev pub bodies_of : Form → List ℕ → List (List ℕ)
bodies_of f bs = rows_in f.bodies (count_in bs) (drop (offset_at f (count_in bs) 0) bs)

-- an entry from a row and a body: not yet reported
abbrev pub entry_from : List ℕ → List ℕ → Entry
entry_from k b =
    fresh (record { cluster = record { 0 = get_or k 0 0 }; attribute = record { 0 = get_or k 1 0 } })
    (record { min_interval = get_or b 0 0; max_interval = get_or b 1 0; reportable_change = get_or b 2 0; unsigned = eqb (get_or b 3 0) 1 })

unfoldable pub entries_from : List (List ℕ) → List (List ℕ) → List Entry
entries_from [] bs = []
entries_from (k ∷ ks) [] = []
entries_from (k ∷ ks) (b ∷ bs) = entry_from k b ∷ entries_from ks bs

-- THE ENTRIES of a saved form
unfoldable pub saved_in : Form → List ℕ → List Entry
saved_in f bs = entries_from (rows_of f bs) (bodies_of f bs)

-- "offsets that do not follow on": the first body stands right behind the contents, each next one behind the one before it
unfoldable pub follow_on : Form → ℕ → ℕ → List (List ℕ) → Bool
follow_on f n i [] = true
follow_on f n i (r ∷ rs) = eqb (get_or r (length f.keys) 0) (offset_at f n i) && follow_on f n (suc i) rs

-- "13 for a mark other than 0 or 1"; a body without one has 0
unfoldable pub marks_ok : List (List ℕ) → Bool
marks_ok [] = true
marks_ok (b ∷ bs) = leb (get_or b 3 0) 1 && marks_ok bs

-- laid out as a form of up to `limit` entries, whatever they are: nothing before, between or behind
unfoldable pub is_laid : Form → ℕ → List ℕ → Bool
is_laid f limit bs =
    leb (count_in bs) limit && (eqb (length bs) (saved_size f (count_in bs)) && (follow_on f (count_in bs) 0 (rows_of f bs) && marks_ok (bodies_of f bs)))

-- WHETHER BYTES ARE A SAVED FORM of up to `limit` entries
unfoldable pub is_saved : Form → ℕ → List ℕ → Bool
is_saved f limit bs = is_laid f limit bs && is_savable (saved_in f bs)

-- "told by its length", with its count
abbrev pub form_in : List ℕ → Form
form_in bs = form_of (eqb (length bs) (saved_size marked (count_in bs)))
