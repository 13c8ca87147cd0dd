-- Definitions. The reporting table as lent bytes: a count, then slots of numbers, each number in its width, the low byte first; zeros to the end.
-- Over the limit and the widths.
use Rattle.std.specs.Prelude.{None, ℕ, zero, suc, ◌+◌, ◌*◌, ◌^◌, Bool, true, false, cond, ◌&&◌, ◌||◌, List, [], ◌∷◌, ◌++◌, map, length, get_or, take, drop, leb, eqb, Option, Some}
use Rattle.types.specs.Number.{all_zero, le, bytes_of, signed_of, residue}
use Rattle.frame.specs.Reply.{padded}
use Rattle.reporting.specs.declared.entry.Entry.{Entry}
use Rattle.reporting.specs.declared.table.ReportingTable.{ReportingTable}
use Rattle.reporting.specs.declared.table.ReportingTable.{ReportingTable}
use Rattle.reporting.specs.Entries.{fresh}
use Rattle.reporting.specs.Table.{capacity, Table, holding, live, table_of}

-- ---- numbers in their widths

-- the bytes that numbers of these widths take
abbrev pub total : List ℕ → ℕ
total [] = 0
total (w ∷ ws) = w + total ws

-- numbers laid out one behind the other, each cut to its width; a number that is missing counts as 0
unfoldable pub laid : List ℕ → List ℕ → List ℕ
laid [] ns = []
laid (w ∷ ws) ns = bytes_of w (get_or ns 0 0) ++ laid ws (drop 1 ns)

-- the numbers that bytes hold in these widths
unfoldable pub numbers_in : List ℕ → List ℕ → List ℕ
numbers_in [] bs = []
numbers_in (w ∷ ws) bs = le (take w bs) ∷ numbers_in ws (drop w bs)

-- rows of numbers laid out one behind the other
unfoldable pub rows_laid : List ℕ → List (List ℕ) → List ℕ
rows_laid ws [] = []
rows_laid ws (ns ∷ rows) = laid ws ns ++ rows_laid ws rows

-- the first n rows that bytes hold
unfoldable pub rows_in : List ℕ → ℕ → List ℕ → List (List ℕ)
rows_in ws zero bs = []
rows_in ws (suc n) bs = numbers_in ws bs ∷ rows_in ws n (drop (total ws) bs)

-- ---- an entry as numbers

-- a slot: cluster, attribute, minimum, maximum, change, mark, reported flag, time, value
abbrev pub widths : List ℕ
widths = 2 ∷ 2 ∷ 2 ∷ 2 ∷ 8 ∷ 1 ∷ 1 ∷ 4 ∷ 8 ∷ []

-- what is told where there is something to tell, and else 0
abbrev pub if_marked : Bool → ℕ → ℕ
if_marked told n = cond told n 0

unfoldable pub numbers_of : Entry → List ℕ
numbers_of e =
    e.key.cluster.0
    ∷ e.key.attribute.0
    ∷ e.config.min_interval
    ∷ e.config.max_interval
    ∷ e.config.reportable_change
    ∷ if_marked e.config.unsigned 1
    ∷ if_marked e.marked 1
    ∷ if_marked e.marked e.last_time
    ∷ if_marked e.marked (residue (2 ^ 64) e.last_value)
    ∷ []

unfoldable pub entry_of : List ℕ → Entry
entry_of ns = record {
  key = record { cluster = record { 0 = get_or ns 0 0 }; attribute = record { 0 = get_or ns 1 0 } };
  config = record { min_interval = get_or ns 2 0; max_interval = get_or ns 3 0; reportable_change = get_or ns 4 0; unsigned = eqb (get_or ns 5 0) 1 };
  marked = eqb (get_or ns 6 0) 1;
  last_time = get_or ns 7 0;
  last_value = signed_of 8 (get_or ns 8 0);
}

-- a slot's numbers are in their one form: mark and flag are 0 or 1, and under flag 0 there is no time and no value
unfoldable pub is_slot : List ℕ → Bool
is_slot ns = leb (get_or ns 5 0) 1 && (leb (get_or ns 6 0) 1 && (eqb (get_or ns 6 0) 1 || (eqb (get_or ns 7 0) 0 && eqb (get_or ns 8 0) 0)))

-- ---- the table

-- how many bytes a slot has, and a table that holds up to `limit` entries
abbrev pub slot_bytes : ℕ
slot_bytes = total widths

abbrev pub table_size : ℕ → ℕ
table_size limit = 1 + limit * slot_bytes

-- the table's length, as the code has it
abbrev pub table_length : ℕ
table_length = table_size capacity

unfoldable pub table_bytes : ℕ → List Entry → List ℕ
table_bytes limit l = padded (table_size limit) (length l ∷ rows_laid widths (map numbers_of l))

-- the count, and the numbers of the slots below it
abbrev pub count_in : List ℕ → ℕ
count_in bs = get_or bs 0 0

unfoldable pub slots_in : List ℕ → List (List ℕ)
slots_in bs = rows_in widths (count_in bs) (drop 1 bs)

unfoldable pub table_in : List ℕ → List Entry
table_in bs = map entry_of (slots_in bs)

-- what bytes must be to be a table
abbrev pub size_ok : ℕ → List ℕ → Bool
size_ok limit bs = eqb (length bs) (table_size limit)

abbrev pub count_ok : ℕ → List ℕ → Bool
count_ok limit bs = leb (count_in bs) limit

unfoldable pub are_slots : List (List ℕ) → Bool
are_slots [] = true
are_slots (ns ∷ rows) = is_slot ns && are_slots rows

abbrev pub ends_in_zeros : List ℕ → Bool
ends_in_zeros bs = all_zero (drop (1 + count_in bs * slot_bytes) bs)

unfoldable pub is_table : ℕ → List ℕ → Bool
is_table limit bs = size_ok limit bs && (count_ok limit bs && (are_slots (slots_in bs) && ends_in_zeros bs))

-- an entry as its bytes tell it: under a flag of 0 they carry no time and no value
abbrev pub quieted : Entry → Entry
quieted e = cond e.marked e (fresh e.key e.config)

-- ---- what the code hands back

-- whether the bytes are a table, and the table
pub record Reading : Type 0 where
  pub known : Bool
  pub table : Table

abbrev pub table_read : Bool → List Entry → Reading
table_read known l = record { known = known; table = holding l }

abbrev pub reading : Option ReportingTable → Reading
reading (Some t) = record { known = true; table = table_of t }
reading None = table_read false []

-- the table that the bytes are; where they are none, the empty one
unfoldable pub read_t : ℕ → List ℕ → Reading
read_t limit bs = cond (is_table limit bs) (table_read true (table_in bs)) (table_read false [])

-- whether the table was written, and the bytes afterwards
pub record Written : Type 0 where
  pub done : Bool
  pub bytes : List ℕ

abbrev pub written : Bool → List ℕ → Written
written done bytes = record { done = done; bytes = bytes }

-- a table is written where the bytes have its size and its count is no more than the limit; else nothing changes
unfoldable pub write_t : ℕ → ReportingTable → List ℕ → Written
write_t limit t bs =
    cond (size_ok limit bs && leb t.count limit)
    (written true (table_bytes limit (live t)))
    (written false bs)
