-- What the loops over the slots hold so far, and the tests before them. Assumes nothing.
use Prim.Native.Nat.{ℕ, zero, suc, ◌+◌, ◌-◌, ◌*◌, ◌≤◌, ◌<◌}
use mathlib.Core.Path.{◌≡◌, refl, ap, sym, ◌∙◌, subst}
use mathlib.Core.Bool.{Bool, true, false, cond, ◌&&◌, and-true, and-false}
use mathlib.Core.List.{List, [], ◌∷◌, ◌++◌, map, map-map, append_assoc, append-nil}
use native.Mathlib.Omega.{arith}
use native.Mathlib.Nat.{sub-zero, mul_comm}
use native.Mathlib.Numerals.{add-one}
use lib.ListN.{length, get_or, take, drop, set, length-set, length-map, length-replicate}
use Rattle.std.specs.List.{range_with_len}
use Rattle.std.proofs.lemmas.List.FromFn.{map-range_with_len_more}
use lib.Seq.{sets, length-sets, drop-drop, take-suc, take-suc-set, length-take-le}
use borrow.Author.Tests.{eq-eqb, ne_eqb, le-leb, lt-leb}
use Rattle.types.specs.Number.{all_zero, zeros}
use Rattle.frame.specs.Reply.{padded}
use Rattle.frame.proofs.Buffer.{sets_padded}
use Rattle.reporting.specs.declared.entry.Entry.{Entry}
use Rattle.reporting.specs.declared.table.ReportingTable.{ReportingTable}
use Rattle.reporting.specs.Table.{capacity, Table, holding, table_of}
use Rattle.reporting.specs.Carried.{widths, total, laid, numbers_in, rows_laid, rows_in, numbers_of, entry_of, are_slots, count_in, slots_in, table_in, table_bytes, is_table, quieted, Reading, table_read, read_t, written, write_t, slot_bytes, table_length}
use Rattle.reporting.specs.Claims.RoundTrip.{Clean, AllClean}
use Rattle.reporting.proofs.Slots.{is-table}
use Rattle.reporting.proofs.Carriage.{length_laid, length_rows}
use Rattle.reporting.proofs.CarriageTable.{the_conditions, quieted_snoc}

-- an empty table is all zeros
pub empty_bytes : table_bytes capacity [] ≡ zeros table_length
unfolding table_bytes padded rows_laid
empty_bytes = refl

pub empty_length : length (table_bytes capacity []) ≡ table_length
empty_length = ap length empty_bytes ∙ length-replicate {A = ℕ} table_length 0

-- ---- the slots, one after the other

-- of the rows from number i on, the first of which stands at `at`, one and the others; and none of none
module _ (ws bs : List ℕ) (count i at : ℕ) where
  pub rows_more : (next : ℕ) → i < count → at + total ws ≡ next → rows_in ws (count - i) (drop at bs) ≡ numbers_in ws (drop at bs) ∷ rows_in ws (count - (i + 1)) (drop next bs)
  unfolding rows_in
  rows_more next h p =
      let n : count - i ≡ suc (count - (i + 1)) = omega arith in
      ap (λ (k : ℕ). rows_in ws k (drop at bs)) n
      ∙ ap (λ (l : List ℕ). numbers_in ws (drop at bs) ∷ rows_in ws (count - (i + 1)) l) (drop-drop (total ws) at bs ∙ ap (λ (k : ℕ). drop k bs) p)

  pub rows_end : count ≤ i → rows_in ws (count - i) (drop at bs) ≡ []
  unfolding rows_in
  rows_end h =
      let n : count - i ≡ 0 = omega arith in
      ap (λ (k : ℕ). rows_in ws k (drop at bs)) n

-- the slots from the i-th on
abbrev pub slots_from : List ℕ → ℕ → ℕ → List (List ℕ)
slots_from bs count i = rows_in widths (count - i) (drop (1 + slot_bytes * i) bs)

pub slots_more : (bs : List ℕ) (count i : ℕ) → i < count → slots_from bs count i ≡ numbers_in widths (drop (1 + slot_bytes * i) bs) ∷ slots_from bs count (i + 1)
slots_more bs count i h = rows_more widths bs count i (1 + slot_bytes * i) (1 + slot_bytes * (i + 1)) h (omega arith)

pub slots_end : (bs : List ℕ) (count i : ℕ) → count ≤ i → slots_from bs count i ≡ []
slots_end bs count i h = rows_end widths bs count i (1 + slot_bytes * i) h

pub slots_start : (bs : List ℕ) (count : ℕ) → slots_from bs count 0 ≡ rows_in widths count (drop 1 bs)
slots_start bs count = ap (λ (k : ℕ). rows_in widths k (drop 1 bs)) (sub-zero count)

-- the numbers of the i-th slot
abbrev pub slot_in : List ℕ → ℕ → List ℕ
slot_in bs i = numbers_in widths (drop (1 + slot_bytes * i) bs)

-- behind one slot the next
next_slot : (bs : List ℕ) (i : ℕ) → drop (total widths) (drop (1 + slot_bytes * i) bs) ≡ drop (1 + slot_bytes * (i + 1)) bs
next_slot bs i =
    let p : 1 + slot_bytes * i + total widths ≡ 1 + slot_bytes * (i + 1) = omega arith in
    drop-drop (total widths) (1 + slot_bytes * i) bs ∙ ap (λ (k : ℕ). drop k bs) p

-- n slots from the i-th on, each looked at in its place
pub slots_placed : (bs : List ℕ) (n i : ℕ) → rows_in widths n (drop (1 + slot_bytes * i) bs) ≡ map (slot_in bs) (range_with_len i n)
unfolding rows_in
slots_placed bs zero i = refl
slots_placed bs (suc n) i = ap (λ (r : List (List ℕ)). slot_in bs i ∷ r) (ap (rows_in widths n) (next_slot bs i) ∙ slots_placed bs n (i + 1))

-- what is read after i slots: their entries stand in their places
abbrev pub ReadSoFar : List ℕ → List Entry → ℕ → Type 0
ReadSoFar bs es i = take i es ≡ map (λ j. entry_of (slot_in bs j)) (range_with_len 0 i)

module _ (bs : List ℕ) (es : List Entry) (i : ℕ) (s : ReadSoFar bs es i) where
  pub read_more : (e : Entry) → i < length es → e ≡ entry_of (slot_in bs i) → ReadSoFar bs (set es i e) (i + 1)
  read_more e h p =
      ap (λ (j : ℕ). take j (set es i e)) (add-one i)
      ∙ take-suc-set es i e h
      ∙ (λ j. s j ++ (p j ∷ []))
      ∙ sym (map-range_with_len_more (λ j. entry_of (slot_in bs j)) 0 i i (omega arith))

  -- all are read
  pub read_done : (count : ℕ) → i ≡ count → count ≤ capacity → ◌≡◌ {A = Reading} (record { known = true; table = table_of (record { entries = es; count = count }) }) (table_read true (map entry_of (rows_in widths count (drop 1 bs))))
  read_done count q small =
      let b : take count es ≡ map entry_of (rows_in widths count (drop 1 bs)) =
      subst (ReadSoFar bs es) q s ∙ sym (ap (map entry_of) (slots_placed bs count 0) ∙ map-map entry_of (slot_in bs) (range_with_len 0 count)) in
      ap (λ (x : Table). record { known = true; table = x }) (is-table (record { entries = es; count = count }) small ∙ ap holding b)

-- ---- the tests before

module _ (bs : List ℕ) where
  pub not_sized : (length bs ≡ table_length → ⊥) → false ≡ is_table capacity bs
  unfolding is_table
  not_sized h = sym (rw (ne_eqb (length bs) table_length h))

  module _ (n : length bs ≡ table_length) where
    pub not_counted : capacity < count_in bs → false ≡ is_table capacity bs
    unfolding is_table
    not_counted h = sym (rw (eq-eqb (length bs) table_length n, lt-leb (count_in bs) capacity h))

    module _ (k : count_in bs ≤ capacity) (z : Bool) (ez : z ≡ all_zero (drop (1 + slot_bytes * count_in bs) bs)) where
      -- the code's place of what lies behind the slots
      behind : all_zero (drop (1 + count_in bs * total widths) bs) ≡ z
      behind = ap (λ (p : ℕ). all_zero (drop (1 + p) bs)) (mul_comm (count_in bs) slot_bytes) ∙ sym ez

      so_far : is_table capacity bs ≡ (are_slots (slots_in bs) && z)
      unfolding is_table
      so_far = rw (eq-eqb (length bs) table_length n, le-leb (count_in bs) capacity k, behind)

      pub not_ended : z ≡ false → false ≡ is_table capacity bs
      not_ended f = sym (so_far ∙ ap (λ (b : Bool). are_slots (slots_in bs) && b) f ∙ and-false (are_slots (slots_in bs)))

      pub by_slots : z ≡ true → are_slots (rows_in widths (count_in bs) (drop 1 bs)) ≡ is_table capacity bs
      unfolding slots_in
      by_slots f = sym (so_far ∙ ap (λ (b : Bool). are_slots (slots_in bs) && b) f ∙ and-true (are_slots (slots_in bs)))

  -- how long a table is, and how many slots it has
  pub known_size : is_table capacity bs ≡ true → length bs ≡ table_length
  known_size f = (the_conditions capacity bs f).size

  pub known_count : is_table capacity bs ≡ true → count_in bs ≤ capacity
  known_count f = (the_conditions capacity bs f).count

  -- the table, by the test
  pub read_none : is_table capacity bs ≡ false → table_read false [] ≡ read_t capacity bs
  unfolding read_t
  read_none f = ap (λ (b : Bool). cond b (table_read true (table_in bs)) (table_read false [])) (sym f)

  pub read_all : is_table capacity bs ≡ true → table_read true (map entry_of (rows_in widths (count_in bs) (drop 1 bs))) ≡ read_t capacity bs
  unfolding read_t slots_in table_in
  read_all f = ap (λ (b : Bool). cond b (table_read true (table_in bs)) (table_read false [])) (sym f)

-- ---- writing the slots

pub rows_snoc : (ws : List ℕ) (rows : List (List ℕ)) (ns : List ℕ) → rows_laid ws (rows ++ (ns ∷ [])) ≡ rows_laid ws rows ++ laid ws ns
unfolding rows_laid
rows_snoc ws [] ns = append-nil (laid ws ns)
rows_snoc ws (r ∷ rows) ns = ap (λ (l : List ℕ). laid ws r ++ l) (rows_snoc ws rows ns) ∙ sym (append_assoc (laid ws r) (rows_laid ws rows) (laid ws ns))

pub map_snoc : (l : List Entry) (e : Entry) → map numbers_of (l ++ (e ∷ [])) ≡ map numbers_of l ++ (numbers_of e ∷ [])
map_snoc [] e = refl
map_snoc (x ∷ l) e = ap (λ (r : List (List ℕ)). numbers_of x ∷ r) (map_snoc l e)

rows_length : (es : List Entry) (i : ℕ) → i ≤ length es → length (rows_laid widths (map numbers_of (take i es))) ≡ i * slot_bytes
rows_length es i h =
    length_rows widths (map numbers_of (take i es))
    ∙ ap (λ (n : ℕ). n * total widths) (length-map (take i es) numbers_of ∙ length-take-le i es h)

-- the count and the first i slots, and zeros to the end
unfoldable pub filled : ℕ → ℕ → List Entry → ℕ → List ℕ
filled capacity count es i = padded capacity (count ∷ rows_laid widths (map numbers_of (take i es)))

pub cleared_length : (bs l : List ℕ) → length bs ≡ table_length → l ≡ zeros (length bs) → length l ≡ table_length
cleared_length bs l n z = ap length z ∙ length-replicate (length bs) 0 ∙ n

-- a count alone, in a buffer of zeros
pub count_first : (room count : ℕ) → 0 < room → set (zeros room) 0 count ≡ padded room (count ∷ [])
unfolding padded
count_first zero count h = absurd (omega arith)
count_first (suc room) count h =
    let e : room ≡ suc room - 1 = omega arith in
    ap (λ (n : ℕ). count ∷ zeros n) e

filled_none : (capacity count : ℕ) (es : List Entry) → 0 < capacity → set (zeros capacity) 0 count ≡ filled capacity count es 0
unfolding filled rows_laid
filled_none capacity count es h = count_first capacity count h

filled_more : (capacity count : ℕ) (es : List Entry) (i : ℕ) (d : Entry) → i < length es → 1 + slot_bytes * (i + 1) ≤ capacity
    → sets (filled capacity count es i) (1 + slot_bytes * i) (laid widths (numbers_of (get_or es i d))) ≡ filled capacity count es (i + 1)
unfolding filled
filled_more capacity count es i d h k =
    let rows : List (List ℕ) = map numbers_of (take i es) in
    let out : List ℕ = count ∷ rows_laid widths rows in
    let bytes : List ℕ = laid widths (numbers_of (get_or es i d)) in
    let b : length bytes ≡ slot_bytes = length_laid widths (numbers_of (get_or es i d)) in
    let r : length (rows_laid widths rows) ≡ i * slot_bytes = rows_length es i (omega arith) in
    let p : 1 + slot_bytes * i ≡ length out = omega arith in
    ap (λ (q : ℕ). sets (padded capacity out) q bytes) p
    ∙ sets_padded capacity out bytes (omega arith)
    ∙ ap (λ (l : List ℕ). padded capacity (count ∷ l)) (sym (rows_snoc widths rows (numbers_of (get_or es i d))))
    ∙ ap (λ (m : List (List ℕ)). padded capacity (count ∷ rows_laid widths m)) (sym (map_snoc (take i es) (get_or es i d)))
    ∙ ap (λ (l : List Entry). padded capacity (count ∷ rows_laid widths (map numbers_of l))) (sym (take-suc es i d h) ∙ ap (λ (j : ℕ). take j es) (sym (add-one i)))

-- a buffer that was cleared, with the count in it
pub filled_start : (count : ℕ) (es : List Entry) (bs l : List ℕ) → length bs ≡ table_length → l ≡ zeros (length bs) → (length (set l 0 count) ≡ table_length) × (set l 0 count ≡ filled table_length count es 0)
filled_start count es bs l n z = (
  length-set l 0 count ∙ cleared_length bs l n z,
  ap (λ (b : List ℕ). set b 0 count) (z ∙ ap zeros n) ∙ filled_none table_length count es (omega arith),
)

-- a turn
pub filled_turn : (count : ℕ) (es : List Entry) (i : ℕ) (d : Entry) (bs l : List ℕ) → length es ≡ capacity → i < capacity → length bs ≡ table_length → bs ≡ filled table_length count es i
    → l ≡ sets bs (1 + slot_bytes * i) (laid widths (numbers_of (get_or es i d))) → (length l ≡ table_length) × (l ≡ filled table_length count es (i + 1))
filled_turn count es i d bs l m h n e w = (
  ap length w ∙ length-sets bs (1 + slot_bytes * i) (laid widths (numbers_of (get_or es i d))) ∙ n,
  w
      ∙ ap (λ (b : List ℕ). sets b (1 + slot_bytes * i) (laid widths (numbers_of (get_or es i d)))) e
      ∙ filled_more table_length count es i d (omega arith) (omega arith),
)

-- the entries so far are within the widths
pub clean_turn : (es : List Entry) (i : ℕ) (d : Entry) → i < length es → AllClean (map quieted (take i es)) → Clean (quieted (get_or es i d)) → AllClean (map quieted (take (i + 1) es))
clean_turn es i d h a c =
    subst (λ (l : List Entry). AllClean (map quieted l)) (sym (take-suc es i d h) ∙ ap (λ (j : ℕ). take j es) (sym (add-one i)))
    (quieted_snoc (take i es) (get_or es i d) a c)

-- all slots are filled: the table's bytes
pub filled_all : (t : ReportingTable) (i : ℕ) → length t.entries ≡ capacity → t.count ≤ capacity → i ≤ t.count → t.count ≤ i → filled table_length t.count t.entries i ≡ table_bytes capacity (take t.count t.entries)
unfolding filled table_bytes
filled_all t i n k a b =
    let e : i ≡ t.count = omega arith in
    let m : t.count ≡ length (take t.count t.entries) = sym (length-take-le t.count t.entries (omega arith)) in
    ap (λ (j : ℕ). padded table_length (t.count ∷ rows_laid widths (map numbers_of (take j t.entries)))) e
    ∙ ap (λ (j : ℕ). padded table_length (j ∷ rows_laid widths (map numbers_of (take t.count t.entries)))) m

-- a table that is not written, and one that is
module _ (t : ReportingTable) (bs : List ℕ) where
  pub write_sized : (length bs ≡ table_length → ⊥) → written false bs ≡ write_t capacity t bs
  unfolding write_t
  write_sized h = sym (rw (ne_eqb (length bs) table_length h))

  module _ (n : length bs ≡ table_length) where
    pub write_counted : capacity < t.count → written false bs ≡ write_t capacity t bs
    unfolding write_t
    write_counted h = sym (rw (eq-eqb (length bs) table_length n, lt-leb t.count capacity h))

    pub write_done : (after : List ℕ) → t.count ≤ capacity → after ≡ table_bytes capacity (take t.count t.entries) → written true after ≡ write_t capacity t bs
    unfolding write_t
    write_done after h e =
        ap (λ (l : List ℕ). written true l) e
        ∙ sym (rw (eq-eqb (length bs) table_length n, le-leb t.count capacity h))
