-- The table as bytes: one table, one form. Over the limit; of the widths and of an entry's numbers only their laws are used.
-- Assumes nothing.
use Prim.Native.Nat.{ℕ, zero, suc, ◌+◌, ◌-◌, ◌*◌, ◌≤◌, ◌<◌}
use mathlib.Core.Path.{◌≡◌, refl, ap, sym, ◌∙◌}
use mathlib.Core.Bool.{Bool, true, false, cond, ◌&&◌, false≢true}
use mathlib.Core.List.{List, [], ◌∷◌, ◌++◌, map}
use native.Mathlib.Omega.{arith}
use native.Mathlib.Nat.{mul-le-mul_right}
use lib.ListN.{length, take, drop, length-drop, length-map, take-append-drop}
use lib.Seq.{drop_at, drop-cons, drop-drop, length-take-le}
use borrow.Author.Tests.{leb-true, le-leb, eqb-true, eq-eqb}
use Rattle.types.specs.Number.{AllBytes, all_zero, zeros}
use Rattle.types.proofs.Numbers.{bytes_drop}
use Rattle.frame.specs.Reply.{padded}
use Rattle.frame.proofs.Buffer.{length_padded}
use Rattle.reporting.specs.declared.entry.Entry.{Entry}
use Rattle.reporting.specs.Table.{entries_of}
use Rattle.reporting.specs.Carried.{widths, total, rows_laid, rows_in, numbers_in, numbers_of, entry_of, is_slot, are_slots, table_size, table_bytes, slots_in, table_in, count_in, size_ok, count_ok, ends_in_zeros, is_table, quieted, Reading, table_read, read_t}
use Rattle.reporting.specs.Claims.RoundTrip.{Clean, AllClean, TableIs, TableBack, BytesBack}
use Rattle.reporting.proofs.Carriage.{AllWithin, length_rows, length_rows_in, bytes_rows, rows-laid, laid_rows, both, zeros_zero, zero_zeros}
use Rattle.reporting.proofs.CarriageEntry.{entry_within, entry_in_form, entry_back, slot_back, slot_clean, quieted_numbers, slot_quiet}

-- ---- entries and their rows

all_within : (l : List Entry) → AllClean l → AllWithin widths (map numbers_of l)
all_within [] h = tt
all_within (e ∷ l) h = (entry_within e h.0, all_within l h.1)

all_in_form : (l : List Entry) → are_slots (map numbers_of l) ≡ true
unfolding are_slots
all_in_form [] = refl
all_in_form (e ∷ l) = ap (λ (b : Bool). b && are_slots (map numbers_of l)) (entry_in_form e) ∙ all_in_form l

entries_back : (l : List Entry) → AllClean l → map entry_of (map numbers_of l) ≡ l
entries_back [] h = refl
entries_back (e ∷ l) h = λ i. entry_back e h.0 i ∷ entries_back l h.1 i

rows_back : (n : ℕ) (bs : List ℕ) → AllBytes bs → are_slots (rows_in widths n bs) ≡ true → map numbers_of (map entry_of (rows_in widths n bs)) ≡ rows_in widths n bs
unfolding rows_in are_slots
rows_back zero bs h p = refl
rows_back (suc n) bs h p =
    let q = both (is_slot (numbers_in widths bs)) (are_slots (rows_in widths n (drop (total widths) bs))) p in
    λ i. slot_back bs h q.0 i ∷ rows_back n (drop (total widths) bs) (bytes_drop bs (total widths) h) q.1 i

rows_clean : (n : ℕ) (bs : List ℕ) → AllBytes bs → are_slots (rows_in widths n bs) ≡ true → AllClean (map entry_of (rows_in widths n bs))
unfolding rows_in are_slots
rows_clean zero bs h p = tt
rows_clean (suc n) bs h p =
    let q = both (is_slot (numbers_in widths bs)) (are_slots (rows_in widths n (drop (total widths) bs))) p in
    (slot_clean bs h q.0, rows_clean n (drop (total widths) bs) (bytes_drop bs (total widths) h) q.1)

-- ---- a table's bytes

module _ (limit : ℕ) (l : List Entry) (f : length l ≤ limit) where
  rows_length : length (rows_laid widths (map numbers_of l)) ≡ length l * total widths
  rows_length = length_rows widths (map numbers_of l) ∙ ap (λ (n : ℕ). n * total widths) (length-map l numbers_of)

  pub length_table : length (table_bytes limit l) ≡ table_size limit
  unfolding table_bytes
  length_table =
      let m : length l * total widths ≤ limit * total widths = mul-le-mul_right (total widths) f in
      length_padded (table_size limit) (length l ∷ rows_laid widths (map numbers_of l)) (omega (arith, rows_length))

  -- TABLE TO BYTES: bytes they are
  pub table-bytes : limit < 256 → AllBytes (table_bytes limit l)
  unfolding table_bytes padded
  table-bytes b zero = omega arith
  table-bytes b (suc i) = bytes_rows widths (map numbers_of l) (table_size limit - suc (length (rows_laid widths (map numbers_of l)))) i

  slots_laid : AllClean l → slots_in (table_bytes limit l) ≡ map numbers_of l
  unfolding slots_in table_bytes padded
  slots_laid h =
      let z : List ℕ = zeros (table_size limit - suc (length (rows_laid widths (map numbers_of l)))) in
      ap (λ (n : ℕ). rows_in widths n (rows_laid widths (map numbers_of l) ++ z)) (sym (length-map l numbers_of))
      ∙ rows-laid widths (map numbers_of l) z (all_within l h)

  ends_so : ends_in_zeros (table_bytes limit l) ≡ true
  unfolding table_bytes padded
  ends_so =
      let n : ℕ = table_size limit - suc (length (rows_laid widths (map numbers_of l))) in
      let e : 1 + length l * total widths ≡ suc (length l * total widths) = omega arith in
      ap (λ (k : ℕ). all_zero (drop k (length l ∷ (rows_laid widths (map numbers_of l) ++ zeros n)))) e
      ∙ ap all_zero (drop_at (rows_laid widths (map numbers_of l)) (zeros n) (length l * total widths) rows_length)
      ∙ zeros_zero n

  count_so : count_ok limit (table_bytes limit l) ≡ true
  unfolding table_bytes padded
  count_so = le-leb (length l) limit f

-- and a table
pub table_is : TableIs
unfolding is_table
table_is limit l f h = rw (eq-eqb _ _ (length_table limit l f), count_so limit l f, slots_laid limit l f h, all_in_form l, ends_so limit l f)

-- AND BACK: the same table
pub table_back : TableBack
unfolding table_in
table_back limit l f h = ap (map entry_of) (slots_laid limit l f h) ∙ entries_back l h

-- ---- bytes that are a table

-- the conditions, one by one
pub record IsTable (limit : ℕ) (bs : List ℕ) : Type 0 where
  pub size : length bs ≡ table_size limit
  pub count : count_in bs ≤ limit
  pub slots : are_slots (slots_in bs) ≡ true
  pub behind : all_zero (drop (1 + count_in bs * total widths) bs) ≡ true

pub the_conditions : (limit : ℕ) (bs : List ℕ) → is_table limit bs ≡ true → IsTable limit bs
unfolding is_table
the_conditions limit bs t =
    let a = both (size_ok limit bs) (count_ok limit bs && (are_slots (slots_in bs) && ends_in_zeros bs)) t in
    let b = both (count_ok limit bs) (are_slots (slots_in bs) && ends_in_zeros bs) a.1 in
    let c = both (are_slots (slots_in bs)) (ends_in_zeros bs) b.1 in
    record { size = eqb-true _ _ a.0; count = leb-true _ _ b.0; slots = c.0; behind = c.1 }

-- there are as many entries as the count says
pub table_count : (bs : List ℕ) → length (table_in bs) ≡ count_in bs
unfolding table_in slots_in
table_count bs = length-map (rows_in widths (count_in bs) (drop 1 bs)) entry_of ∙ length_rows_in widths (count_in bs) (drop 1 bs)

module _ (limit : ℕ) (bs : List ℕ) (h : AllBytes bs) (t : is_table limit bs ≡ true) where
  fits : 1 + count_in bs * total widths ≤ length bs
  fits =
      let c = the_conditions limit bs t in
      let m : count_in bs * total widths ≤ limit * total widths = mul-le-mul_right (total widths) c.count in
      omega arith

  -- the used slots' bytes, and those behind them
  used_laid : rows_laid widths (map numbers_of (table_in bs)) ≡ take (count_in bs * total widths) (drop 1 bs)
  unfolding table_in slots_in
  used_laid =
      let c = the_conditions limit bs t in
      ap (rows_laid widths) (rows_back (count_in bs) (drop 1 bs) (bytes_drop bs 1 h) c.slots)
      ∙ laid_rows widths (count_in bs) (drop 1 bs) (bytes_drop bs 1 h) (omega (arith, length-drop 1 bs, fits))

  zeros_behind : zeros (table_size limit - suc (length (take (count_in bs * total widths) (drop 1 bs)))) ≡ drop (count_in bs * total widths) (drop 1 bs)
  zeros_behind =
      let c = the_conditions limit bs t in
      let n : ℕ = count_in bs * total widths in
      let k : n ≤ length (drop 1 bs) = omega (arith, length-drop 1 bs, fits) in
      let u = length-take-le n (drop 1 bs) k in
      let e : table_size limit - suc (length (take n (drop 1 bs))) ≡ length (drop (1 + n) bs) = omega (arith, length-drop (1 + n) bs) in
      ap zeros e ∙ sym (zero_zeros (drop (1 + n) bs) c.behind) ∙ sym (drop-drop n 1 bs)

  laid_back : table_bytes limit (table_in bs) ≡ bs
  unfolding table_bytes padded
  laid_back =
      let u : List ℕ = take (count_in bs * total widths) (drop 1 bs) in
      ap (λ (k : ℕ). k ∷ (rows_laid widths (map numbers_of (table_in bs)) ++ zeros (table_size limit - suc (length (rows_laid widths (map numbers_of (table_in bs))))))) (table_count bs)
      ∙ ap (λ (r : List ℕ). count_in bs ∷ (r ++ zeros (table_size limit - suc (length r)))) used_laid
      ∙ ap (λ (r : List ℕ). count_in bs ∷ (u ++ r)) zeros_behind
      ∙ ap (λ (r : List ℕ). count_in bs ∷ r) (take-append-drop (count_in bs * total widths) (drop 1 bs))
      ∙ sym (drop-cons bs 0 0 (omega (arith, fits)))

  -- and every entry has one form
  pub table_clean : AllClean (table_in bs)
  unfolding table_in slots_in
  table_clean = rows_clean (count_in bs) (drop 1 bs) (bytes_drop bs 1 h) (the_conditions limit bs t).slots

-- BYTES TO TABLE AND BACK: the same bytes
pub bytes_back : BytesBack
bytes_back limit bs h t = laid_back limit bs h t

-- ---- what a reader of written bytes sees

pub read_written : (limit : ℕ) (l : List Entry) → length l ≤ limit → AllClean l → read_t limit (table_bytes limit l) ≡ table_read true l
unfolding read_t
read_written limit l f h = rw (table_is limit l f h) (ap (table_read true) (table_back limit l f h))

-- a table is read as its entries
pub read_own : (limit : ℕ) (bs : List ℕ) → is_table limit bs ≡ true → read_t limit bs ≡ table_read true (table_in bs)
unfolding read_t
read_own limit bs t = rw t

-- and bytes that are read as entries are a table of these
pub read_is : (limit : ℕ) (bs : List ℕ) (l : List Entry) → read_t limit bs ≡ table_read true l → (is_table limit bs ≡ true) × (table_in bs ≡ l)
unfolding read_t
read_is limit bs l = go (is_table limit bs)
  where
    go : (b : Bool) → cond b (table_read true (table_in bs)) (table_read false []) ≡ table_read true l → (b ≡ true) × (table_in bs ≡ l)
    go true e = (refl, ap (λ (r : Reading). entries_of r.table) e)
    go false e = absurd (false≢true (ap (λ (r : Reading). r.known) e))

-- entries as they are written, and as they are read then

quieted_rows : (l : List Entry) → map numbers_of (map quieted l) ≡ map numbers_of l
quieted_rows [] = refl
quieted_rows (e ∷ l) = λ i. quieted_numbers e i ∷ quieted_rows l i

quieted_bytes : (limit : ℕ) (l : List Entry) → table_bytes limit (map quieted l) ≡ table_bytes limit l
unfolding table_bytes
quieted_bytes limit l = λ i. padded (table_size limit) (length-map l quieted i ∷ rows_laid widths (quieted_rows l i))

pub quieted_read : (limit : ℕ) (l : List Entry) → length l ≤ limit → AllClean (map quieted l) → read_t limit (table_bytes limit l) ≡ table_read true (map quieted l)
quieted_read limit l f h =
    ap (read_t limit) (sym (quieted_bytes limit l)) ∙ read_written limit (map quieted l) (omega (arith, length-map l quieted)) h

-- one more entry
pub quieted_snoc : (l : List Entry) (e : Entry) → AllClean (map quieted l) → Clean (quieted e) → AllClean (map quieted (l ++ (e ∷ [])))
quieted_snoc [] e h c = (c, tt)
quieted_snoc (x ∷ l) e h c = (h.0, quieted_snoc l e h.1 c)

-- what bytes tell is told already
rows_quiet : (rows : List (List ℕ)) → are_slots rows ≡ true → map quieted (map entry_of rows) ≡ map entry_of rows
unfolding are_slots
rows_quiet [] p = refl
rows_quiet (ns ∷ rows) p = let q = both (is_slot ns) (are_slots rows) p in λ i. slot_quiet ns q.0 i ∷ rows_quiet rows q.1 i

pub table_quiet : (limit : ℕ) (bs : List ℕ) → is_table limit bs ≡ true → map quieted (table_in bs) ≡ table_in bs
unfolding table_in
table_quiet limit bs t = rows_quiet (slots_in bs) (the_conditions limit bs t).slots
