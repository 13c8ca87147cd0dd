-- A table has one saved form, and a saved form one table (specs/Claims/RoundTrip.antt). Assumes nothing.
use Prim.Native.Nat.{ℕ, zero, suc, ◌+◌, ◌*◌, ◌≤◌, ◌<◌, ◌^◌}
use mathlib.Core.Path.{◌≡◌, refl, sym, ap, ◌∙◌}
use mathlib.Core.Bool.{Bool, true, false, ◌&&◌}
use mathlib.Core.List.{List, [], ◌∷◌, ◌++◌, map, append-nil}
use native.Mathlib.Omega.{arith}
use lib.ListN.{length, get_or, take, drop, length-drop, length-map, take-append-drop}
use lib.Seq.{drop_at, drop-drop, take_all}
use lib.Dec.{leb, eqb}
use lib.IntN.{pos}
use borrow.Author.Tests.{le-leb, eqb-true, eq-eqb}
use Rattle.types.specs.Number.{AllBytes}
use Rattle.types.proofs.Numbers.{bytes_drop}
use Rattle.frame.specs.Walk.{All}
use Rattle.reporting.specs.declared.entry.Entry.{Entry}
use Rattle.reporting.specs.Entries.{unreported}
use Rattle.reporting.specs.Wish.{wish}
use Rattle.reporting.specs.Carried.{if_marked, laid, numbers_in, rows_laid, rows_in, count_in}
use Rattle.reporting.specs.Claims.RoundTrip.{AllClean}
use Rattle.reporting.proofs.Restored.{distinct_same}
use Rattle.reporting.proofs.Carriage.{AllWithin, rows-laid, laid_rows, both}
use Rattle.reporting.proofs.CarriageEntry.{told_below, mark_told, flag_back}
use Rattle.saved.specs.Saved.{form_of, marked, plain, key_of, body_of, row_of, body_bytes, offset_at, saved_size, contents_from, saved_bytes, is_set, all_set, is_savable, rows_of, bodies_of, entries_from, saved_in, follow_on, marks_ok, is_laid, is_saved, form_in}
use Rattle.saved.proofs.Rows.{length_contents}
use Rattle.saved.proofs.Forms.{laid_so, saved_count}
use Rattle.saved.proofs.Lending.{length_one, saved_length}
use Rattle.saved.specs.Claims.RoundTrip.{SavedIs, SavedBack, FormBack, OldFormBack}

abbrev rows : List ℕ
rows = row_of marked

abbrev bodies : List ℕ
bodies = marked.bodies

-- ---- the contents

-- keys and offsets fit their widths
contents_within : (n i : ℕ) (l : List Entry) → AllClean l → i + length l ≤ n → saved_size marked n < 2 ^ 16 → AllWithin rows (contents_from marked n i (map key_of l))
unfolding contents_from
contents_within n i [] h k b = tt
contents_within n i (e ∷ l) h k b = ((h.0.cluster, (h.0.attribute, (omega arith, refl))), contents_within n (suc i) l h.1 (omega arith) b)

bodies_within : (l : List Entry) → AllClean l → AllWithin bodies (map body_of l)
bodies_within [] h = tt
bodies_within (e ∷ l) h = ((h.0.minimum, (h.0.maximum, (h.0.change, (told_below e.config.unsigned 1 (2 ^ 8) (omega arith), refl)))), bodies_within l h.1)

follows : (n i : ℕ) (l : List Entry) → follow_on marked n i (contents_from marked n i (map key_of l)) ≡ true
unfolding follow_on contents_from
follows n i [] = refl
follows n i (e ∷ l) = rw (eq-eqb (offset_at marked n i) (offset_at marked n i) refl) (follows n (suc i) l)

mark_small : (b : Bool) → leb (if_marked b 1) 1 ≡ true
mark_small true = refl
mark_small false = refl

marks_small : (l : List Entry) → marks_ok (map body_of l) ≡ true
unfolding marks_ok
marks_small [] = refl
marks_small (e ∷ l) = λ i. mark_small e.config.unsigned i && marks_small l i

entries_back : (n i : ℕ) (l : List Entry) → entries_from (contents_from marked n i (map key_of l)) (map body_of l) ≡ map unreported l
unfolding entries_from contents_from
entries_back n i [] = refl
entries_back n i (e ∷ l) =
    λ j.
    record {
      key = e.key;
      config = record {
        min_interval = e.config.min_interval;
        max_interval = e.config.max_interval;
        reportable_change = e.config.reportable_change;
        unsigned = flag_back e.config.unsigned j;
      };
      marked = false;
      last_time = 0;
      last_value = pos 0;
    }
    ∷ entries_back n (suc i) l j

-- ---- what is said of entries goes by their configurations

set_same : (l : List Entry) → all_set (map unreported l) ≡ all_set l
unfolding all_set
set_same [] = refl
set_same (e ∷ l) = ap (λ (b : Bool). is_set (wish e.config) && b) (set_same l)

-- ---- written, then read

module _ (limit : ℕ) (l : List Entry) (small : saved_size marked limit < 2 ^ 16) (few : length l ≤ limit) (clean : AllClean l) where
  abbrev n : ℕ
  n = length l

  abbrev one : List (List ℕ)
  one = contents_from marked n 0 (map key_of l)

  abbrev two : List (List ℕ)
  two = map body_of l

  fits : saved_size marked n < 2 ^ 16
  fits = omega arith

  rows_back : rows_of marked (saved_bytes marked l) ≡ one
  unfolding saved_bytes
  rows_back =
      ap (λ (k : ℕ). rows_in rows k (rows_laid rows one ++ rows_laid bodies two)) (sym (length_contents n 0 (map key_of l) ∙ length-map l key_of))
      ∙ rows-laid rows one (rows_laid bodies two) (contents_within n 0 l clean (omega arith) fits)

  behind : drop (offset_at marked n 0) (saved_bytes marked l) ≡ rows_laid bodies two
  unfolding saved_bytes
  behind =
      let e : offset_at marked n 0 ≡ suc (n * 6) = omega arith in
      ap (λ (k : ℕ). drop k (n ∷ (rows_laid rows one ++ rows_laid bodies two))) e ∙ drop_at (rows_laid rows one) (rows_laid bodies two) (n * 6) (length_one l)

  bodies_back : bodies_of marked (saved_bytes marked l) ≡ two
  unfolding saved_bytes
  bodies_back =
      ap (rows_in bodies n) behind
      ∙ ap (rows_in bodies n) (sym (append-nil (rows_laid bodies two)))
      ∙ ap (λ (k : ℕ). rows_in bodies k (rows_laid bodies two ++ [])) (sym (length-map l body_of))
      ∙ rows-laid bodies two [] (bodies_within l clean)

  count_so : count_in (saved_bytes marked l) ≡ n
  unfolding saved_bytes
  count_so = refl

  -- it is read as a form with marks
  own_form : form_in (saved_bytes marked l) ≡ marked
  own_form = ap form_of (eq-eqb _ _ (saved_length l ∙ ap (saved_size marked) (sym count_so)))

  written_back : saved_in marked (saved_bytes marked l) ≡ map unreported l
  unfolding saved_in
  written_back = (λ i. entries_from (rows_back i) (bodies_back i)) ∙ entries_back n 0 l

  is_form : is_savable l ≡ true → is_saved marked limit (saved_bytes marked l) ≡ true
  unfolding is_saved is_laid
  is_form s =
      let good : is_savable (saved_in marked (saved_bytes marked l)) ≡ true = ap is_savable written_back ∙ (λ i. distinct_same l i && set_same l i) ∙ s in
      let follow : follow_on marked (count_in (saved_bytes marked l)) 0 (rows_of marked (saved_bytes marked l)) ≡ true = (λ i. follow_on marked (count_so i) 0 (rows_back i)) ∙ follows n 0 l in
      let marks : marks_ok (bodies_of marked (saved_bytes marked l)) ≡ true = ap marks_ok bodies_back ∙ marks_small l in
      let size : eqb (length (saved_bytes marked l)) (saved_size marked (count_in (saved_bytes marked l))) ≡ true = eq-eqb _ _ (saved_length l ∙ ap (saved_size marked) (sym count_so)) in
      let count : leb (count_in (saved_bytes marked l)) limit ≡ true = le-leb (count_in (saved_bytes marked l)) limit (omega (arith, count_so, few)) in
      λ i. (count i && (size i && (follow i && marks i))) && good i

pub saved_is : SavedIs
saved_is limit l small few clean s = ap (λ f. is_saved f limit (saved_bytes marked l)) (own_form limit l small few clean) ∙ is_form limit l small few clean s

pub saved_back : SavedBack
saved_back limit l small few clean = ap (λ f. saved_in f (saved_bytes marked l)) (own_form limit l small few clean) ∙ written_back limit l small few clean

-- ---- read, then written

contents_read : (m : Bool) (n i k : ℕ) (x y : List ℕ) → follow_on (form_of m) n i (rows_in rows k x) ≡ true → contents_from (form_of m) n i (map key_of (entries_from (rows_in rows k x) (rows_in (form_of m).bodies k y))) ≡ rows_in rows k x
unfolding entries_from rows_in follow_on contents_from numbers_in
contents_read m n i zero x y h = refl
contents_read m n i (suc k) x y h =
    let r : List ℕ = numbers_in rows x in
    let more : List (List ℕ) = rows_in rows k (drop 6 x) in
    let q = both (eqb (get_or r 2 0) (offset_at (form_of m) n i)) (follow_on (form_of m) n (suc i) more) h in
    let o = eqb-true (get_or r 2 0) (offset_at (form_of m) n i) q.0 in
    λ j. (get_or r 0 0 ∷ get_or r 1 0 ∷ sym o j ∷ []) ∷ contents_read m n (suc i) k (drop 6 x) (drop (body_bytes (form_of m)) y) q.1 j

-- the bytes of the bodies, with marks of 0 or 1, or without
bodies_read : (m : Bool) (k : ℕ) (x y : List ℕ) → marks_ok (rows_in (form_of m).bodies k y) ≡ true
    → rows_laid (form_of m).bodies (map body_of (entries_from (rows_in rows k x) (rows_in (form_of m).bodies k y))) ≡ rows_laid (form_of m).bodies (rows_in (form_of m).bodies k y)
unfolding entries_from rows_in numbers_in rows_laid marks_ok laid
bodies_read m zero x y h = refl
bodies_read true (suc k) x y h =
    let b : List ℕ = numbers_in bodies y in
    let q = both (leb (get_or b 3 0) 1) (marks_ok (rows_in bodies k (drop (body_bytes marked) y))) h in
    λ j. laid bodies (get_or b 0 0 ∷ get_or b 1 0 ∷ get_or b 2 0 ∷ mark_told (get_or b 3 0) q.0 j ∷ []) ++ bodies_read true k (drop 6 x) (drop (body_bytes marked) y) q.1 j
bodies_read false (suc k) x y h =
    ap (λ (r : List ℕ). laid plain.bodies (numbers_in plain.bodies y) ++ r) (bodies_read false k (drop 6 x) (drop (body_bytes plain) y) h)

-- where the bodies start
start : (m : Bool) (n : ℕ) → offset_at (form_of m) n 0 ≡ 1 + n * 6
start true n = omega arith
start false n = omega arith

module _ (m : Bool) (limit : ℕ) (bs : List ℕ) (bytes : AllBytes bs) (is : is_saved (form_of m) limit bs ≡ true) where
  laid_it : is_laid (form_of m) limit bs ≡ true
  unfolding is_saved
  laid_it = (both (is_laid (form_of m) limit bs) (is_savable (saved_in (form_of m) bs)) is).0

  size : length bs ≡ saved_size (form_of m) (count_in bs)
  size = (laid_so m bs limit laid_it).size

  abbrev k : ℕ
  k = count_in bs

  abbrev rest : List ℕ
  rest = drop 1 bs

  rest_length : length rest ≡ k * 6 + k * body_bytes (form_of m)
  rest_length = omega (arith, length-drop 1 bs, size)

  behind_contents : drop (offset_at (form_of m) k 0) bs ≡ drop (k * 6) rest
  behind_contents = ap (λ (p : ℕ). drop p bs) (start m k) ∙ sym (drop-drop (k * 6) 1 bs)

  first_read : rows_laid rows (rows_of (form_of m) bs) ≡ take (k * 6) rest
  first_read = laid_rows rows k rest (bytes_drop bs 1 bytes) (omega (arith, rest_length))

  second_read : rows_laid (form_of m).bodies (bodies_of (form_of m) bs) ≡ drop (k * 6) rest
  second_read =
      let l : length (drop (k * 6) rest) ≡ k * body_bytes (form_of m) = omega (arith, length-drop (k * 6) rest, rest_length) in
      ap (λ (x : List ℕ). rows_laid (form_of m).bodies (rows_in (form_of m).bodies k x)) behind_contents
      ∙ laid_rows (form_of m).bodies k (drop (k * 6) rest) (bytes_drop rest (k * 6) (bytes_drop bs 1 bytes)) (omega (arith, l))
      ∙ take_all (k * body_bytes (form_of m)) (drop (k * 6) rest) (omega (arith, l))

  -- bytes with a first one
  whole : (x : List ℕ) → 1 ≤ length x → count_in x ∷ drop 1 x ≡ x
  whole [] h = absurd (omega arith)
  whole (b ∷ x) h = refl

  form_back_in : saved_bytes (form_of m) (saved_in (form_of m) bs) ≡ bs
  unfolding saved_bytes saved_in
  form_back_in =
      let l = saved_count m bs in
      let y : List ℕ = drop (offset_at (form_of m) k 0) bs in
      (λ i. l i ∷ (rows_laid rows (contents_from (form_of m) (l i) 0 (map key_of (saved_in (form_of m) bs))) ++ rows_laid (form_of m).bodies (map body_of (saved_in (form_of m) bs))))
      ∙ (λ i. k ∷ (rows_laid rows (contents_read m k 0 k rest y (laid_so m bs limit laid_it).offsets i) ++ bodies_read m k rest y (laid_so m bs limit laid_it).marks i))
      ∙ (λ i. k ∷ (first_read i ++ second_read i))
      ∙ ap (λ (r : List ℕ). k ∷ r) (take-append-drop (k * 6) rest)
      ∙ whole bs (omega (arith, size))

pub form_back : FormBack
form_back limit bs bytes is = form_back_in true limit bs bytes is

-- a form without marks has entries that are signed
all_signed : (k : ℕ) (x y : List ℕ) → All (λ (e : Entry). e.config.unsigned ≡ false) (entries_from (rows_in rows k x) (rows_in plain.bodies k y))
unfolding entries_from rows_in numbers_in
all_signed zero x y = tt
all_signed (suc k) x y = (refl, all_signed k (drop 6 x) (drop (body_bytes plain) y))

pub old_form_back : OldFormBack
unfolding saved_in
old_form_back limit bs bytes is = (form_back_in false limit bs bytes is, all_signed (count_in bs) (drop 1 bs) (drop (offset_at plain (count_in bs) 0) bs))
