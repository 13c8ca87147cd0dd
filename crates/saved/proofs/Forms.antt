-- What the loops over a form's rows and bodies have seen and put into the table so far, in a form with marks or in one without. Assumes nothing.
use Prim.Native.Nat.{ℕ, zero, suc, ◌+◌, ◌-◌, ◌*◌, ◌≤◌, ◌<◌}
use mathlib.Core.Path.{◌≡◌, refl, ap, sym, subst, ◌∙◌}
use mathlib.Core.Bool.{Bool, true, false, ◌&&◌}
use mathlib.Core.List.{List, [], ◌∷◌, ◌++◌}
use native.Mathlib.Omega.{arith}
use native.Mathlib.Nat.{zero-mul, suc-mul}
use native.Mathlib.Numerals.{add-one}
use lib.ListN.{length, get_or, take, drop, set}
use lib.Seq.{sets, drop-drop, take_all, length-take-le}
use lib.Dec.{leb, eqb}
use borrow.Author.Tests.{le-leb, lt-leb, leb-true, eqb-true, eq-eqb, ne_eqb}
use Rattle.reporting.specs.declared.entry.Entry.{Entry}
use Rattle.reporting.specs.Table.{capacity}
use Rattle.reporting.specs.Carried.{widths, slot_bytes, laid, numbers_in, rows_in, numbers_of, count_in, table_bytes, quieted}
use Rattle.reporting.specs.Claims.RoundTrip.{Clean, AllClean}
use Rattle.reporting.proofs.Carriage.{both}
use Rattle.reporting.proofs.CarriageLoops.{rows_more, rows_end}
use Rattle.reporting.proofs.Patches.{slot_added}
use Rattle.reporting.proofs.Kept.{append_all}
use Rattle.saved.specs.Saved.{form_of, marked, row_of, body_bytes, offset_at, saved_size, rows_of, bodies_of, entry_from, entries_from, saved_in, follow_on, marks_ok, is_laid}
use Rattle.saved.proofs.Places.{next_place}
use Rattle.saved.proofs.Entries.{here}

-- ---- the offsets

-- the rows from number i on
abbrev rows_from : List ℕ → ℕ → ℕ → List (List ℕ)
rows_from bs n i = rows_in (row_of marked) (n - i) (drop (1 + 6 * i) bs)

abbrev pub follows : Bool → List ℕ → ℕ → Bool
follows m bs n = follow_on (form_of m) n 0 (rows_in (row_of marked) n (drop 1 bs))

-- the offsets of the first i rows follow on, so that the others decide
abbrev pub FollowSoFar : Bool → List ℕ → ℕ → ℕ → Type 0
FollowSoFar m bs n i = follow_on (form_of m) n i (rows_from bs n i) ≡ follows m bs n

module _ (m : Bool) (bs : List ℕ) (n i : ℕ) (s : FollowSoFar m bs n i) where
  pub follow_done : n ≤ i → true ≡ follows m bs n
  unfolding follow_on
  follow_done h = sym (ap (follow_on (form_of m) n i) (rows_end (row_of marked) bs n i (1 + 6 * i) h)) ∙ s

  module _ (h : i < n) (o : ℕ) (is : o ≡ get_or (numbers_in (row_of marked) (drop (1 + 6 * i) bs)) 2 0) where
    next : (b : Bool) → eqb o (offset_at (form_of m) n i) ≡ b → (b && follow_on (form_of m) n (i + 1) (rows_from bs n (i + 1))) ≡ follows m bs n
    unfolding follow_on
    next b e =
        (λ j. sym (ap (λ (k : ℕ). eqb k (offset_at (form_of m) n i)) (sym is) ∙ e) j && follow_on (form_of m) n (add-one i j) (rows_from bs n (i + 1)))
        ∙ sym (ap (follow_on (form_of m) n i) (rows_more (row_of marked) bs n i (1 + 6 * i) (1 + 6 * (i + 1)) h (omega arith)))
        ∙ s

    pub follow_more : o ≡ offset_at (form_of m) n i → FollowSoFar m bs n (i + 1)
    follow_more e = next true (eq-eqb o (offset_at (form_of m) n i) e)

    pub follow_not : (o ≡ offset_at (form_of m) n i → ⊥) → false ≡ follows m bs n
    follow_not e = next false (ne_eqb o (offset_at (form_of m) n i) e)

-- ---- the marks

abbrev bodies_from : Bool → List ℕ → ℕ → ℕ → List (List ℕ)
bodies_from m bs n i = rows_in (form_of m).bodies (n - i) (drop (offset_at (form_of m) n i) bs)

abbrev pub all_marks_ok : Bool → List ℕ → ℕ → Bool
all_marks_ok m bs n = marks_ok (rows_in (form_of m).bodies n (drop (offset_at (form_of m) n 0) bs))

-- the marks of the first i bodies are 0 or 1, so that the others decide
abbrev pub MarksSoFar : Bool → List ℕ → ℕ → ℕ → Type 0
MarksSoFar m bs n i = marks_ok (bodies_from m bs n i) ≡ all_marks_ok m bs n

module _ (m : Bool) (bs : List ℕ) (n i : ℕ) (s : MarksSoFar m bs n i) where
  pub marks_done : n ≤ i → true ≡ all_marks_ok m bs n
  unfolding marks_ok
  marks_done h = sym (ap marks_ok (rows_end (form_of m).bodies bs n i (offset_at (form_of m) n i) h)) ∙ s

  module _ (h : i < n) (u : ℕ) (is : u ≡ get_or (numbers_in (form_of m).bodies (drop (offset_at (form_of m) n i) bs)) 3 0) where
    seen : (b : Bool) → leb u 1 ≡ b → (b && marks_ok (bodies_from m bs n (i + 1))) ≡ all_marks_ok m bs n
    unfolding marks_ok
    seen b e =
        ap (λ (c : Bool). c && marks_ok (bodies_from m bs n (i + 1))) (sym (ap (λ (k : ℕ). leb k 1) (sym is) ∙ e))
        ∙ sym (ap marks_ok (rows_more (form_of m).bodies bs n i (offset_at (form_of m) n i) (offset_at (form_of m) n (i + 1)) h (next_place m n i)))
        ∙ s

    pub marks_more : u ≤ 1 → MarksSoFar m bs n (i + 1)
    marks_more e = seen true (le-leb u 1 e)

    pub marks_not : 1 < u → false ≡ all_marks_ok m bs n
    marks_not e = seen false (lt-leb u 1 e)

-- ---- the form

-- no byte is no form
pub laid_empty : (m : Bool) (bs : List ℕ) → length bs ≡ 0 → false ≡ is_laid (form_of m) capacity bs
unfolding is_laid
laid_empty true [] h = refl
laid_empty false [] h = refl
laid_empty m (b ∷ bs) h = absurd (omega arith)

module _ (m : Bool) (bs : List ℕ) where
  pub laid_counted : capacity < count_in bs → false ≡ is_laid (form_of m) capacity bs
  unfolding is_laid
  laid_counted h = sym (rw (lt-leb (count_in bs) capacity h))

  module _ (k : count_in bs ≤ capacity) where
    pub laid_sized : (length bs ≡ saved_size (form_of m) (count_in bs) → ⊥) → false ≡ is_laid (form_of m) capacity bs
    unfolding is_laid
    laid_sized h = sym (rw (le-leb (count_in bs) capacity k, ne_eqb (length bs) (saved_size (form_of m) (count_in bs)) h))

    pub laid_by_bodies : length bs ≡ saved_size (form_of m) (count_in bs) → (follow_on (form_of m) (count_in bs) 0 (rows_of (form_of m) bs) && marks_ok (bodies_of (form_of m) bs)) ≡ is_laid (form_of m) capacity bs
    unfolding is_laid
    laid_by_bodies size = sym (rw (le-leb (count_in bs) capacity k, eq-eqb (length bs) (saved_size (form_of m) (count_in bs)) size))

  module _ (limit : ℕ) (is : is_laid (form_of m) limit bs ≡ true) where
    -- what it says, one after the other
    pub record Laid : Type 0 where
      pub count : count_in bs ≤ limit
      pub size : length bs ≡ saved_size (form_of m) (count_in bs)
      pub offsets : follow_on (form_of m) (count_in bs) 0 (rows_of (form_of m) bs) ≡ true
      pub marks : marks_ok (bodies_of (form_of m) bs) ≡ true

    pub laid_so : Laid
    unfolding is_laid
    laid_so =
        let size : Bool = eqb (length bs) (saved_size (form_of m) (count_in bs)) in
        let off : Bool = follow_on (form_of m) (count_in bs) 0 (rows_of (form_of m) bs) in
        let marks : Bool = marks_ok (bodies_of (form_of m) bs) in
        let a = both (leb (count_in bs) limit) (size && (off && marks)) is in
        let b = both size (off && marks) a.1 in
        let c = both off marks b.1 in
        record { count = leb-true (count_in bs) limit a.0; size = eqb-true _ _ b.0; offsets = c.0; marks = c.1 }

-- ---- its entries

length_from : (m : Bool) (k : ℕ) (x y : List ℕ) → length (entries_from (rows_in (row_of marked) k x) (rows_in (form_of m).bodies k y)) ≡ k
unfolding entries_from rows_in
length_from m zero x y = refl
length_from m (suc k) x y = ap suc (length_from m k (drop 6 x) (drop (body_bytes (form_of m)) y))

pub saved_count : (m : Bool) (bs : List ℕ) → length (saved_in (form_of m) bs) ≡ count_in bs
unfolding saved_in
saved_count m bs = length_from m (count_in bs) (drop 1 bs) (drop (offset_at (form_of m) (count_in bs) 0) bs)

nth_from : (m : Bool) (k : ℕ) (x y : List ℕ) (i : ℕ) (d : Entry) → i < k
    → get_or (entries_from (rows_in (row_of marked) k x) (rows_in (form_of m).bodies k y)) i d ≡ entry_from (numbers_in (row_of marked) (drop (6 * i) x)) (numbers_in (form_of m).bodies (drop (i * body_bytes (form_of m)) y))
unfolding entries_from rows_in
nth_from m zero x y i d h = absurd (omega arith)
nth_from m (suc k) x y zero d h = ap (λ (p : ℕ). entry_from (numbers_in (row_of marked) x) (numbers_in (form_of m).bodies (drop p y))) (sym (zero-mul (body_bytes (form_of m))))
nth_from m (suc k) x y (suc i) d h =
    let b : ℕ = body_bytes (form_of m) in
    let r : 6 + 6 * i ≡ 6 * suc i = omega arith in
    let q : b + i * b ≡ suc i * b = omega (arith, suc-mul i b) in
    nth_from m k (drop 6 x) (drop b y) i d (omega arith)
    ∙ (λ j. entry_from (numbers_in (row_of marked) ((drop-drop (6 * i) 6 x ∙ ap (λ (p : ℕ). drop p x) r) j)) (numbers_in (form_of m).bodies ((drop-drop (i * b) b y ∙ ap (λ (p : ℕ). drop p y) q) j)))

-- body i of n, from the first
from_first : (m : Bool) (n i : ℕ) → offset_at (form_of m) n 0 + i * body_bytes (form_of m) ≡ offset_at (form_of m) n i
from_first true n i = omega arith
from_first false n i = omega arith

module _ (m : Bool) (bs : List ℕ) (i : ℕ) where
  -- the entry that the code reads at the places of row and body number i
  abbrev pub entry_at : Entry
  entry_at = entry_from (numbers_in (row_of marked) (drop (1 + 6 * i) bs)) (numbers_in (form_of m).bodies (drop (offset_at (form_of m) (count_in bs) i) bs))

  nth_saved : (d : Entry) → i < count_in bs → get_or (saved_in (form_of m) bs) i d ≡ entry_at
  unfolding saved_in
  nth_saved d h =
      nth_from m (count_in bs) (drop 1 bs) (drop (offset_at (form_of m) (count_in bs) 0) bs) i d h
      ∙ (λ j.
      entry_from (numbers_in (row_of marked) (drop-drop (6 * i) 1 bs j))
      (numbers_in (form_of m).bodies ((drop-drop (i * body_bytes (form_of m)) (offset_at (form_of m) (count_in bs) 0) bs ∙ ap (λ (k : ℕ). drop k bs) (from_first m (count_in bs) i)) j)))

  -- a turn: the entry's slot is written, and counted
  module _ (h : i < count_in bs) (e : Entry) (is : e ≡ entry_at) where
    more : take (i + 1) (saved_in (form_of m) bs) ≡ take i (saved_in (form_of m) bs) ++ (e ∷ [])
    more = here (saved_in (form_of m) bs) i e e (omega (arith, saved_count m bs)) (is ∙ sym (nth_saved e h))

    many : length (take i (saved_in (form_of m) bs)) ≡ i
    many = length-take-le i (saved_in (form_of m) bs) (omega (arith, saved_count m bs))

    pub fill_turn : count_in bs ≤ capacity → (t t' : List ℕ) → t ≡ table_bytes capacity (take i (saved_in (form_of m) bs)) → t' ≡ sets t (1 + slot_bytes * i) (laid widths (numbers_of e)) → set t' 0 (i + 1) ≡ table_bytes capacity (take (i + 1) (saved_in (form_of m) bs))
    fill_turn k t t' p q =
        let l : List Entry = take i (saved_in (form_of m) bs) in
        (λ j. set ((q ∙ ap (λ (x : List ℕ). sets x (1 + slot_bytes * i) (laid widths (numbers_of e))) p) j) 0 (add-one i j))
        ∙ (λ j. set (sets (table_bytes capacity l) (1 + slot_bytes * sym many j) (laid widths (numbers_of e))) 0 (suc (sym many j)))
        ∙ slot_added capacity l e (omega (arith, many))
        ∙ ap (table_bytes capacity) (sym more)

    pub clean_turn : AllClean (take i (saved_in (form_of m) bs)) → Clean (quieted e) → AllClean (take (i + 1) (saved_in (form_of m) bs))
    clean_turn a c =
        let own : quieted e ≡ e = ap quieted is ∙ sym is in
        subst AllClean (sym more) (append_all Clean (take i (saved_in (form_of m) bs)) e a (subst Clean own c))

-- all of them
pub all_filled : (m : Bool) (bs : List ℕ) (i : ℕ) → count_in bs ≤ i → take i (saved_in (form_of m) bs) ≡ saved_in (form_of m) bs
all_filled m bs i h = take_all i (saved_in (form_of m) bs) (omega (arith, saved_count m bs))
