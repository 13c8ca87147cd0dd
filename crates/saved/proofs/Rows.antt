-- What the loop over a table's slots has written so far: the rows of its first i entries, and their bodies. Assumes nothing.
use Prim.Native.Nat.{ℕ, suc, ◌+◌, ◌*◌, ◌≤◌, ◌<◌}
use mathlib.Core.Path.{◌≡◌, refl, ap, sym, ◌∙◌}
use mathlib.Core.List.{List, [], ◌∷◌, ◌++◌, map, map-append}
use native.Mathlib.Omega.{arith}
use native.Mathlib.Nat.{add-zero}
use lib.ListN.{length, take, set, length-map}
use lib.Seq.{sets, set_comm, take_all, length-take-le}
use Rattle.reporting.specs.declared.entry.Entry.{Entry}
use Rattle.reporting.specs.Carried.{laid, rows_laid, count_in, table_in}
use Rattle.reporting.proofs.Carriage.{length_laid}
use Rattle.reporting.proofs.CarriageTable.{table_count}
use Rattle.reporting.proofs.Lending.{slot_entry, nth_entry}
use Rattle.saved.specs.Saved.{marked, key_of, body_of, row_of, offset_at, contents_from}
use Rattle.saved.proofs.Places.{put_row}
use Rattle.saved.proofs.Entries.{here}

-- ---- two runs, the one before the other: either may be laid first

set_sets : (ys l : List ℕ) (i q a : ℕ) → i < q → sets (set l i a) q ys ≡ set (sets l q ys) i a
set_sets [] l i q a h = refl
set_sets (y ∷ ys) l i q a h = ap (λ (m : List ℕ). sets m (suc q) ys) (set_comm l i q a y (λ e. omega arith)) ∙ set_sets ys (set l q y) i (suc q) a (omega arith)

sets_sets : (xs l : List ℕ) (p q : ℕ) (ys : List ℕ) → p + length xs ≤ q → sets (sets l p xs) q ys ≡ sets (sets l q ys) p xs
sets_sets [] l p q ys h = refl
sets_sets (x ∷ xs) l p q ys h =
    sets_sets xs (set l p x) (suc p) q ys (omega arith) ∙ ap (λ (m : List ℕ). sets m (suc p) xs) (set_sets ys l p q x (omega arith))

-- ---- the rows

-- one row more in the contents
contents_snoc : (n i : ℕ) (ks : List (List ℕ)) (k : List ℕ) → contents_from marked n i (ks ++ (k ∷ [])) ≡ contents_from marked n i ks ++ ((k ++ (offset_at marked n (i + length ks) ∷ [])) ∷ [])
unfolding contents_from
contents_snoc n i [] k = ap (λ (j : ℕ). (k ++ (offset_at marked n j ∷ [])) ∷ []) (sym (add-zero i))
contents_snoc n i (q ∷ ks) k =
    let e : suc i + length ks ≡ i + suc (length ks) = omega arith in
    ap (λ (r : List (List ℕ)). (q ++ (offset_at marked n i ∷ [])) ∷ r)
    (contents_snoc n (suc i) ks k ∙ ap (λ (j : ℕ). contents_from marked n (suc i) ks ++ ((k ++ (offset_at marked n j ∷ [])) ∷ [])) e)

pub length_contents : (n i : ℕ) (ks : List (List ℕ)) → length (contents_from marked n i ks) ≡ length ks
unfolding contents_from
length_contents n i [] = refl
length_contents n i (k ∷ ks) = ap suc (length_contents n (suc i) ks)

module _ (bs : List ℕ) (i : ℕ) where
  abbrev n : ℕ
  n = count_in bs

  abbrev first : List Entry
  first = take i (table_in bs)

  -- the rows of the first i entries, and their bodies
  abbrev pub contents_to : List (List ℕ)
  contents_to = contents_from marked n 0 (map key_of first)

  abbrev pub bodies_to : List (List ℕ)
  bodies_to = map body_of first

-- bytes with those rows and those bodies
abbrev pub written_to : List ℕ → ℕ → List ℕ → List ℕ
written_to bs i s = sets (sets s 1 (rows_laid (row_of marked) (contents_to bs i))) (offset_at marked (count_in bs) 0) (rows_laid marked.bodies (bodies_to bs i))

-- at first none
pub none_written : (bs s : List ℕ) → s ≡ written_to bs 0 s
unfolding rows_laid contents_from
none_written bs s = refl

module _ (bs : List ℕ) (i : ℕ) (h : i < count_in bs) where
  many : length (take i (table_in bs)) ≡ i
  many = length-take-le i (table_in bs) (omega (arith, table_count bs))

  more : take (i + 1) (table_in bs) ≡ take i (table_in bs) ++ (slot_entry bs i ∷ [])
  more = here (table_in bs) i (slot_entry bs i) (slot_entry bs i) (omega (arith, table_count bs)) (sym (nth_entry bs i (slot_entry bs i) h))

  -- the numbers of the next row, by the place of its body
  abbrev next_row : ℕ → List ℕ
  next_row at = key_of (slot_entry bs i) ++ (at ∷ [])

  row_turn : (s : List ℕ) → sets (sets s 1 (rows_laid (row_of marked) (contents_to bs i))) (1 + 6 * i) (laid (row_of marked) (next_row (offset_at marked (count_in bs) i)))
      ≡ sets s 1 (rows_laid (row_of marked) (contents_to bs (i + 1)))
  row_turn s =
      let k : length (map key_of (take i (table_in bs))) ≡ i = length-map (take i (table_in bs)) key_of ∙ many in
      put_row (row_of marked) 1 (1 + 6 * i) i (contents_to bs i) (next_row (offset_at marked (count_in bs) i)) s _ _
      (length_contents (count_in bs) 0 (map key_of (take i (table_in bs))) ∙ k) (omega arith) refl refl
      ∙ ap (λ (r : List (List ℕ)). sets s 1 (rows_laid (row_of marked) r))
      (sym (ap (λ (x : List Entry). contents_from marked (count_in bs) 0 (map key_of x)) more
      ∙ ap (contents_from marked (count_in bs) 0) (map-append key_of (take i (table_in bs)) (slot_entry bs i ∷ []))
      ∙ contents_snoc (count_in bs) 0 (map key_of (take i (table_in bs))) (key_of (slot_entry bs i))
      ∙ ap (λ (j : ℕ). contents_to bs i ++ (next_row (offset_at marked (count_in bs) j) ∷ [])) (omega (arith, k))))

  body_turn : (s : List ℕ) → sets (sets s (offset_at marked (count_in bs) 0) (rows_laid marked.bodies (bodies_to bs i))) (offset_at marked (count_in bs) i) (laid marked.bodies (body_of (slot_entry bs i)))
      ≡ sets s (offset_at marked (count_in bs) 0) (rows_laid marked.bodies (bodies_to bs (i + 1)))
  body_turn s =
      put_row marked.bodies (offset_at marked (count_in bs) 0) (offset_at marked (count_in bs) i) i (bodies_to bs i) (body_of (slot_entry bs i)) s _ _
      (length-map (take i (table_in bs)) body_of ∙ many) (omega arith) refl refl
      ∙ ap (λ (r : List (List ℕ)). sets s (offset_at marked (count_in bs) 0) (rows_laid marked.bodies r))
      (sym (ap (map body_of) more ∙ map-append body_of (take i (table_in bs)) (slot_entry bs i ∷ [])))

  -- a turn, for the entry e of slot i and the place of its body: the row ends before the bodies, so that it is as if it were laid before them
  pub entry_turn : (e : Entry) → e ≡ slot_entry bs i → (at : ℕ) → at ≡ offset_at marked (count_in bs) i → (s₀ s₁ s₂ s₃ : List ℕ)
      → s₁ ≡ written_to bs i s₀
      → s₂ ≡ sets s₁ (1 + 6 * i) (laid (row_of marked) (key_of e ++ (at ∷ [])))
      → s₃ ≡ sets s₂ at (laid marked.bodies (body_of e))
      → s₃ ≡ written_to bs (i + 1) s₀
  entry_turn e is at place s₀ s₁ s₂ s₃ p q r =
      let rows : List ℕ = sets s₀ 1 (rows_laid (row_of marked) (contents_to bs i)) in
      let row : List ℕ = laid (row_of marked) (next_row (offset_at marked (count_in bs) i)) in
      let before : 1 + 6 * i + length row ≤ offset_at marked (count_in bs) 0 = omega (arith, length_laid (row_of marked) (next_row (offset_at marked (count_in bs) i))) in
      r
      ∙ (λ j. sets (q j) (place j) (laid marked.bodies (body_of (is j))))
      ∙ (λ j. sets (sets (p j) (1 + 6 * i) (laid (row_of marked) (key_of (is j) ++ (place j ∷ [])))) (offset_at marked (count_in bs) i) (laid marked.bodies (body_of (slot_entry bs i))))
      ∙ ap (λ (x : List ℕ). sets x (offset_at marked (count_in bs) i) (laid marked.bodies (body_of (slot_entry bs i))))
      (sym (sets_sets row rows (1 + 6 * i) (offset_at marked (count_in bs) 0) (rows_laid marked.bodies (bodies_to bs i)) before)
      ∙ ap (λ (x : List ℕ). sets x (offset_at marked (count_in bs) 0) (rows_laid marked.bodies (bodies_to bs i))) (row_turn s₀))
      ∙ body_turn (sets s₀ 1 (rows_laid (row_of marked) (contents_to bs (i + 1))))

-- all of them
pub all_taken : (bs : List ℕ) (i : ℕ) → count_in bs ≤ i → take i (table_in bs) ≡ table_in bs
all_taken bs i h = take_all i (table_in bs) (omega (arith, table_count bs))
