-- One slot of a table's bytes written over: the bytes of the table with that entry changed, added behind the last, or taken from
-- the end. Over the limit. Assumes nothing.
use Prim.Native.Nat.{ℕ, zero, suc, ◌+◌, ◌-◌, ◌*◌, ◌≤◌, ◌<◌}
use mathlib.Core.Path.{◌≡◌, refl, ap, sym, ◌∙◌}
use mathlib.Core.List.{List, [], ◌∷◌, ◌++◌, map, append_assoc}
use native.Mathlib.Omega.{arith}
use native.Mathlib.Nat.{zero-add, suc-add, zero-mul, suc-mul, mul-le-mul_right}
use lib.ListN.{length, drop, set, length-append, length-map, length-set, length-replicate, replicate-append-replicate}
use lib.Seq.{sets, sets-eq, drop_at}
use Rattle.types.specs.Number.{zeros}
use Rattle.frame.specs.Reply.{padded}
use Rattle.reporting.specs.declared.entry.Entry.{Entry}
use Rattle.reporting.specs.Carried.{widths, total, laid, rows_laid, numbers_of, table_size, table_bytes, slot_bytes}
use Rattle.reporting.proofs.Carriage.{length_laid, length_rows}
use Rattle.reporting.proofs.CarriageLoops.{rows_snoc, map_snoc}

-- ---- a run written into a list

sets_cons : (vs l : List ℕ) (x p : ℕ) → sets (x ∷ l) (suc p) vs ≡ x ∷ sets l p vs
sets_cons [] l x p = refl
sets_cons (v ∷ vs) l x p = sets_cons vs (set l p v) x (suc p)

sets_past : (a b vs : List ℕ) (p : ℕ) → sets (a ++ b) (length a + p) vs ≡ a ++ sets b p vs
sets_past [] b vs p = ap (λ (q : ℕ). sets b q vs) (zero-add p)
sets_past (x ∷ a) b vs p =
    ap (λ (q : ℕ). sets (x ∷ (a ++ b)) q vs) (suc-add (length a) p)
    ∙ sets_cons vs (a ++ b) x (length a + p)
    ∙ ap (λ (l : List ℕ). x ∷ l) (sets_past a b vs p)

-- over as many as it has
sets_first : (a b vs : List ℕ) → length vs ≡ length a → sets (a ++ b) 0 vs ≡ vs ++ b
sets_first a b vs e =
    let z : 0 + length vs ≡ length vs = omega arith in
    sets-eq vs (a ++ b) 0 (omega (arith, length-append a b))
    ∙ ap (λ (n : ℕ). vs ++ drop n (a ++ b)) z
    ∙ ap (λ (l : List ℕ). vs ++ l) (drop_at a b (length vs) (sym e))

-- ---- a row

row_set : (ws : List ℕ) (rows : List (List ℕ)) (i : ℕ) (ns rest : List ℕ) → i < length rows
    → sets (rows_laid ws rows ++ rest) (i * total ws) (laid ws ns) ≡ rows_laid ws (set rows i ns) ++ rest
unfolding rows_laid
row_set ws [] i ns rest h = absurd (omega arith)
row_set ws (r ∷ rows) zero ns rest h =
    (λ j. sets (append_assoc (laid ws r) (rows_laid ws rows) rest j) (zero-mul (total ws) j) (laid ws ns))
    ∙ sets_first (laid ws r) (rows_laid ws rows ++ rest) (laid ws ns) (length_laid ws ns ∙ sym (length_laid ws r))
    ∙ sym (append_assoc (laid ws ns) (rows_laid ws rows) rest)
row_set ws (r ∷ rows) (suc i) ns rest h =
    let p : suc i * total ws ≡ length (laid ws r) + i * total ws = omega (arith, suc-mul i (total ws), length_laid ws r) in
    (λ j. sets (append_assoc (laid ws r) (rows_laid ws rows) rest j) (p j) (laid ws ns))
    ∙ sets_past (laid ws r) (rows_laid ws rows ++ rest) (laid ws ns) (i * total ws)
    ∙ ap (λ (l : List ℕ). laid ws r ++ l) (row_set ws rows i ns rest (omega arith))
    ∙ sym (append_assoc (laid ws r) (rows_laid ws (set rows i ns)) rest)

map_set : (l : List Entry) (i : ℕ) (e : Entry) → map numbers_of (set l i e) ≡ set (map numbers_of l) i (numbers_of e)
map_set [] i e = refl
map_set (x ∷ l) zero e = refl
map_set (x ∷ l) (suc i) e = ap (λ (r : List (List ℕ)). numbers_of x ∷ r) (map_set l i e)

-- ---- a slot of a table

-- the place of the i-th slot, as the code counts it
slot_place : (i : ℕ) → 1 + slot_bytes * i ≡ suc (i * total widths)
slot_place i = omega arith

-- AN ENTRY CHANGED
pub slot_over : (limit : ℕ) (l : List Entry) (i : ℕ) (e : Entry) → i < length l → sets (table_bytes limit l) (1 + slot_bytes * i) (laid widths (numbers_of e)) ≡ table_bytes limit (set l i e)
unfolding table_bytes padded
slot_over limit l i e h =
    let rows : List (List ℕ) = map numbers_of l in
    let ns : List ℕ = numbers_of e in
    let z : List ℕ = zeros (table_size limit - suc (length (rows_laid widths rows))) in
    let m : map numbers_of (set l i e) ≡ set rows i ns = map_set l i e in
    let k : length (set l i e) ≡ length l = length-set l i e in
    let n : length (rows_laid widths (set rows i ns)) ≡ length (rows_laid widths rows) = length_rows widths (set rows i ns) ∙ ap (λ (c : ℕ). c * total widths) (length-set rows i ns) ∙ sym (length_rows widths rows) in
    ap (λ (p : ℕ). sets (length l ∷ (rows_laid widths rows ++ z)) p (laid widths ns)) (slot_place i)
    ∙ sets_cons (laid widths ns) (rows_laid widths rows ++ z) (length l) (i * total widths)
    ∙ ap (λ (b : List ℕ). length l ∷ b) (row_set widths rows i ns z (omega (arith, length-map l numbers_of)))
    ∙ sym
    ((λ j. k j ∷ (rows_laid widths (m j) ++ zeros (table_size limit - suc (length (rows_laid widths (m j))))))
    ∙ ap (λ (q : ℕ). length l ∷ (rows_laid widths (set rows i ns) ++ zeros (table_size limit - suc q))) n)

-- the length of all slots
rows_length : (l : List Entry) → length (rows_laid widths (map numbers_of l)) ≡ length l * slot_bytes
rows_length l = length_rows widths (map numbers_of l) ∙ ap (λ (n : ℕ). n * slot_bytes) (length-map l numbers_of)

size_is : (limit : ℕ) → table_size limit ≡ 1 + limit * slot_bytes
size_is limit = refl

-- the bytes with one entry more: its slot behind the others, and zeros behind it
more_is : (limit : ℕ) (l : List Entry) (e : Entry) → length l < limit
    → table_bytes limit (l ++ (e ∷ [])) ≡ suc (length l) ∷ (rows_laid widths (map numbers_of l) ++ (laid widths (numbers_of e) ++ zeros (table_size limit - suc (length l * slot_bytes + slot_bytes))))
unfolding table_bytes padded
more_is limit l e h =
    let r : List ℕ = rows_laid widths (map numbers_of l) in
    let b : List ℕ = laid widths (numbers_of e) in
    let k : length (l ++ (e ∷ [])) ≡ suc (length l) = omega (arith, length-append l (e ∷ [])) in
    let m : rows_laid widths (map numbers_of (l ++ (e ∷ []))) ≡ r ++ b = ap (rows_laid widths) (map_snoc l e) ∙ rows_snoc widths (map numbers_of l) (numbers_of e) in
    let n : length (r ++ b) ≡ length l * slot_bytes + slot_bytes = omega (arith, length-append r b, rows_length l, length_laid widths (numbers_of e)) in
    (λ j. k j ∷ (m j ++ zeros (table_size limit - suc (length (m j)))))
    ∙ ap (λ (q : ℕ). suc (length l) ∷ ((r ++ b) ++ zeros (table_size limit - suc q))) n
    ∙ ap (λ (x : List ℕ). suc (length l) ∷ x) (append_assoc r b (zeros (table_size limit - suc (length l * slot_bytes + slot_bytes))))

-- and without it: zeros in its place
less_is : (limit : ℕ) (l : List Entry) → length l < limit
    → table_bytes limit l ≡ length l ∷ (rows_laid widths (map numbers_of l) ++ (zeros slot_bytes ++ zeros (table_size limit - suc (length l * slot_bytes + slot_bytes))))
unfolding table_bytes padded
less_is limit l h =
    let r : List ℕ = rows_laid widths (map numbers_of l) in
    let f : (length l + 1) * slot_bytes ≤ limit * slot_bytes = mul-le-mul_right slot_bytes (omega arith) in
    let n : table_size limit - suc (length r) ≡ slot_bytes + (table_size limit - suc (length l * slot_bytes + slot_bytes)) = omega (arith, rows_length l, size_is limit, f) in
    ap (λ (q : ℕ). length l ∷ (r ++ zeros q)) n
    ∙ ap (λ (x : List ℕ). length l ∷ (r ++ x)) (sym (replicate-append-replicate slot_bytes (table_size limit - suc (length l * slot_bytes + slot_bytes)) 0))

-- the slot behind the rows r of l, written over, and the count
behind_set : (l : List Entry) (c d : ℕ) (b vs z : List ℕ) → length vs ≡ length b
    → set (sets (c ∷ (rows_laid widths (map numbers_of l) ++ (b ++ z))) (1 + slot_bytes * length l) vs) 0 d ≡ d ∷ (rows_laid widths (map numbers_of l) ++ (vs ++ z))
behind_set l c d b vs z e =
    let r : List ℕ = rows_laid widths (map numbers_of l) in
    let p : 1 + slot_bytes * length l ≡ suc (length r + 0) = omega (arith, rows_length l) in
    ap (λ (q : ℕ). set (sets (c ∷ (r ++ (b ++ z))) q vs) 0 d) p
    ∙ ap (λ (x : List ℕ). set x 0 d) (sets_cons vs (r ++ (b ++ z)) c (length r + 0) ∙ ap (λ (x : List ℕ). c ∷ x) (sets_past r (b ++ z) vs 0 ∙ ap (λ (x : List ℕ). r ++ x) (sets_first b z vs e)))

-- AN ENTRY ADDED
pub slot_added : (limit : ℕ) (l : List Entry) (e : Entry) → length l < limit
    → set (sets (table_bytes limit l) (1 + slot_bytes * length l) (laid widths (numbers_of e))) 0 (suc (length l)) ≡ table_bytes limit (l ++ (e ∷ []))
slot_added limit l e h =
    ap (λ (x : List ℕ). set (sets x (1 + slot_bytes * length l) (laid widths (numbers_of e))) 0 (suc (length l))) (less_is limit l h)
    ∙ behind_set l (length l) (suc (length l)) (zeros slot_bytes) (laid widths (numbers_of e)) _ (length_laid widths (numbers_of e) ∙ sym (length-replicate {A = ℕ} slot_bytes 0))
    ∙ sym (more_is limit l e h)

-- THE LAST ENTRY TAKEN AWAY
pub slot_gone : (limit : ℕ) (l : List Entry) (e : Entry) → length l < limit
    → set (sets (table_bytes limit (l ++ (e ∷ []))) (1 + slot_bytes * length l) (zeros slot_bytes)) 0 (length l) ≡ table_bytes limit l
slot_gone limit l e h =
    ap (λ (x : List ℕ). set (sets x (1 + slot_bytes * length l) (zeros slot_bytes)) 0 (length l)) (more_is limit l e h)
    ∙ behind_set l (suc (length l)) (length l) (laid widths (numbers_of e)) (zeros slot_bytes) _ (length-replicate {A = ℕ} slot_bytes 0 ∙ sym (length_laid widths (numbers_of e)))
    ∙ sym (less_is limit l h)
