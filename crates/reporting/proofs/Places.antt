-- The operations on the list of entries as reads and writes at a place. Assumes nothing.
use Rattle.std.specs.Prelude.{None, Some}
use mathlib.Core.Path.{◌≡◌, refl, ap}
use mathlib.Core.Bool.{Bool, true, false, cond}
use mathlib.Core.List.{List, [], ◌∷◌}
use Prim.Native.Nat.{ℕ, zero, suc, ◌+◌, ◌≤◌, ◌<◌, zero-le}
use native.Mathlib.Omega.{arith}
use lib.ListN.{length, get_or, set, take, drop}
use lib.Seq.{drop-cons}
use Rattle.reporting.specs.declared.entry.Key.{Key}
use Rattle.reporting.specs.declared.entry.Entry.{Entry}
use Rattle.reporting.specs.Entries.{matches, find_l, lookup_l, update_l, last_first, clear_l}

pub find_le : (k : Key) (l : List Entry) → find_l k l ≤ length l
find_le k [] = zero-le
find_le k (e ∷ es) = go (matches k e) (find_le k es)
  where
    go : (t : Bool) → find_l k es ≤ length es → cond t 0 (suc (find_l k es)) ≤ suc (length es)
    go true h = zero-le
    go false h = omega arith

-- what a scan that has come to i knows, and how it goes on
pub find_here : (k : Key) (l : List Entry) (i : ℕ) (d : Entry) → i < length l → matches k (get_or l i d) ≡ true → find_l k (drop i l) ≡ 0
find_here k l i d h m = rw (drop-cons l i d h, m)

pub find_next : (k : Key) (l : List Entry) (i : ℕ) (d : Entry) → i < length l → matches k (get_or l i d) ≡ false → find_l k (drop i l) ≡ suc (find_l k (drop (suc i) l))
find_next k l i d h m = rw (drop-cons l i d h, m)

-- where there is an entry of the key, and where there is none
pub lookup_at : (k : Key) (l : List Entry) (d : Entry) → find_l k l < length l → lookup_l k l ≡ Some (get_or l (find_l k l) d)
lookup_at k [] d h = absurd (omega arith)
lookup_at k (e ∷ es) d h = go (matches k e) h (lookup_at k es d)
  where
    go : (t : Bool) → cond t 0 (suc (find_l k es)) < suc (length es) → (find_l k es < length es → lookup_l k es ≡ Some (get_or es (find_l k es) d))
        → cond t (Some e) (lookup_l k es) ≡ Some (get_or (e ∷ es) (cond t 0 (suc (find_l k es))) d)
    go true h ih = refl
    go false h ih = ih (omega arith)

pub lookup_none : (k : Key) (l : List Entry) → length l ≤ find_l k l → lookup_l k l ≡ None
lookup_none k [] h = refl
lookup_none k (e ∷ es) h = go (matches k e) h (lookup_none k es)
  where
    go : (t : Bool) → suc (length es) ≤ cond t 0 (suc (find_l k es)) → (length es ≤ find_l k es → lookup_l k es ≡ None)
        → cond t (Some e) (lookup_l k es) ≡ None
    go true h ih = absurd (omega arith)
    go false h ih = ih (omega arith)

pub update_at : (k : Key) (f : Entry → Entry) (l : List Entry) (d : Entry) → update_l k f l ≡ set l (find_l k l) (f (get_or l (find_l k l) d))
update_at k f [] d = refl
update_at k f (e ∷ es) d = go (matches k e) (update_at k f es d)
  where
    go : (t : Bool) → update_l k f es ≡ set es (find_l k es) (f (get_or es (find_l k es) d))
        → cond t (f e ∷ es) (e ∷ update_l k f es) ≡ set (e ∷ es) (cond t 0 (suc (find_l k es))) (f (get_or (e ∷ es) (cond t 0 (suc (find_l k es))) d))
    go true ih = refl
    go false ih = ap (λ r. e ∷ r) ih

pub clear_none : (k : Key) (l : List Entry) → length l ≤ find_l k l → clear_l k l ≡ l
clear_none k [] h = refl
clear_none k (e ∷ es) h = go (matches k e) h (clear_none k es)
  where
    go : (t : Bool) → suc (length es) ≤ cond t 0 (suc (find_l k es)) → (length es ≤ find_l k es → clear_l k es ≡ es)
        → cond t (last_first es) (e ∷ clear_l k es) ≡ e ∷ es
    go true h ih = absurd (omega arith)
    go false h ih = ap (λ r. e ∷ r) (ih (omega arith))

pub update_none : (k : Key) (f : Entry → Entry) (l : List Entry) → length l ≤ find_l k l → update_l k f l ≡ l
update_none k f [] h = refl
update_none k f (e ∷ es) h = go (matches k e) h (update_none k f es)
  where
    go : (t : Bool) → suc (length es) ≤ cond t 0 (suc (find_l k es)) → (length es ≤ find_l k es → update_l k f es ≡ es)
        → cond t (f e ∷ es) (e ∷ update_l k f es) ≡ e ∷ es
    go true h ih = absurd (omega arith)
    go false h ih = ap (λ r. e ∷ r) (ih (omega arith))

-- within the list the default does not matter
pub get_d_any : (l : List Entry) (i : ℕ) (d d' : Entry) → i < length l → get_or l i d ≡ get_or l i d'
get_d_any [] i d d' h = absurd (omega arith)
get_d_any (e ∷ es) zero d d' h = refl
get_d_any (e ∷ es) (suc i) d d' h = get_d_any es i d d' (omega arith)

last-first : (e : Entry) (es : List Entry) (d : Entry) → last_first es ≡ take (length es) (get_or (e ∷ es) (length es) d ∷ es)
last-first e [] d = refl
last-first e (y ∷ ys) d = ap (λ z. z ∷ take (length ys) (y ∷ ys)) (get_d_any (y ∷ ys) (length ys) y d (omega arith))

pub clear_at : (k : Key) (e : Entry) (es : List Entry) (d : Entry) → find_l k (e ∷ es) ≤ length es
    → clear_l k (e ∷ es) ≡ take (length es) (set (e ∷ es) (find_l k (e ∷ es)) (get_or (e ∷ es) (length es) d))
clear_at k e [] d h = go (matches k e) h
  where
    go : (t : Bool) → cond t 0 1 ≤ 0 → cond t [] (e ∷ []) ≡ []
    go true h = refl
    go false h = absurd (omega arith)
clear_at k e (y ∷ ys) d h = go (matches k e) h (clear_at k y ys d)
  where
    go : (t : Bool) → cond t 0 (suc (find_l k (y ∷ ys))) ≤ suc (length ys)
        → (find_l k (y ∷ ys) ≤ length ys → clear_l k (y ∷ ys) ≡ take (length ys) (set (y ∷ ys) (find_l k (y ∷ ys)) (get_or (y ∷ ys) (length ys) d)))
        → cond t (last_first (y ∷ ys)) (e ∷ clear_l k (y ∷ ys))
        ≡ take (suc (length ys)) (set (e ∷ y ∷ ys) (cond t 0 (suc (find_l k (y ∷ ys)))) (get_or (e ∷ y ∷ ys) (suc (length ys)) d))
    go true h ih = last-first e (y ∷ ys) d
    go false h ih = ap (λ r. e ∷ r) (ih (omega arith))

-- clear_at, at a list that is not taken apart
pub clear_place : (k : Key) (l : List Entry) (m : ℕ) (d : Entry) → find_l k l < length l → m + 1 ≡ length l → clear_l k l ≡ take m (set l (find_l k l) (get_or l m d))
clear_place k [] m d h e = absurd (omega arith)
clear_place k (y ∷ ys) m d h e = let p : m ≡ length ys = omega arith in rw p (clear_at k y ys d (omega arith))
