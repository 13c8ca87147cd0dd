-- Lists that stand in a row, and what going round and taking as many as fit do to them. Assumes nothing.
use mathlib.Core.Path.{◌≡◌, refl, sym, ap, ◌∙◌, subst}
use mathlib.Core.Logic.{◌⊎◌, inl, inr}
use mathlib.Core.Bool.{Bool, true, false, not, cond, ◌&&◌, ◌||◌, true≢false, false≢true}
use mathlib.Core.List.{List, [], ◌∷◌, ◌++◌}
use Prim.Native.Nat.{ℕ, ◌≤◌, ◌<◌}
use native.Mathlib.Omega.{arith}
use native.Mathlib.Decide.{dec_le}
use lib.Dec.{ltb, eqb}
use borrow.Author.Tests.{eqb-true, ltb-true, ltb-false, lt-ltb, le-ltb, not-true}
use Rattle.report.specs.Round.{keep, above, round, fitting_behind, fitting, last_of}
use Rattle.report.specs.Claims.Words.{names, Each, OneOf, Row}

-- ---- Booleans

pub and_true : (a b : Bool) → (a && b) ≡ true → (a ≡ true) × (b ≡ true)
and_true true b h = (refl, h)
and_true false b h = absurd (false≢true h)

pub or_false : (a b : Bool) → (a || b) ≡ false → (a ≡ false) × (b ≡ false)
or_false true b h = absurd (true≢false h)
or_false false b h = (refl, h)

or_left : (p n k m : Bool) → n ≡ (k || m) → (p || n) ≡ ((p || k) || m)
or_left true n k m h = refl
or_left false n k m h = h

or_right : (p n k m : Bool) → n ≡ (k || m) → (p || n) ≡ (k || (p || m))
or_right true n true m h = refl
or_right true n false m h = refl
or_right false n k m h = h

-- ---- lists with a first one

module _ {A : Type 0} where
  pub not_empty : (a : A) (l : List A) → a ∷ l ≡ [] → ⊥
  not_empty a l h = subst Some h tt
    where
      Some : List A → Type 0
      Some [] = ⊥
      Some (b ∷ m) = Unit

  pub same_first : (a b : A) (l m : List A) → a ∷ l ≡ b ∷ m → a ≡ b
  same_first a b l m h = ap first h
    where
      first : List A → A
      first [] = a
      first (c ∷ n) = c

  pub same_rest : (a b : A) (l m : List A) → a ∷ l ≡ b ∷ m → l ≡ m
  same_rest a b l m h = ap rest h
    where
      rest : List A → List A
      rest [] = []
      rest (c ∷ n) = n

-- ---- what comes before what in a round

-- from the last id on y comes before x
abbrev pub before : ℕ → ℕ → ℕ → Bool
before last y x = cond (above last y) (cond (above last x) (ltb y x) true) (cond (above last x) false (ltb y x))

pub before_self : (last x : ℕ) → before last x x ≡ false
before_self last x = go (above last x) (le-ltb x x (omega arith))
  where
    go : (b : Bool) → ltb x x ≡ false → cond b (cond b (ltb x x) true) (cond b false (ltb x x)) ≡ false
    go true h = h
    go false h = h

-- above an id, and where there is none
pub above_id : (p x : ℕ) → p < 65536 → ltb p x ≡ above p x
above_id p x h = ap (λ b. b || ltb p x) (sym (le-ltb 0xffff p (omega arith)))

pub above_none : (p x : ℕ) → 65536 ≤ p → true ≡ above p x
above_none p x h = ap (λ b. b || ltb p x) (sym (lt-ltb 0xffff p (omega arith)))

-- the same from an id, by comparing ids alone
abbrev before_by : ℕ → ℕ → ℕ → Bool
before_by p y x = cond (ltb p y) (cond (ltb p x) (ltb y x) true) (cond (ltb p x) false (ltb y x))

by_id : (p y x : ℕ) → p < 65536 → before_by p y x ≡ before p y x
by_id p y x h = λ i. cond (above_id p y h i) (cond (above_id p x h i) (ltb y x) true) (cond (above_id p x h i) false (ltb y x))

by_none : (p y x : ℕ) → 65536 ≤ p → ltb y x ≡ before p y x
by_none p y x h = λ i. cond (above_none p y h i) (cond (above_none p x h i) (ltb y x) true) (cond (above_none p x h i) false (ltb y x))

-- what was just written comes last
pub before_last : (q x : ℕ) → q < 65536 → before q q x ≡ false
before_last q x h = sym (by_id q q x h) ∙ rw (le-ltb q q (omega arith)) (go (ltb q x))
  where
    go : (b : Bool) → cond b false b ≡ false
    go true = refl
    go false = refl

-- how y can come before x from p on: both above p; only y above it; neither
data Way (p y x : ℕ) : Type 0 where
  ahead : p < y → y < x → Way p y x
  round_first : p < y → x ≤ p → Way p y x
  behind : y < x → x ≤ p → Way p y x

way_of : (p y x : ℕ) → before_by p y x ≡ true → Way p y x
way_of p y x = go (ltb p y) refl (ltb p x) refl (ltb y x) refl
  where
    go : (a : Bool) → ltb p y ≡ a → (b : Bool) → ltb p x ≡ b → (c : Bool) → ltb y x ≡ c → cond a (cond b c true) (cond b false c) ≡ true → Way p y x
    go true ea true eb true ec h = ahead (ltb-true _ _ ea) (ltb-true _ _ ec)
    go true ea true eb false ec h = absurd (false≢true h)
    go true ea false eb c ec h = round_first (ltb-true _ _ ea) (ltb-false _ _ eb)
    go false ea true eb c ec h = absurd (false≢true h)
    go false ea false eb true ec h = behind (ltb-true _ _ ec) (ltb-false _ _ eb)
    go false ea false eb false ec h = absurd (false≢true h)

by_way : (p y x : ℕ) → Way p y x → before_by p y x ≡ true
by_way p y x (ahead h k) = simp (lt-ltb p y h, lt-ltb p x (omega arith), lt-ltb y x k)
by_way p y x (round_first h k) = simp (lt-ltb p y h, le-ltb p x k)
by_way p y x (behind h k) = simp (le-ltb p y (omega arith), le-ltb p x k, lt-ltb y x h)

way_on : (p q x y : ℕ) → Way p q x → Way q y x → Way p y x
way_on p q x y (ahead a b) (ahead c d) = ahead (omega arith) d
way_on p q x y (ahead a b) (round_first c d) = absurd (omega arith)
way_on p q x y (ahead a b) (behind c d) = absurd (omega arith)
way_on p q x y (round_first a b) (ahead c d) = absurd (omega arith)
way_on p q x y (round_first a b) (round_first c d) = round_first (omega arith) b
way_on p q x y (round_first a b) (behind c d) = behind c b
way_on p q x y (behind a b) (ahead c d) = behind d b
way_on p q x y (behind a b) (round_first c d) = absurd (omega arith)
way_on p q x y (behind a b) (behind c d) = absurd (omega arith)

-- where q comes before x, what comes before x from q on does so from the last id on
pub before_on : (last q x y : ℕ) → q < 65536 → before last q x ≡ true → before q y x ≡ true → before last y x ≡ true
before_on last q x y s h k = go (dec_le 65536 last)
  where
    later : Way q y x
    later = way_of q y x (by_id q y x s ∙ k)

    straight : q < x → Way q y x → ltb y x ≡ true
    straight z (ahead c d) = lt-ltb y x d
    straight z (round_first c d) = absurd (omega arith)
    straight z (behind c d) = lt-ltb y x c

    go : Dec (65536 ≤ last) → before last y x ≡ true
    go (yes n) = sym (by_none last y x n) ∙ straight (ltb-true q x (by_none last q x n ∙ h)) later
    go (no n) =
        let p : last < 65536 = omega arith in
        sym (by_id last y x p) ∙ by_way last y x (way_on last q x y (way_of last q x (by_id last q x p ∙ h)) later)

-- ---- what holds of each

module _ {A : Type 0} where
  pub each_append : (f : A → Bool) (l m : List A) → Each f l → Each f m → Each f (l ++ m)
  each_append f [] m h k = k
  each_append f (a ∷ l) m h k = (h.0, each_append f l m h.1 k)

  pub each_first : (f : A → Bool) (l m : List A) → Each f (l ++ m) → Each f l
  each_first f [] m h = tt
  each_first f (a ∷ l) m h = (h.0, each_first f l m h.1)

  pub each_weaker : (f g : A → Bool) → ((a : A) → f a ≡ true → g a ≡ true) → (l : List A) → Each f l → Each g l
  each_weaker f g imp [] h = tt
  each_weaker f g imp (a ∷ l) h = (imp a h.0, each_weaker f g imp l h.1)

  -- of those that are kept: what each was, and the test
  pub each_kept : (ok f g : A → Bool) → ((a : A) → ok a ≡ true → f a ≡ true → g a ≡ true) → (l : List A) → Each f l → Each g (keep ok l)
  each_kept ok f g imp [] h = tt
  each_kept ok f g imp (a ∷ l) h = go (ok a) refl (each_kept ok f g imp l h.1)
    where
      go : (b : Bool) → ok a ≡ b → Each g (keep ok l) → Each g (cond b (a ∷ keep ok l) (keep ok l))
      go true e ih = (imp a e h.0, ih)
      go false e ih = ih

  pub each_ok : (ok g : A → Bool) → ((a : A) → ok a ≡ true → g a ≡ true) → (l : List A) → Each g (keep ok l)
  each_ok ok g imp [] = tt
  each_ok ok g imp (a ∷ l) = go (ok a) refl (each_ok ok g imp l)
    where
      go : (b : Bool) → ok a ≡ b → Each g (keep ok l) → Each g (cond b (a ∷ keep ok l) (keep ok l))
      go true e ih = (imp a e, ih)
      go false e ih = ih

  -- a sharper test keeps fewer
  pub each_sharper : (ok less f : A → Bool) → ((a : A) → less a ≡ true → ok a ≡ true) → (l : List A) → Each f (keep ok l) → Each f (keep less l)
  each_sharper ok less f imp [] h = tt
  each_sharper ok less f imp (a ∷ l) h = go (less a) refl (ok a) refl h (each_sharper ok less f imp l)
    where
      go : (b : Bool) → less a ≡ b → (c : Bool) → ok a ≡ c → Each f (cond c (a ∷ keep ok l) (keep ok l)) → (Each f (keep ok l) → Each f (keep less l))
          → Each f (cond b (a ∷ keep less l) (keep less l))
      go true e true k h ih = (h.0, ih h.1)
      go true e false k h ih = absurd (true≢false (sym (imp a e) ∙ k))
      go false e true k h ih = ih h.1
      go false e false k h ih = ih h

  -- going round keeps what each has
  pub each_round : (id : A → ℕ) (f : A → Bool) (last : ℕ) (l : List A) → Each f l → Each f (round id last l)
  each_round id f last l h =
      each_append f (keep (λ a. above last (id a)) l) (keep (λ a. not (above last (id a))) l)
      (each_kept (λ a. above last (id a)) f f (λ a t k. k) l h)
      (each_kept (λ a. not (above last (id a))) f f (λ a t k. k) l h)

  -- one passes the test, or none does
  pub one_or_none : (f : A → Bool) (l : List A) → OneOf f l ⊎ Each (λ a. not (f a)) l
  one_or_none f [] = inr tt
  one_or_none f (a ∷ l) = go (f a) refl (one_or_none f l)
    where
      go : (b : Bool) → f a ≡ b → OneOf f l ⊎ Each (λ a. not (f a)) l → ((f a ≡ true) ⊎ OneOf f l) ⊎ ((not (f a) ≡ true) × Each (λ a. not (f a)) l)
      go true e o = inl (inl e)
      go false e (inl o) = inl (inr o)
      go false e (inr o) = inr (ap not e, o)

-- ---- names

module _ {A : Type 0} (id : A → ℕ) (x : ℕ) where
  pub names_append : (l m : List A) → names id x (l ++ m) ≡ (names id x l || names id x m)
  names_append [] m = refl
  names_append (a ∷ l) m = go (eqb (id a) x) (names_append l m)
    where
      go : (b : Bool) → names id x (l ++ m) ≡ (names id x l || names id x m) → (b || names id x (l ++ m)) ≡ ((b || names id x l) || names id x m)
      go true ih = refl
      go false ih = ih

  -- what passes a test and what does not are all
  names_split : (ok : A → Bool) (l : List A) → names id x l ≡ (names id x (keep ok l) || names id x (keep (λ a. not (ok a)) l))
  names_split ok [] = refl
  names_split ok (a ∷ l) = go (ok a) (names_split ok l)
    where
      go : (b : Bool) → names id x l ≡ (names id x (keep ok l) || names id x (keep (λ a. not (ok a)) l))
          → names id x (a ∷ l) ≡ (names id x (cond b (a ∷ keep ok l) (keep ok l)) || names id x (cond (not b) (a ∷ keep (λ a. not (ok a)) l) (keep (λ a. not (ok a)) l)))
      go true ih = or_left (eqb (id a) x) (names id x l) (names id x (keep ok l)) (names id x (keep (λ a. not (ok a)) l)) ih
      go false ih = or_right (eqb (id a) x) (names id x l) (names id x (keep ok l)) (names id x (keep (λ a. not (ok a)) l)) ih

  pub names_round : (last : ℕ) (l : List A) → names id x (round id last l) ≡ names id x l
  names_round last l =
      names_append (keep (λ a. above last (id a)) l) (keep (λ a. not (above last (id a))) l) ∙ sym (names_split (λ a. above last (id a)) l)

  pub each_at : (f : ℕ → Bool) (l : List A) → Each (λ a. f (id a)) l → names id x l ≡ true → f x ≡ true
  each_at f [] h n = absurd (false≢true n)
  each_at f (a ∷ l) h n = go (eqb (id a) x) refl n (each_at f l h.1)
    where
      go : (b : Bool) → eqb (id a) x ≡ b → (b || names id x l) ≡ true → (names id x l ≡ true → f x ≡ true) → f x ≡ true
      go true e n ih = subst (λ y. f y ≡ true) (eqb-true (id a) x e) h.0
      go false e n ih = ih n

-- ---- lists in a row: each stands before those behind it

module _ {A : Type 0} (id : A → ℕ) where
  row_append : (R : ℕ → ℕ → Bool) (f : A → Bool) (l m : List A) → Row id R l → Each f l → Row id R m → ((a : A) → f a ≡ true → Each (λ b. R (id a) (id b)) m) → Row id R (l ++ m)
  row_append R f [] m h t k c = k
  row_append R f (a ∷ l) m h t k c = (each_append (λ b. R (id a) (id b)) l m h.0 (c a t.0), row_append R f l m h.1 t.1 k c)

  row_kept : (ok : A → Bool) (R S : ℕ → ℕ → Bool) → ((a b : A) → ok a ≡ true → ok b ≡ true → R (id a) (id b) ≡ true → S (id a) (id b) ≡ true)
      → (l : List A) → Row id R l → Row id S (keep ok l)
  row_kept ok R S imp [] h = tt
  row_kept ok R S imp (a ∷ l) h = go (ok a) refl (row_kept ok R S imp l h.1)
    where
      go : (b : Bool) → ok a ≡ b → Row id S (keep ok l) → Row id S (cond b (a ∷ keep ok l) (keep ok l))
      go true e ih = (each_kept ok (λ b. R (id a) (id b)) (λ b. S (id a) (id b)) (λ b t r. imp a b e t r) l h.0, ih)
      go false e ih = ih

  pub row_keep : (ok : A → Bool) (R : ℕ → ℕ → Bool) (l : List A) → Row id R l → Row id R (keep ok l)
  row_keep ok R l h = row_kept ok R R (λ a b t u r. r) l h

  -- ascending ids, gone round: each comes before those behind it
  pub row_round : (last : ℕ) (l : List A) → Row id ltb l → Row id (before last) (round id last l)
  row_round last l h =
      row_append (before last) up (keep up l) (keep down l)
      (row_kept up ltb (before last) (λ a b t u r. both_up (above last (id a)) (above last (id b)) (ltb (id a) (id b)) t u r) l h)
      (each_ok up up (λ a t. t) l)
      (row_kept down ltb (before last) (λ a b t u r. both_down (above last (id a)) (above last (id b)) (ltb (id a) (id b)) t u r) l h)
      (λ a t. each_ok down (λ b. before last (id a) (id b)) (λ b u. across (above last (id a)) (above last (id b)) (ltb (id a) (id b)) t u) l)
    where
      up : A → Bool
      up a = above last (id a)

      down : A → Bool
      down a = not (above last (id a))

      both_up : (a b c : Bool) → a ≡ true → b ≡ true → c ≡ true → cond a (cond b c true) (cond b false c) ≡ true
      both_up a b c t u r = simp (t, u, r)

      both_down : (a b c : Bool) → not a ≡ true → not b ≡ true → c ≡ true → cond a (cond b c true) (cond b false c) ≡ true
      both_down a b c t u r = simp (not-true a t, not-true b u, r)

      across : (a b c : Bool) → a ≡ true → not b ≡ true → cond a (cond b c true) (cond b false c) ≡ true
      across a b c t u = simp (t, not-true b u)

  -- the last of those that were taken comes before any that was left
  pub last_before : (R : ℕ → ℕ → Bool) (f : A → Bool) (x : ℕ) (p : ℕ) (a : A) (l rest : List A) → Row id R ((a ∷ l) ++ rest) → Each f (a ∷ l) → names id x rest ≡ true
      → (b : A) × (last_of id p (a ∷ l) ≡ id b) × (f b ≡ true) × (R (id b) x ≡ true)
  last_before R f x p a [] rest r h n = (a, refl, h.0, each_at id x (R (id a)) rest r.0 n)
  last_before R f x p a (b ∷ l) rest r h n = last_before R f x (id a) b l rest r.1 h.1 n

-- ---- as many as fit

module _ {A : Type 0} (fit : List A → Bool) where
  fitting_first : (early l : List A) → (rest : List A) × (l ≡ fitting_behind fit early l ++ rest)
  fitting_first early [] = ([], refl)
  fitting_first early (a ∷ l) = go (fit (early ++ (a ∷ []))) (fitting_first (early ++ (a ∷ [])) l)
    where
      go : (b : Bool) → (rest : List A) × (l ≡ fitting_behind fit (early ++ (a ∷ [])) l ++ rest)
          → (rest : List A) × (a ∷ l ≡ cond b (a ∷ fitting_behind fit (early ++ (a ∷ [])) l) [] ++ rest)
      go true ih = (ih.0, ap (λ r. a ∷ r) ih.1)
      go false ih = (a ∷ l, refl)

  -- they come first, and the rest behind them
  pub fitting_splits : (l : List A) → (rest : List A) × (l ≡ fitting fit l ++ rest)
  fitting_splits l = fitting_first [] l

  -- where each fits alone, one at least is taken
  pub fitting_some : (id : A → ℕ) (x : ℕ) (l : List A) → Each (λ a. fit (a ∷ [])) l → names id x l ≡ true → (a : A) × (w : List A) × (fitting fit l ≡ a ∷ w)
  fitting_some id x [] h n = absurd (false≢true n)
  fitting_some id x (a ∷ l) h n = (a, fitting_behind fit (a ∷ []) l, rw h.0)
