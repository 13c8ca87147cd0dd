-- What a turn finds and reports of an attribute goes by that attribute's entry alone, as the reports before left it, whatever else happens:
-- `follow`. So turns are asks, and the laws of asks hold of them (crate `reporting`, proofs/Follows.antt). Assumes nothing.
use Rattle.std.specs.Prelude.{Some}
use mathlib.Core.Path.{◌≡◌, refl, sym, ap, ◌∙◌, subst}
use mathlib.Core.Bool.{Bool, true, false, not, cond, ◌&&◌, ◌||◌, true≢false, and-false}
use mathlib.Core.List.{List, [], ◌∷◌, ◌++◌}
use Prim.Native.Nat.{ℕ}
use native.Mathlib.Omega.{arith}
use lib.ListN.{length}
use lib.Dec.{leb, ltb, eqb}
use lib.IntN.{ℤ}
use borrow.Author.Tests.{eqb-true, eq-eqb, ltb-true}
use Rattle.store.specs.declared.lookup.Attribute.{Attribute}
use Rattle.store.specs.Contents.{cluster_of, attributes_of, reportable}
use Rattle.store.specs.Layout.{is_store}
use Rattle.reporting.specs.declared.entry.Key.{Key}
use Rattle.reporting.specs.declared.entry.Entry.{Entry}
use Rattle.reporting.specs.Entries.{same, lookup_l, Distinct, mark_e, mark_l}
use Rattle.reporting.specs.Due.{due_e, due_o, due_l}
use Rattle.reporting.specs.Claims.Events.{configured, cleared, asked, marked, after}
use Rattle.reporting.specs.Demand3.{Ask}
use Rattle.reporting.proofs.Others.{other_not, update_other, update_distinct}
use Rattle.reporting.proofs.Histories.{mark_own, after_other, after_distinct}
use Rattle.reporting.proofs.Follows.{mark_all, Follows}
use Rattle.report.specs.Report.{report_head}
use Rattle.report.specs.Round.{keep, above, round, fitting}
use Rattle.report.specs.Turn.{Turn, id_of, key_of, value_in, is_due, due_of, one_frame, written_of, mark_each}
use Rattle.report.specs.Claims.Words.{names, Each, Row}
use Rattle.report.specs.Claims.Turns.{value_at, begins, frame_of, turned, DueIs, DueAscend}
use Rattle.report.specs.Claims.History.{Happening, turn, event, Met, turns_of}
use Rattle.report.specs.Claims.Fairness.{found, reported}
use Rattle.report.specs.Claims.Demand3.{Look, looks_of, LeftAlone, Present}
use Rattle.report.proofs.Lists.{and_true, row_keep, fitting_splits}
use Rattle.report.proofs.Moves.{store_row}

-- ---- a turn as an ask

abbrev pub ask_of : Look → Ask
ask_of q = record { time = q.time; value = q.value; answer = q.found; marks = cond q.reported (record { time = q.time; value = q.value } ∷ []) [] }

abbrev pub asks_of : List Look → List Ask
asks_of [] = []
asks_of (q ∷ qs) = ask_of q ∷ asks_of qs

-- ---- what holds of all

module _ {A : Type 0} (P : A → Type 0) where
  abbrev All : List A → Type 0
  All [] = Unit
  All (a ∷ more) = P a × All more

  all_keep : (ok : A → Bool) (l : List A) → All l → All (keep ok l)
  all_keep ok [] h = tt
  all_keep ok (a ∷ l) h = go (ok a) (all_keep ok l h.1)
    where
      go : (b : Bool) → All (keep ok l) → All (cond b (a ∷ keep ok l) (keep ok l))
      go true ih = (h.0, ih)
      go false ih = ih

  all_append : (l m : List A) → All l → All m → All (l ++ m)
  all_append [] m h k = k
  all_append (a ∷ l) m h k = (h.0, all_append l m h.1 k)

  all_first : (l m : List A) → All (l ++ m) → All l
  all_first [] m h = tt
  all_first (a ∷ l) m h = (h.0, all_first l m h.1)

  all_round : (id : A → ℕ) (last : ℕ) (l : List A) → All l → All (round id last l)
  all_round id last l h =
      all_append (keep (λ a. above last (id a)) l) (keep (λ a. not (above last (id a))) l) (all_keep (λ a. above last (id a)) l h) (all_keep (λ a. not (above last (id a))) l h)

  all_fitting : (fit : List A → Bool) (l : List A) → All l → All (fitting fit l)
  all_fitting fit l h = let p = fitting_splits fit l in all_first (fitting fit l) p.0 (subst All p.1 h)

-- ---- an id has one value

abbrev Agrees : List ℕ → ℕ → ℤ → Attribute → Type 0
Agrees s x v a = eqb (id_of a) x ≡ true → value_in s a ≡ v

agree : (s : List ℕ) (x : ℕ) (l : List Attribute) → Row id_of ltb l → All (Agrees s x (value_at s x l)) l
agree s x [] r = tt
agree s x (a ∷ more) r = go (eqb (id_of a) x) refl (agree s x more r.1)
  where
    behind : eqb (id_of a) x ≡ true → (m : List Attribute) → Each (λ b. ltb (id_of a) (id_of b)) m → All (Agrees s x (value_in s a)) m
    behind e [] h = tt
    behind e (b ∷ m) h =
        (λ t. absurd (let p = eqb-true (id_of a) x e in let q = eqb-true (id_of b) x t in let w = ltb-true (id_of a) (id_of b) h.0 in omega (arith, p, q, w)), behind e m h.1)

    go : (b : Bool) → eqb (id_of a) x ≡ b → All (Agrees s x (value_at s x more)) more → All (Agrees s x (cond b (value_in s a) (value_at s x more))) (a ∷ more)
    go true e ih = (λ t. refl, behind e more r.0)
    go false e ih = (λ t. absurd (true≢false (sym t ∙ e)), ih)

-- ---- what a turn finds

hit : (x : ℕ) (a : Attribute) (b : Bool) (l : List Attribute) → eqb (id_of a) x ≡ true → names id_of x (cond b (a ∷ l) l) ≡ (b || names id_of x l)
hit x a true l e = rw e
hit x a false l e = refl

pass : (x : ℕ) (a : Attribute) (b : Bool) (l : List Attribute) → eqb (id_of a) x ≡ false → names id_of x (cond b (a ∷ l) l) ≡ names id_of x l
pass x a true l e = rw e
pass x a false l e = refl

spread : (r n d : Bool) → ((r && d) || (n && d)) ≡ ((r || n) && d)
spread true n true = refl
spread true n false = and-false n
spread false n d = refl

module _ (s : List ℕ) (now x : ℕ) (l : List Entry) (v : ℤ) where
  abbrev due : Bool
  due = due_l (key_of (cluster_of s) x) now v l

  due_one : (a : Attribute) → eqb (id_of a) x ≡ true → Agrees s x v a → is_due s now l a ≡ (reportable a && due)
  unfolding is_due
  due_one a e h = λ i. reportable a && due_l (key_of (cluster_of s) (eqb-true (id_of a) x e i)) now (h e i) l

  find : (as' : List Attribute) → All (Agrees s x v) as' → names id_of x (keep (is_due s now l) as') ≡ (names id_of x (keep reportable as') && due)
  find [] h = refl
  find (a ∷ more) h = go (eqb (id_of a) x) refl (find more h.1)
    where
      go : (b : Bool) → eqb (id_of a) x ≡ b → names id_of x (keep (is_due s now l) more) ≡ (names id_of x (keep reportable more) && due)
          → names id_of x (keep (is_due s now l) (a ∷ more)) ≡ (names id_of x (keep reportable (a ∷ more)) && due)
      go true e ih =
          hit x a (is_due s now l a) (keep (is_due s now l) more) e
          ∙ (λ i. due_one a e h.0 i || ih i)
          ∙ spread (reportable a) (names id_of x (keep reportable more)) due
          ∙ ap (λ b. b && due) (sym (hit x a (reportable a) (keep reportable more) e))
      go false e ih = pass x a (is_due s now l a) (keep (is_due s now l) more) e ∙ ih ∙ ap (λ b. b && due) (sym (pass x a (reportable a) (keep reportable more) e))

pub due_is : DueIs
due_is form s now x l h =
    find s now x l (value_at s x (attributes_of form s)) (attributes_of form s) (agree s x (attributes_of form s) (store_row form s h))

pub due_ascend : DueAscend
due_ascend form s now l h = row_keep id_of (is_due s now l) ltb (attributes_of form s) (store_row form s h)

-- ---- what its marks do to one entry

module _ (s : List ℕ) (now : ℕ) where
  pub marks_distinct : (w : List Attribute) (l : List Entry) → Distinct l → Distinct (mark_each s now w l)
  marks_distinct [] l d = d
  marks_distinct (a ∷ w) l d = marks_distinct w (mark_l (key_of (cluster_of s) (id_of a)) now (value_in s a) l) (update_distinct (key_of (cluster_of s) (id_of a)) (mark_e now (value_in s a)) (λ e m. refl) l d)

  pub mark_other : (j k : Key) (v : ℤ) (l : List Entry) → same j k ≡ false → lookup_l k (mark_l j now v l) ≡ lookup_l k l
  mark_other j k v l h = update_other j (mark_e now v) (λ e m. refl) k (other_not j k h) l

  -- of another cluster
  marks_other : (k : Key) → eqb (cluster_of s) k.cluster.0 ≡ false → (w : List Attribute) (l : List Entry) → lookup_l k (mark_each s now w l) ≡ lookup_l k l
  marks_other k h [] l = refl
  marks_other k h (a ∷ w) l = marks_other k h w (mark_l (key_of (cluster_of s) (id_of a)) now (value_in s a) l) ∙ mark_other (key_of (cluster_of s) (id_of a)) k (value_in s a) l (rw h)

  -- of its own
  marks_own : (x : ℕ) (v : ℤ) (w : List Attribute) (l : List Entry) (e : Entry) → All (Agrees s x v) w → lookup_l (key_of (cluster_of s) x) l ≡ Some e
      → lookup_l (key_of (cluster_of s) x) (mark_each s now w l) ≡ Some (cond (names id_of x w) (mark_e now v e) e)
  marks_own x v [] l e h k = k
  marks_own x v (a ∷ w) l e h k = go (eqb (id_of a) x) refl (λ e' k'. marks_own x v w (mark_l (key_of (cluster_of s) (id_of a)) now (value_in s a) l) e' h.1 k')
    where
      next : List Entry
      next = mark_l (key_of (cluster_of s) (id_of a)) now (value_in s a) l

      twice : (b : Bool) → cond b (mark_e now v (mark_e now v e)) (mark_e now v e) ≡ mark_e now v e
      twice true = refl
      twice false = refl

      own : eqb (id_of a) x ≡ true → lookup_l (key_of (cluster_of s) x) next ≡ Some (mark_e now v e)
      own t = (λ i. lookup_l (key_of (cluster_of s) x) (mark_l (key_of (cluster_of s) (eqb-true (id_of a) x t i)) now (h.0 t i) l)) ∙ mark_own (key_of (cluster_of s) x) now v l e k

      other : eqb (id_of a) x ≡ false → lookup_l (key_of (cluster_of s) x) next ≡ Some e
      other t = mark_other (key_of (cluster_of s) (id_of a)) (key_of (cluster_of s) x) (value_in s a) l (rw (eq-eqb (cluster_of s) (cluster_of s) refl) t) ∙ k

      go : (b : Bool) → eqb (id_of a) x ≡ b
          → ((e' : Entry) → lookup_l (key_of (cluster_of s) x) next ≡ Some e' → lookup_l (key_of (cluster_of s) x) (mark_each s now w next) ≡ Some (cond (names id_of x w) (mark_e now v e') e'))
          → lookup_l (key_of (cluster_of s) x) (mark_each s now w next) ≡ Some (cond (b || names id_of x w) (mark_e now v e) e)
      go true t ih = ih (mark_e now v e) (own t) ∙ ap Some (twice (names id_of x w))
      go false t ih = ih e (other t)

-- ---- one turn of the cluster

module _ (form x : ℕ) (u : Turn) (l : List Entry) where
  abbrev value : ℤ
  value = value_at u.store x (attributes_of form u.store)

  is-store : begins form u ≡ true → is_store form u.store ≡ true
  unfolding begins
  is-store h = (and_true (is_store form u.store) (leb (length (report_head u.sequence)) u.room) h).0

  agreeing : begins form u ≡ true → All (Agrees u.store x value) (attributes_of form u.store)
  agreeing h = agree u.store x (attributes_of form u.store) (store_row form u.store (is-store h))

  found_is : (e : Entry) → Present form x (record { turn = u; entries = l }) ≡ true → lookup_l (key_of (cluster_of u.store) x) l ≡ Some e
      → found form x (record { turn = u; entries = l }) ≡ due_e e u.now value
  found_is e h k =
      let p = and_true (begins form u) (names id_of x (keep reportable (attributes_of form u.store))) h in
      ap (λ b. names id_of x (cond b (due_of form u.store u.now l) [])) p.0
      ∙ find u.store u.now x l value (attributes_of form u.store) (agreeing p.0)
      ∙ ap (λ b. b && due_l (key_of (cluster_of u.store) x) u.now value l) p.1
      ∙ ap (λ o. due_o o u.now value) k

  entry_is : (e : Entry) → lookup_l (key_of (cluster_of u.store) x) l ≡ Some e
      → lookup_l (key_of (cluster_of u.store) x) (turned form u l) ≡ Some (cond (reported form x (record { turn = u; entries = l })) (mark_e u.now value e) e)
  entry_is e k = go (begins form u) refl
    where
      go : (b : Bool) → begins form u ≡ b
          → lookup_l (key_of (cluster_of u.store) x) (mark_each u.store u.now (cond b (written_of form u l) []) l)
          ≡ Some (cond (names id_of x (cond b (written_of form u l) [])) (mark_e u.now value e) e)
      go true h =
          marks_own u.store u.now x value (written_of form u l) l e
          (all_fitting (Agrees u.store x value) (one_frame u) (round id_of u.last (due_of form u.store u.now l))
          (all_round (Agrees u.store x value) id_of u.last (due_of form u.store u.now l) (all_keep (Agrees u.store x value) (is_due u.store u.now l) (attributes_of form u.store) (agreeing h))))
          k
      go false h = k

-- ---- all of them

marks_all : (b : Bool) (now : ℕ) (v : ℤ) (e : Entry) (qs : List Ask) → Follows (cond b (mark_e now v e) e) qs → Follows (mark_all (cond b (record { time = now; value = v } ∷ []) []) e) qs
marks_all true now v e qs f = f
marks_all false now v e qs f = f

pub follow : (form limit cluster x : ℕ) (hs : List Happening) (l : List Entry) (e : Entry) → Distinct l → lookup_l (key_of cluster x) l ≡ Some e → LeftAlone (key_of cluster x) hs
    → Each (Present form x) (turns_of form limit cluster hs l) → Follows e (asks_of (looks_of form x (turns_of form limit cluster hs l)))
follow form limit cluster x [] l e d k u p = tt
follow form limit cluster x (event (configured j g) ∷ hs) l e d k u p =
    follow form limit cluster x hs (after limit (configured j g) l) e (after_distinct limit (configured j g) l d) (after_other limit (configured j g) (key_of cluster x) l d u.0 ∙ k) u.1 p
follow form limit cluster x (event (cleared j) ∷ hs) l e d k u p =
    follow form limit cluster x hs (after limit (cleared j) l) e (after_distinct limit (cleared j) l d) (after_other limit (cleared j) (key_of cluster x) l d u.0 ∙ k) u.1 p
follow form limit cluster x (event (asked j now v a) ∷ hs) l e d k u p = follow form limit cluster x hs l e d k u p
follow form limit cluster x (event (marked j now v) ∷ hs) l e d k u p =
    follow form limit cluster x hs (after limit (marked j now v) l) e (after_distinct limit (marked j now v) l d) (after_other limit (marked j now v) (key_of cluster x) l d u.0 ∙ k) u.1 p
follow form limit cluster x (turn t ∷ hs) l e d k u p =
    go (eqb (cluster_of t.store) cluster) refl p
    (λ e' k' p'. follow form limit cluster x hs (turned form t l) e' (marks_distinct t.store t.now (frame_of form t l) l d) k' u p')
  where
    rest : List Met
    rest = turns_of form limit cluster hs (turned form t l)

    here : Met
    here = record { turn = t; entries = l }

    go : (b : Bool) → eqb (cluster_of t.store) cluster ≡ b → Each (Present form x) (cond b (here ∷ rest) rest)
        → ((e' : Entry) → lookup_l (key_of cluster x) (turned form t l) ≡ Some e' → Each (Present form x) rest → Follows e' (asks_of (looks_of form x rest)))
        → Follows e (asks_of (looks_of form x (cond b (here ∷ rest) rest)))
    go true c p ih =
        let q = eqb-true (cluster_of t.store) cluster c in
        let own : lookup_l (key_of (cluster_of t.store) x) l ≡ Some e = subst (λ c. lookup_l (key_of c x) l ≡ Some e) (sym q) k in (
          found_is form x t l e p.0 own,
          marks_all (reported form x here) t.now (value form x t l) e (asks_of (looks_of form x rest))
              (ih (cond (reported form x here) (mark_e t.now (value form x t l) e) e)
              (subst (λ c. lookup_l (key_of c x) (turned form t l) ≡ Some (cond (reported form x here) (mark_e t.now (value form x t l) e) e)) q (entry_is form x t l e own))
              p.1),
        )
    go false c p ih = ih e (marks_other t.store t.now (key_of cluster x) c (frame_of form t l) l ∙ k) p
