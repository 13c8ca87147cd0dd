-- The turn is fair. Assumes nothing.
-- While an attribute is found due and not written, each turn gives back an id that comes before it in the round, has an entry of the cluster,
-- and itself no longer comes before it from then on: so fewer and fewer of the cluster's entries do, and it is none of them.
use Rattle.std.specs.Prelude.{Some}
use mathlib.Core.Path.{◌≡◌, refl, sym, ap, ◌∙◌, subst}
use mathlib.Core.Logic.{◌⊎◌, inl, inr}
use mathlib.Core.Bool.{Bool, true, false, not, cond, ◌&&◌, true≢false}
use mathlib.Core.List.{List, [], ◌∷◌}
use Prim.Native.Nat.{ℕ, ◌≤◌, ◌<◌}
use native.Mathlib.Omega.{arith}
use lib.ListN.{length}
use lib.Dec.{ltb, eqb}
use borrow.Author.Tests.{eqb-true, eq-eqb, not-true}
use Rattle.store.specs.Contents.{cluster_of}
use Rattle.reporting.specs.declared.entry.Key.{Key}
use Rattle.reporting.specs.declared.entry.Entry.{Entry}
use Rattle.reporting.specs.Entries.{find_l, lookup_l, configure_l}
use Rattle.reporting.specs.Claims.Events.{Event, configured, cleared, asked, marked, after}
use Rattle.report.specs.Turn.{Turn, key_of}
use Rattle.report.specs.Claims.Words.{Each, OneOf}
use Rattle.report.specs.Claims.Turns.{given_back, turned}
use Rattle.report.specs.Claims.History.{Happening, turn, event, Met, turns_of, HandedFrom, Handed}
use Rattle.report.specs.Claims.Fairness.{count, of_cluster, found, reported, StoresOfBytes, Known, NoneNew, DueAlone, FairnessByLess}
use Rattle.report.proofs.Lists.{and_true, one_or_none, before, before_self, before_last, before_on}
use Rattle.report.proofs.Counts.{count_mark, count_turned, count_configure, count_again, count_clear_le, count_less}
use Rattle.report.proofs.Moves.{Nearer, comes_nearer, found_entry}

module _ (cluster : ℕ) where
  -- a test that only keys of the cluster pass
  abbrev pub Inside : (Key → Bool) → Type 0
  Inside ok = (k : Key) → of_cluster cluster k ≡ false → ok k ≡ false

  -- what else happens leaves no more of such entries
  pub count_after : (ok : Key → Bool) → Inside ok → (limit : ℕ) (e : Event) (l : List Entry) → Known cluster e l → count ok (after limit e l) ≤ count ok l
  count_after ok i limit (configured k g) l h = go (ok k) refl (of_cluster cluster k) refl
    where
      again : (b : Bool) → not b ≡ false → b ≡ true
      again true h = refl
      again false h = absurd (true≢false h)

      go : (a : Bool) → ok k ≡ a → (b : Bool) → of_cluster cluster k ≡ b → count ok (configure_l limit k g l) ≤ count ok l
      go false e b f = let p = count_configure ok limit k g l e in omega (arith, p)
      go true e true f =
          let p = count_again ok limit k g l (again (ltb (find_l k l) (length l)) (sym (ap (λ b. b && not (ltb (find_l k l) (length l))) f) ∙ h)) in
          omega (arith, p)
      go true e false f = absurd (true≢false (sym e ∙ i k f))
  count_after ok i limit (cleared k) l h = count_clear_le ok k l
  count_after ok i limit (asked k now v a) l h = omega arith
  count_after ok i limit (marked k now v) l h = let p = count_mark ok k now v l in omega (arith, p)

  -- the keys of the cluster that come before x
  abbrev early : ℕ → ℕ → Key → Bool
  early last x k = of_cluster cluster k && before last k.attribute.0 x

  early_inside : (last : ℕ) (x : ℕ) → Inside (early last x)
  early_inside last x k h = rw h

  early_is : (last : ℕ) (x y : ℕ) → early last x (key_of cluster y) ≡ before last y x
  early_is last x y = rw (eq-eqb cluster cluster refl)

  -- one turn: one at least is passed
  step : (form : ℕ) (u : Turn) (l : List Entry) (x : ℕ) → cluster_of u.store ≡ cluster → Nearer u l x (given_back form u l)
      → count (early (given_back form u l) x) l < count (early u.last x) l
  step form u l x c n =
      subst (λ b. count (early b x) l < count (early u.last x) l) (sym n.back_is)
      (count_less (early n.id x) (early u.last x) wider (key_of cluster n.id) n.entry l (subst (λ d. lookup_l (key_of d n.id) l ≡ Some n.entry) c n.stands)
      (early_is n.id x n.id ∙ before_last n.id x n.small) (early_is u.last x n.id ∙ n.comes))
    where
      wider : (k : Key) → early n.id x k ≡ true → early u.last x k ≡ true
      wider k h =
          let p = and_true (of_cluster cluster k) (before n.id k.attribute.0 x) h in
          simp (p.0, before_on u.last n.id x k.attribute.0 n.small n.comes p.1)

  -- turns that find x due and do not write it are at most as many as the entries that come before it
  row : (form limit x : ℕ) (hs : List Happening) (l : List Entry) (last : ℕ) → NoneNew form limit cluster hs l → StoresOfBytes (turns_of form limit cluster hs l)
      → HandedFrom form last (turns_of form limit cluster hs l) → DueAlone form (turns_of form limit cluster hs l)
      → Each (found form x) (turns_of form limit cluster hs l) → Each (λ m. not (reported form x m)) (turns_of form limit cluster hs l)
      → length (turns_of form limit cluster hs l) ≤ count (early last x) l
  row form limit x [] l last st by ha al fo re = omega arith
  row form limit x (event e ∷ hs) l last st by ha al fo re =
      let p = count_after (early last x) (early_inside last x) limit e l st.0 in
      let r = row form limit x hs (after limit e l) last st.1 by ha al fo re in
      omega (arith, p, r)
  row form limit x (turn u ∷ hs) l last st by ha al fo re =
      go (eqb (cluster_of u.store) cluster) refl by ha al fo re (λ last by ha al fo re. rw (← (count_turned (early last x) form u l)) (row form limit x hs (turned form u l) last st by ha al fo re))
    where
      rest : List Met
      rest = turns_of form limit cluster hs (turned form u l)

      go : (b : Bool) → eqb (cluster_of u.store) cluster ≡ b
          → StoresOfBytes (cond b (record { turn = u; entries = l } ∷ rest) rest)
          → HandedFrom form last (cond b (record { turn = u; entries = l } ∷ rest) rest) → DueAlone form (cond b (record { turn = u; entries = l } ∷ rest) rest)
          → Each (found form x) (cond b (record { turn = u; entries = l } ∷ rest) rest) → Each (λ m. not (reported form x m)) (cond b (record { turn = u; entries = l } ∷ rest) rest)
          → ((last : ℕ) → StoresOfBytes rest → HandedFrom form last rest → DueAlone form rest → Each (found form x) rest → Each (λ m. not (reported form x m)) rest → length rest ≤ count (early last x) l)
          → length (cond b (record { turn = u; entries = l } ∷ rest) rest) ≤ count (early last x) l
      go true e by ha al fo re ih =
          let c = eqb-true (cluster_of u.store) cluster e in
          let n = comes_nearer form u l x by.0 fo.0 (not-true _ re.0) al.0 in
          let less = subst (λ p. count (early (given_back form u l) x) l < count (early p x) l) ha.0 (step form u l x c n) in
          let k = ih (given_back form u l) by.1 ha.1 al.1 fo.1 re.1 in
          omega (arith, less, k)
      go false e by ha al fo re ih = ih last by ha al fo re

  -- x is not before itself: fewer entries than the cluster has
  fewer : (form x : ℕ) (u : Turn) (l : List Entry) → cluster_of u.store ≡ cluster → found form x (record { turn = u; entries = l }) ≡ true → count (early u.last x) l < count (of_cluster cluster) l
  fewer form x u l c f =
      let e = found_entry form u l x f in
      count_less (early u.last x) (of_cluster cluster) (λ k t. (and_true (of_cluster cluster k) (before u.last k.attribute.0 x) t).0) (key_of cluster x) e.0 l
      (subst (λ d. lookup_l (key_of d x) l ≡ Some e.0) c e.1) (early_is u.last x x ∙ before_self u.last x) (eq-eqb cluster cluster refl)

  -- so n of them cannot all leave it out
  left_out : (form limit x : ℕ) (hs : List Happening) (l : List Entry) → NoneNew form limit cluster hs l → StoresOfBytes (turns_of form limit cluster hs l)
      → Handed form (turns_of form limit cluster hs l) → DueAlone form (turns_of form limit cluster hs l) → 1 ≤ length (turns_of form limit cluster hs l)
      → count (of_cluster cluster) l ≤ length (turns_of form limit cluster hs l) → Each (found form x) (turns_of form limit cluster hs l)
      → Each (λ m. not (reported form x m)) (turns_of form limit cluster hs l) → ⊥
  left_out form limit x [] l st by ha al one many fo re = omega arith
  left_out form limit x (event e ∷ hs) l st by ha al one many fo re =
      let p = count_after (of_cluster cluster) (λ k t. t) limit e l st.0 in
      left_out form limit x hs (after limit e l) st.1 by ha al one (omega (arith, p, many)) fo re
  left_out form limit x (turn u ∷ hs) l st by ha al one many fo re =
      go (eqb (cluster_of u.store) cluster) refl (row form limit x (turn u ∷ hs) l u.last st by) ha al one many fo re by (left_out form limit x hs (turned form u l) st)
    where
      rest : List Met
      rest = turns_of form limit cluster hs (turned form u l)

      go : (b : Bool) → eqb (cluster_of u.store) cluster ≡ b
          → (HandedFrom form u.last (cond b (record { turn = u; entries = l } ∷ rest) rest) → DueAlone form (cond b (record { turn = u; entries = l } ∷ rest) rest)
          → Each (found form x) (cond b (record { turn = u; entries = l } ∷ rest) rest) → Each (λ m. not (reported form x m)) (cond b (record { turn = u; entries = l } ∷ rest) rest)
          → length (cond b (record { turn = u; entries = l } ∷ rest) rest) ≤ count (early u.last x) l)
          → Handed form (cond b (record { turn = u; entries = l } ∷ rest) rest) → DueAlone form (cond b (record { turn = u; entries = l } ∷ rest) rest)
          → 1 ≤ length (cond b (record { turn = u; entries = l } ∷ rest) rest) → count (of_cluster cluster) l ≤ length (cond b (record { turn = u; entries = l } ∷ rest) rest)
          → Each (found form x) (cond b (record { turn = u; entries = l } ∷ rest) rest) → Each (λ m. not (reported form x m)) (cond b (record { turn = u; entries = l } ∷ rest) rest)
          → StoresOfBytes (cond b (record { turn = u; entries = l } ∷ rest) rest)
          → (StoresOfBytes rest → Handed form rest → DueAlone form rest → 1 ≤ length rest → count (of_cluster cluster) (turned form u l) ≤ length rest → Each (found form x) rest → Each (λ m. not (reported form x m)) rest → ⊥)
          → ⊥
      go true e long ha al one many fo re by ih =
          let r = long (refl, ha) al fo re in
          let f = fewer form x u l (eqb-true (cluster_of u.store) cluster e) fo.0 in
          omega (arith, many, r, f)
      go false e long ha al one many fo re by ih = let p = count_turned (of_cluster cluster) form u l in ih by ha al one (omega (arith, p, many)) fo re

pub fair_by_less : FairnessByLess
fair_by_less form limit cluster x hs l st by ha al one many fo = go (one_or_none (reported form x) (turns_of form limit cluster hs l))
  where
    go : OneOf (reported form x) (turns_of form limit cluster hs l) ⊎ Each (λ m. not (reported form x m)) (turns_of form limit cluster hs l) → OneOf (reported form x) (turns_of form limit cluster hs l)
    go (inl o) = o
    go (inr re) = absurd (left_out cluster form limit x hs l st by ha al one many fo re)
