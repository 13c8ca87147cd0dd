-- How many entries have such a key: no mark changes it, nor does setting or clearing another, or setting again what stands. Assumes nothing.
use Rattle.std.specs.Prelude.{Some}
use mathlib.Core.Path.{◌≡◌, refl, sym, ap, ◌∙◌}
use mathlib.Core.Bool.{Bool, true, false, cond, true≢false}
use Rattle.std.proofs.lemmas.Option.{none-some}
use mathlib.Core.List.{List, [], ◌∷◌, ◌++◌}
use Prim.Native.Nat.{ℕ, suc, ◌≤◌, ◌<◌}
use native.Mathlib.Omega.{arith}
use lib.ListN.{length, get_or, take}
use lib.Dec.{ltb}
use lib.IntN.{ℤ}
use Rattle.store.specs.declared.lookup.Attribute.{Attribute}
use Rattle.reporting.specs.declared.entry.Key.{Key}
use Rattle.reporting.specs.declared.entry.ReportingConfig.{ReportingConfig}
use Rattle.reporting.specs.declared.entry.Entry.{Entry}
use Rattle.reporting.specs.Entries.{matches, find_l, lookup_l, fresh, replaced, update_l, configure_l, last_first, clear_l, mark_e, mark_l}
use Rattle.reporting.proofs.Others.{key_is}
use Rattle.report.specs.Turn.{Turn, mark_each}
use Rattle.report.specs.Claims.Turns.{turned, frame_of}
use Rattle.report.specs.Claims.Fairness.{count}

-- ---- what keeps the number

module _ (ok : Key → Bool) where
  pub count_update : (k : Key) (f : Entry → Entry) → ((e : Entry) → matches k e ≡ true → (f e).key ≡ e.key) → (l : List Entry) → count ok (update_l k f l) ≡ count ok l
  count_update k f keeps [] = refl
  count_update k f keeps (e ∷ es) = go (matches k e) refl (count_update k f keeps es)
    where
      go : (b : Bool) → matches k e ≡ b → count ok (update_l k f es) ≡ count ok es → count ok (cond b (f e ∷ es) (e ∷ update_l k f es)) ≡ count ok (e ∷ es)
      go true m ih = ap (λ j. cond (ok j) (suc (count ok es)) (count ok es)) (keeps e m)
      go false m ih = ap (λ n. cond (ok e.key) (suc n) n) ih

  pub count_mark : (k : Key) (now : ℕ) (v : ℤ) (l : List Entry) → count ok (mark_l k now v l) ≡ count ok l
  count_mark k now v l = count_update k (mark_e now v) (λ e m. refl) l

  count_each : (s : List ℕ) (now : ℕ) (these : List Attribute) (l : List Entry) → count ok (mark_each s now these l) ≡ count ok l
  count_each s now [] l = refl
  count_each s now (a ∷ more) l = count_each s now more (mark_l _ now _ l) ∙ count_mark _ now _ l

  -- a turn
  pub count_turned : (form : ℕ) (u : Turn) (l : List Entry) → count ok (turned form u l) ≡ count ok l
  count_turned form u l = count_each u.store u.now (frame_of form u l) l

  -- one more that does not count
  count_append : (l : List Entry) (x : Entry) → ok x.key ≡ false → count ok (l ++ (x ∷ [])) ≡ count ok l
  count_append [] x h = rw h
  count_append (e ∷ es) x h = ap (λ n. cond (ok e.key) (suc n) n) (count_append es x h)

  pub count_configure : (limit : ℕ) (k : Key) (g : ReportingConfig) (l : List Entry) → ok k ≡ false → count ok (configure_l limit k g l) ≡ count ok l
  count_configure limit k g l h = go (ltb (find_l k l) (length l)) (ltb (length l) limit)
    where
      go : (t u : Bool) → count ok (cond t (update_l k (replaced k g) l) (cond u (l ++ (fresh k g ∷ [])) l)) ≡ count ok l
      go true u = count_update k (replaced k g) (λ e m. sym (key_is k e m)) l
      go false true = count_append l (fresh k g) h
      go false false = refl

  -- what stands is set again
  pub count_again : (limit : ℕ) (k : Key) (g : ReportingConfig) (l : List Entry) → ltb (find_l k l) (length l) ≡ true → count ok (configure_l limit k g l) ≡ count ok l
  count_again limit k g l h =
      ap (λ b. count ok (cond b (update_l k (replaced k g) l) (cond (ltb (length l) limit) (l ++ (fresh k g ∷ [])) l))) h
      ∙ count_update k (replaced k g) (λ e m. sym (key_is k e m)) l

  -- the last one first
  count_last : (e : Entry) (es : List Entry) (d : Entry) → count ok (get_or (e ∷ es) (length es) d ∷ take (length es) (e ∷ es)) ≡ count ok (e ∷ es)
  count_last e [] d = refl
  count_last e (x ∷ xs) d = swap (ok (get_or (x ∷ xs) (length xs) d).key) (ok e.key) (count ok (take (length xs) (x ∷ xs))) (count ok (x ∷ xs)) (count_last x xs d)
    where
      swap : (a b : Bool) (m n : ℕ) → cond a (suc m) m ≡ n → cond a (suc (cond b (suc m) m)) (cond b (suc m) m) ≡ cond b (suc n) n
      swap true true m n h = ap suc h
      swap true false m n h = h
      swap false true m n h = ap suc h
      swap false false m n h = h

  count_hole : (l : List Entry) → count ok (last_first l) ≡ count ok l
  count_hole [] = refl
  count_hole (e ∷ es) = count_last e es e

  pub count_clear : (k : Key) (l : List Entry) → ok k ≡ false → count ok (clear_l k l) ≡ count ok l
  count_clear k [] h = refl
  count_clear k (e ∷ es) h = go (matches k e) refl (count_clear k es h)
    where
      go : (b : Bool) → matches k e ≡ b → count ok (clear_l k es) ≡ count ok es → count ok (cond b (last_first es) (e ∷ clear_l k es)) ≡ count ok (e ∷ es)
      go true m ih = count_hole es ∙ sym (ap (λ b. cond b (suc (count ok es)) (count ok es)) (ap ok (key_is k e m) ∙ h))
      go false m ih = ap (λ n. cond (ok e.key) (suc n) n) ih

  -- a clear that is the cluster's own takes one away at most
  pub count_clear_le : (k : Key) (l : List Entry) → count ok (clear_l k l) ≤ count ok l
  count_clear_le k [] = omega arith
  count_clear_le k (e ∷ es) = go (matches k e) (count_clear_le k es)
    where
      less : (c : Bool) (m n : ℕ) → m ≤ n → m ≤ cond c (suc n) n
      less true m n h = omega arith
      less false m n h = h

      both : (c : Bool) (m n : ℕ) → m ≤ n → cond c (suc m) m ≤ cond c (suc n) n
      both true m n h = omega arith
      both false m n h = h

      go : (b : Bool) → count ok (clear_l k es) ≤ count ok es → count ok (cond b (last_first es) (e ∷ clear_l k es)) ≤ count ok (e ∷ es)
      go true ih = less (ok e.key) (count ok (last_first es)) (count ok es) (let h = count_hole es in omega (arith, h))
      go false ih = both (ok e.key) (count ok (clear_l k es)) (count ok es) ih

-- ---- a sharper test counts fewer

module _ (less ok : Key → Bool) (imp : (k : Key) → less k ≡ true → ok k ≡ true) where
  one : (k : Key) (m n : ℕ) → m ≤ n → cond (less k) (suc m) m ≤ cond (ok k) (suc n) n
  one k m n h = go (less k) refl (ok k) refl
    where
      go : (a : Bool) → less k ≡ a → (b : Bool) → ok k ≡ b → cond a (suc m) m ≤ cond b (suc n) n
      go true e true f = omega arith
      go true e false f = absurd (true≢false (sym (imp k e) ∙ f))
      go false e true f = omega arith
      go false e false f = h

  one_strict : (k : Key) (m n : ℕ) → m < n → cond (less k) (suc m) m < cond (ok k) (suc n) n
  one_strict k m n h = go (less k) refl (ok k) refl
    where
      go : (a : Bool) → less k ≡ a → (b : Bool) → ok k ≡ b → cond a (suc m) m < cond b (suc n) n
      go true e true f = omega arith
      go true e false f = absurd (true≢false (sym (imp k e) ∙ f))
      go false e true f = omega arith
      go false e false f = h

  count_le : (l : List Entry) → count less l ≤ count ok l
  count_le [] = omega arith
  count_le (e ∷ es) = one e.key (count less es) (count ok es) (count_le es)

  -- by one at least, where some entry has a key that only the wider test passes
  pub count_less : (k : Key) (e : Entry) (l : List Entry) → lookup_l k l ≡ Some e → less k ≡ false → ok k ≡ true → count less l < count ok l
  count_less k e [] h a b = absurd (none-some e h)
  count_less k e (x ∷ xs) h a b = go (matches k x) refl h (λ p. count_less k e xs p a b)
    where
      here : matches k x ≡ true → cond (less x.key) (suc (count less xs)) (count less xs) < cond (ok x.key) (suc (count ok xs)) (count ok xs)
      here m =
          let le = count_le xs in
          simp (ap less (key_is k x m) ∙ a, ap ok (key_is k x m) ∙ b) (omega (arith, le))

      go : (t : Bool) → matches k x ≡ t → cond t (Some x) (lookup_l k xs) ≡ Some e → (lookup_l k xs ≡ Some e → count less xs < count ok xs)
          → count less (x ∷ xs) < count ok (x ∷ xs)
      go true m p ih = here m
      go false m p ih = one_strict x.key (count less xs) (count ok xs) (ih p)
