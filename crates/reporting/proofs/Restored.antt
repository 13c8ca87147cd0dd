-- Entries that are read in are their events (specs/Claims/Events.antt, `restore`): what stood is cleared, what was read is configured. Assumes nothing.
use Prim.Native.Nat.{ℕ, suc, ◌+◌, ◌≤◌}
use mathlib.Core.Path.{◌≡◌, refl, sym, ap, ◌∙◌, subst}
use mathlib.Core.Bool.{Bool, true, false, cond, ◌&&◌}
use mathlib.Core.List.{List, [], ◌∷◌, ◌++◌, map, map-append, append_assoc, append-nil}
use native.Mathlib.Omega.{arith}
use lib.ListN.{length, get_or, length-append, length-map}
use lib.Dec.{leb, eqb, ltb}
use borrow.Author.Tests.{leb-true, eqb-true, eq-eqb, le-ltb, lt-ltb}
use Rattle.reporting.specs.declared.entry.Key.{Key}
use Rattle.reporting.specs.declared.entry.Entry.{Entry}
use Rattle.reporting.specs.Entries.{same, matches, find_l, Distinct, distinct, unreported, accepts_l, configure_l, last_first, clear_l}
use Rattle.reporting.specs.Claims.Events.{cleared, run, Honest, Leads, read_in, clearings, settings}
use Rattle.reporting.proofs.Places.{lookup_none, get_d_any}
use Rattle.reporting.proofs.Carriage.{both}
use Rattle.reporting.proofs.Runs.{run_append, honest_append}

-- ---- what is said of entries by their keys

pub find_same : (k : Key) (l : List Entry) → find_l k (map unreported l) ≡ find_l k l
find_same k [] = refl
find_same k (e ∷ l) = ap (λ (n : ℕ). cond (matches k e) 0 (suc n)) (find_same k l)

pub distinct_same : (l : List Entry) → distinct (map unreported l) ≡ distinct l
unfolding distinct
distinct_same [] = refl
distinct_same (e ∷ l) = λ i. eqb (find_same e.key l i) (length-map l unreported i) && distinct_same l i

-- where the test holds, no two entries have one key
pub distinct_so : (l : List Entry) → distinct l ≡ true → Distinct l
unfolding distinct
distinct_so [] d = tt
distinct_so (e ∷ l) d =
    let b = both (eqb (find_l e.key l) (length l)) (distinct l) d in
    (lookup_none e.key l (omega (arith, eqb-true (find_l e.key l) (length l) b.0)), distinct_so l b.1)

-- ---- clearing what stood

abbrev keys : List Entry → List Key
keys l = map (λ (e : Entry). e.key) l

pub same_own : (k : Key) → same k k ≡ true
same_own k = rw (eq-eqb k.cluster.0 k.cluster.0 refl, eq-eqb k.attribute.0 k.attribute.0 refl) refl

same_is : (j k : Key) → same j k ≡ true → j ≡ k
same_is j k h =
    let b = both (eqb j.cluster.0 k.cluster.0) (eqb j.attribute.0 k.attribute.0) h in
    let c = eqb-true _ _ b.0 in
    let a = eqb-true _ _ b.1 in
    λ i. record { cluster = record { 0 = c i }; attribute = record { 0 = a i } }

-- a list of keys that ends in k: its first, and the others
head_key : (a b : Key) (l m : List Key) → a ∷ l ≡ b ∷ m → (a ≡ b) × (l ≡ m)
head_key a b l m e = (cc, cc)

never_snoc : {A : Type 0} (k : Key) (ks : List Key) → [] ≡ ks ++ (k ∷ []) → A
never_snoc k ks e = absurd (omega (arith, ap length e, length-append ks (k ∷ [])))

never_cons : {A : Type 0} (k : Key) (ks : List Key) → k ∷ ks ≡ [] → A
never_cons k ks e = absurd (omega (arith, ap length e))

-- the last entry first
hole_keys : (k : Key) (ks : List Key) (l : List Entry) → keys l ≡ ks ++ (k ∷ []) → keys (last_first l) ≡ k ∷ ks
hole_keys k ks [] e = never_snoc k ks e
hole_keys k [] (y ∷ []) e = e
hole_keys k [] (y ∷ (z ∷ zs)) e = never_cons z.key (keys zs) (head_key _ _ _ _ e).1
hole_keys k (j ∷ ks) (y ∷ []) e = never_snoc k ks (head_key _ _ _ _ e).1
hole_keys k (j ∷ ks) (y ∷ (z ∷ zs)) e =
    let h = head_key _ _ _ _ e in
    let r = head_key _ _ _ _ (hole_keys k ks (z ∷ zs) h.1) in
    let last : get_or (z ∷ zs) (length zs) y ≡ get_or (z ∷ zs) (length zs) z = get_d_any (z ∷ zs) (length zs) y z (omega arith) in
    λ i. (ap (λ (x : Entry). x.key) last ∙ r.0) i ∷ (h.0 i ∷ r.1 i)

-- clearing the last key leaves the keys before it, whichever entry it finds
clear_keys : (k : Key) (ks : List Key) (l : List Entry) → keys l ≡ ks ++ (k ∷ []) → keys (clear_l k l) ≡ ks
clear_keys k ks [] e = never_snoc k ks e
clear_keys k [] (x ∷ []) e = rw (ap (λ (j : Key). same j k) (head_key _ _ _ _ e).0 ∙ same_own k) refl
clear_keys k [] (x ∷ (y ∷ ys)) e = never_cons y.key (keys ys) (head_key _ _ _ _ e).1
clear_keys k (j ∷ ks) (x ∷ xs) e = go (matches k x) refl (clear_keys k ks xs (head_key _ _ _ _ e).1)
  where
    first : x.key ≡ j
    first = (head_key x.key j (keys xs) (ks ++ (k ∷ [])) e).0

    rest : keys xs ≡ ks ++ (k ∷ [])
    rest = (head_key x.key j (keys xs) (ks ++ (k ∷ [])) e).1

    go : (b : Bool) → matches k x ≡ b → keys (clear_l k xs) ≡ ks → keys (cond b (last_first xs) (x ∷ clear_l k xs)) ≡ j ∷ ks
    go true m ih = hole_keys k ks xs rest ∙ ap (λ (i : Key). i ∷ ks) (sym (same_is x.key k m) ∙ first)
    go false m ih = λ i. first i ∷ ih i

-- all of them
all_cleared : (limit : ℕ) (ks : List Key) (m l : List Entry) → keys l ≡ ks ++ keys m → keys (run limit (clearings m) l) ≡ ks
all_cleared limit ks [] l e = e ∙ append-nil ks
all_cleared limit ks (x ∷ m) l e =
    ap keys (run_append limit (clearings m) (cleared x.key ∷ []) l)
    ∙ clear_keys x.key ks (run limit (clearings m) l) (all_cleared limit (ks ++ (x.key ∷ [])) m l (e ∙ sym (append_assoc ks (x.key ∷ []) (keys m))))

no_keys : (l : List Entry) → keys l ≡ [] → l ≡ []
no_keys [] e = refl
no_keys (x ∷ l) e = never_cons x.key (keys l) e

clearings_honest : (limit : ℕ) (m l : List Entry) → Honest limit (clearings m) l
clearings_honest limit [] l = tt
clearings_honest limit (x ∷ m) l = honest_append limit (clearings m) (cleared x.key ∷ []) l (clearings_honest limit m l) (tt, tt)

-- ---- configuring what was read

false_true : {A : Type 0} → false ≡ true → A
false_true e = let z : ◌≡◌ {A = ℕ} 0 1 = cc in absurd (omega arith)

-- an entry further on is not the key's, where the key has none
none_there : (k : Key) (qs : List Entry) (e : Entry) (es : List Entry) → find_l k (qs ++ (e ∷ es)) ≡ length (qs ++ (e ∷ es)) → matches k e ≡ false
none_there k [] e es h = go (matches k e) h
  where
    go : (b : Bool) → cond b 0 (suc (find_l k es)) ≡ suc (length es) → b ≡ false
    go true h = absurd (omega arith)
    go false h = refl
none_there k (q ∷ qs) e es h = go (matches k q) h (none_there k qs e es)
  where
    go : (b : Bool) → cond b 0 (suc (find_l k (qs ++ (e ∷ es)))) ≡ suc (length (qs ++ (e ∷ es))) → (find_l k (qs ++ (e ∷ es)) ≡ length (qs ++ (e ∷ es)) → matches k e ≡ false) → matches k e ≡ false
    go true h rec = absurd (omega arith)
    go false h rec = rec (omega arith)

pub same_other : (j k : Key) → same j k ≡ false → same k j ≡ false
same_other j k h = go (same k j) refl
  where
    go : (b : Bool) → same k j ≡ b → b ≡ false
    go false m = refl
    go true m = false_true (sym h ∙ ap (λ (i : Key). same j i) (same_is k j m) ∙ same_own j)

-- the key of an entry stands nowhere before it
pub absent : (p : List Entry) (e : Entry) (es : List Entry) → distinct (p ++ (e ∷ es)) ≡ true → find_l e.key p ≡ length p
unfolding distinct
absent [] e es d = refl
absent (q ∷ p) e es d =
    let b = both (eqb (find_l q.key (p ++ (e ∷ es))) (length (p ++ (e ∷ es)))) (distinct (p ++ (e ∷ es))) d in
    let n : matches e.key q ≡ false = same_other e.key q.key (none_there q.key p e es (eqb-true _ _ b.0)) in
    ap (λ (t : Bool). cond t 0 (suc (find_l e.key p))) n ∙ ap suc (absent p e es b.1)

module _ (limit : ℕ) where
  -- one entry more
  one_set : (p : List Entry) (e : Entry) (es : List Entry) → distinct (p ++ (e ∷ es)) ≡ true → length p + suc (length es) ≤ limit
      → (accepts_l limit e.key (map unreported p) ≡ true) × (configure_l limit e.key e.config (map unreported p) ≡ map unreported (p ++ (e ∷ [])))
  one_set p e es d h =
      let m = length-map p unreported in
      let f : find_l e.key (map unreported p) ≡ length (map unreported p) = find_same e.key p ∙ absent p e es d ∙ sym m in
      let none : ltb (find_l e.key (map unreported p)) (length (map unreported p)) ≡ false = le-ltb (find_l e.key (map unreported p)) (length (map unreported p)) (omega (arith, f)) in
      let room : ltb (length (map unreported p)) limit ≡ true = lt-ltb (length (map unreported p)) limit (omega (arith, m)) in
      (rw (none, room) refl, rw (none, room) (sym (map-append unreported p (e ∷ []))))

  set_honest : (es p : List Entry) → distinct (p ++ es) ≡ true → length p + length es ≤ limit → Honest limit (settings es) (map unreported p)
  set_honest [] p d h = tt
  set_honest (e ∷ es) p d h =
      let o = one_set p e es d h in (
        o.0,
        subst (Honest limit (settings es)) (sym o.1)
            (set_honest es (p ++ (e ∷ [])) (ap distinct (append_assoc p (e ∷ []) es) ∙ d) (omega (arith, length-append p (e ∷ [])))),
      )

  set_run : (es p : List Entry) → distinct (p ++ es) ≡ true → length p + length es ≤ limit → run limit (settings es) (map unreported p) ≡ map unreported (p ++ es)
  set_run [] p d h = ap (map unreported) (sym (append-nil p))
  set_run (e ∷ es) p d h =
      let o = one_set p e es d h in
      ap (run limit (settings es)) o.1
      ∙ set_run es (p ++ (e ∷ [])) (ap distinct (append_assoc p (e ∷ []) es) ∙ d) (omega (arith, length-append p (e ∷ [])))
      ∙ ap (map unreported) (append_assoc p (e ∷ []) es)

-- ---- both

restore_leads : (limit : ℕ) (stood come : List Entry) → length come ≤ limit → distinct come ≡ true → Leads limit (clearings stood ++ settings come) stood (map unreported come)
restore_leads limit stood come h d =
    let empty : run limit (clearings stood) stood ≡ [] = no_keys _ (all_cleared limit [] stood stood refl) in
    record {
      honest = honest_append limit (clearings stood) (settings come) stood (clearings_honest limit stood stood) (subst (Honest limit (settings come)) (sym empty) (set_honest limit come [] d (omega arith)));
      table = run_append limit (clearings stood) (settings come) stood ∙ ap (run limit (settings come)) empty ∙ set_run limit come [] d (omega arith);
    }

unreported_twice : (l : List Entry) → map unreported (map unreported l) ≡ map unreported l
unreported_twice [] = refl
unreported_twice (e ∷ l) = ap (λ (m : List Entry). unreported e ∷ m) (unreported_twice l)

pub restore_is : (limit : ℕ) (come l : List Entry) → Leads limit (clearings l ++ settings (read_in limit come)) l (read_in limit come)
unfolding distinct
restore_is limit come l = go (distinct come && leb (length come) limit) refl
  where
    go : (b : Bool) → (distinct come && leb (length come) limit) ≡ b → Leads limit (clearings l ++ settings (cond b (map unreported come) [])) l (cond b (map unreported come) [])
    go true e =
        let c = both (distinct come) (leb (length come) limit) e in
        subst (Leads limit (clearings l ++ settings (map unreported come)) l) (unreported_twice come)
        (restore_leads limit l (map unreported come) (omega (arith, length-map come unreported, leb-true (length come) limit c.1)) (distinct_same come ∙ c.0))
    go false e = restore_leads limit l [] (omega arith) refl
