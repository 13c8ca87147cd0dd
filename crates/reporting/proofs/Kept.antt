-- Entries that fit a table's bytes, in number and in width, still fit after each operation. Assumes nothing.
use mathlib.Core.Path.{◌≡◌, refl, ap}
use mathlib.Core.Bool.{Bool, true, false, cond, true≢false}
use mathlib.Core.List.{List, [], ◌∷◌, ◌++◌, map}
use Prim.Native.Nat.{ℕ, zero, suc, ◌^◌, ◌≤◌, ◌<◌}
use native.Mathlib.Omega.{arith}
use lib.ListN.{length, get_or, take, length-append}
use lib.Dec.{ltb}
use lib.IntN.{ℤ}
use lib.Seq.{length-take-le}
use lib.Signed.{mag}
use borrow.Author.Tests.{ltb-true}
use Rattle.frame.specs.Walk.{All}
use Rattle.reporting.specs.declared.entry.Key.{Key}
use Rattle.reporting.specs.declared.entry.ReportingConfig.{ReportingConfig}
use Rattle.reporting.specs.declared.entry.Entry.{Entry}
use Rattle.reporting.specs.Entries.{matches, find_l, update_l, fresh, replaced, configure_l, last_first, clear_l, mark_e, mark_l}
use Rattle.reporting.specs.Carried.{quieted}
use Rattle.reporting.specs.Claims.RoundTrip.{Clean, AllClean}
use Rattle.reporting.specs.Claims.Events.{Event, configured, cleared, asked, marked, after, run}

pub record Kept (limit : ℕ) (l : List Entry) : Type 0 where
  pub small : length l ≤ limit
  pub clean : AllClean l

-- ---- what every entry has, after each operation

module _ (P : Entry → Type 0) where
  update_all : (k : Key) (f : Entry → Entry) → ((e : Entry) → P e → P (f e)) → (l : List Entry) → All P l → All P (update_l k f l)
  update_all k f c [] h = tt
  update_all k f c (e ∷ l) h = go (matches k e) (update_all k f c l h.1)
    where
      go : (b : Bool) → All P (update_l k f l) → All P (cond b (f e ∷ l) (e ∷ update_l k f l))
      go true ih = (c e h.0, h.1)
      go false ih = (h.0, ih)

  pub append_all : (l : List Entry) (e : Entry) → All P l → P e → All P (l ++ (e ∷ []))
  append_all [] e h c = (c, tt)
  append_all (x ∷ l) e h c = (h.0, append_all l e h.1 c)

  take_all : (n : ℕ) (l : List Entry) → All P l → All P (take n l)
  take_all zero l h = tt
  take_all (suc n) [] h = tt
  take_all (suc n) (e ∷ l) h = (h.0, take_all n l h.1)

  at_all : (l : List Entry) (n : ℕ) (d : Entry) → All P l → P d → P (get_or l n d)
  at_all [] n d h c = c
  at_all (e ∷ l) zero d h c = h.0
  at_all (e ∷ l) (suc n) d h c = at_all l n d h.1 c

  hole_all : (l : List Entry) → All P l → All P (last_first l)
  hole_all [] h = tt
  hole_all (e ∷ l) h = (at_all (e ∷ l) (length l) e h h.0, take_all (length l) (e ∷ l) h)

  pub configure_all : (limit : ℕ) (k : Key) (g : ReportingConfig) (l : List Entry) → P (fresh k g) → All P l → All P (configure_l limit k g l)
  configure_all limit k g l c h = go (ltb (find_l k l) (length l)) (ltb (length l) limit)
    where
      go : (a b : Bool) → All P (cond a (update_l k (replaced k g) l) (cond b (l ++ (fresh k g ∷ [])) l))
      go true b = update_all k (replaced k g) (λ e d. c) l h
      go false true = append_all l (fresh k g) h c
      go false false = h

  pub clear_all : (k : Key) (l : List Entry) → All P l → All P (clear_l k l)
  clear_all k [] h = tt
  clear_all k (e ∷ l) h = go (matches k e) (clear_all k l h.1)
    where
      go : (b : Bool) → All P (clear_l k l) → All P (cond b (last_first l) (e ∷ clear_l k l))
      go true ih = hole_all l h.1
      go false ih = (h.0, ih)

  pub mark-all : (k : Key) (now : ℕ) (v : ℤ) (l : List Entry) → ((e : Entry) → P e → P (mark_e now v e)) → All P l → All P (mark_l k now v l)
  mark-all k now v l c h = update_all k (mark_e now v) c l h

-- ---- how many there are, and their widths

update_length : (k : Key) (f : Entry → Entry) (l : List Entry) → length (update_l k f l) ≡ length l
update_length k f [] = refl
update_length k f (e ∷ l) = go (matches k e) (update_length k f l)
  where
    go : (b : Bool) → length (update_l k f l) ≡ length l → length (cond b (f e ∷ l) (e ∷ update_l k f l)) ≡ suc (length l)
    go true ih = refl
    go false ih = ap suc ih

mark_clean : (now : ℕ) (v : ℤ) → now < 2 ^ 32 → mag v < 2 ^ 63 → (e : Entry) → Clean e → Clean (mark_e now v e)
mark_clean now v t m e h = record {
  cluster = h.cluster;
  attribute = h.attribute;
  minimum = h.minimum;
  maximum = h.maximum;
  change = h.change;
  time = t;
  value = m;
  quiet = λ q. absurd (true≢false q);
}

hole_length : (l : List Entry) → length (last_first l) ≡ length l
hole_length [] = refl
hole_length (e ∷ l) = ap suc (length-take-le (length l) (e ∷ l) (omega arith))

clear_length : (k : Key) (l : List Entry) → length (clear_l k l) ≤ length l
clear_length k [] = omega arith
clear_length k (e ∷ l) = go (matches k e) (clear_length k l)
  where
    go : (b : Bool) → length (clear_l k l) ≤ length l → length (cond b (last_first l) (e ∷ clear_l k l)) ≤ suc (length l)
    go true ih = omega (arith, hole_length l)
    go false ih = omega (arith, ih)

-- ---- the operations

configure_length : (limit : ℕ) (k : Key) (g : ReportingConfig) (l : List Entry) → length l ≤ limit → length (configure_l limit k g l) ≤ limit
configure_length limit k g l h = go (ltb (find_l k l) (length l)) (ltb (length l) limit) refl
  where
    go : (a b : Bool) → ltb (length l) limit ≡ b → length (cond a (update_l k (replaced k g) l) (cond b (l ++ (fresh k g ∷ [])) l)) ≤ limit
    go true b e = omega (arith, update_length k (replaced k g) l)
    go false true e = omega (arith, length-append l (fresh k g ∷ []), ltb-true (length l) limit e)
    go false false e = h

pub configure_keeps : (limit : ℕ) (k : Key) (g : ReportingConfig) (l : List Entry) → Clean (fresh k g) → Kept limit l → Kept limit (configure_l limit k g l)
configure_keeps limit k g l c h = record { small = configure_length limit k g l h.small; clean = configure_all Clean limit k g l c h.clean }

pub clear_keeps : (limit : ℕ) (k : Key) (l : List Entry) → Kept limit l → Kept limit (clear_l k l)
clear_keeps limit k l h = record { small = omega (arith, clear_length k l, h.small); clean = clear_all Clean k l h.clean }

pub mark_keeps : (limit : ℕ) (k : Key) (now : ℕ) (v : ℤ) (l : List Entry) → now < 2 ^ 32 → mag v < 2 ^ 63 → Kept limit l → Kept limit (mark_l k now v l)
mark_keeps limit k now v l t m h =
    record { small = omega (arith, update_length k (mark_e now v) l, h.small); clean = mark-all Clean k now v l (mark_clean now v t m) h.clean }

-- ---- entries that carry no time and no value without a report

-- they are as their bytes tell them
abbrev pub Quiet : Entry → Type 0
Quiet e = quieted e ≡ e

pub after_quiet : (limit : ℕ) (e : Event) (l : List Entry) → All Quiet l → All Quiet (after limit e l)
after_quiet limit (configured k g) l h = configure_all Quiet limit k g l refl h
after_quiet limit (cleared k) l h = clear_all Quiet k l h
after_quiet limit (asked k now v a) l h = h
after_quiet limit (marked k now v) l h = mark-all Quiet k now v l (λ e q. refl) h

pub run_quiet : (limit : ℕ) (es : List Event) (l : List Entry) → All Quiet l → All Quiet (run limit es l)
run_quiet limit [] l h = h
run_quiet limit (e ∷ es) l h = run_quiet limit es (after limit e l) (after_quiet limit e l h)

pub quiet_same : (l : List Entry) → All Quiet l → map quieted l ≡ l
quiet_same [] h = refl
quiet_same (e ∷ l) h = λ i. h.0 i ∷ quiet_same l h.1 i
