-- Document 01's sentences about the table, each as a law of the definitions (the claims of specs/Claims/Sentences.antt). `limit` is how many
-- entries it may have. Assumes nothing.
use Rattle.std.specs.Prelude.{None, Ok, Some}
use mathlib.Core.Path.{◌≡◌, refl, sym, ap, ◌∙◌}
use mathlib.Core.Logic.{◌↔◌, inl, inr}
use mathlib.Core.Bool.{Bool, true, false, not, cond, ◌&&◌, ◌||◌, true≢false}
use Rattle.std.proofs.lemmas.Option.{none-some}
use mathlib.Core.List.{List, [], ◌∷◌, ◌++◌}
use Prim.Native.Nat.{ℕ, zero, suc, ◌+◌, ◌-◌, ◌≤◌, ◌<◌, zero-le}
use native.Mathlib.Omega.{arith}
use lib.ListN.{length, get_or, set, take, length-set, length-append}
use lib.Seq.{length-take-le}
use lib.Dec.{ltb, leb, eqb}
use lib.IntN.{ℤ}
use borrow.Author.Tests.{ltb-true, ltb-false, lt-ltb, le-ltb}
use Rattle.reporting.specs.declared.entry.Key.{Key}
use Rattle.reporting.specs.declared.entry.ReportingConfig.{ReportingConfig}
use Rattle.reporting.specs.declared.entry.Entry.{Entry}
use Rattle.reporting.specs.declared.table.ReportingTable.{ReportingTable}
use Rattle.reporting.specs.Entries.{matches, find_l, lookup_l, Distinct, others, update_l, fresh, replaced, accepts_l, configure_l, last_first, clear_l, mark_e}
use Rattle.reporting.specs.Due.{moved_by, ripe, due_o}
use Rattle.reporting.specs.Table.{capacity, holding, ChangeTold, ReportTold, change_told, zero_config, done_t, full_t, configure_t, ask_t}
use Rattle.reporting.specs.Claims.Events.{Event, configured, cleared, asked, marked, after, run, history}
use Rattle.reporting.specs.Demand3.{Moved}
use Rattle.reporting.specs.Claims.Sentences.{NeverMoreThanLimit, AlikeCount, MarkMissing, ClearMissing, ScanPasses, ScanEnds, ConfigureAgain, ConfigureFails, ConfigureFailed, ConfigureTakes, ClearMoves, ClearLeaves, RoomServesAgain, AskMissing, AskOff, AskFirst, OfMarked, AskClockBack, elapsed, AskEarly, AskLate, YesExactly, AskBetween, AskMaximumZero}
use Rattle.reporting.proofs.Due.{ripe_early, ripe_late, ripe_between, due_off, due_marked, due_first}
use Rattle.reporting.proofs.Places.{lookup_none, update_at, update_none, clear_none, clear_place}
use Rattle.reporting.proofs.Slots.{live_length}
use Rattle.reporting.proofs.Others.{key_is, key_not, lookup_pass, missing_head, missing_tail, hole_lookup, clear_other}
use Rattle.reporting.proofs.Histories.{configure_other, configure_own, history_is}
use Rattle.reporting.proofs.Promise.{moved_iff}

-- ---- whether a key stands

missing_find : (k : Key) (l : List Entry) → lookup_l k l ≡ None → length l ≤ find_l k l
missing_find k [] h = zero-le
missing_find k (e ∷ es) h =
    let ih = missing_find k es (missing_tail k e es h) in
    rw (missing_head k e es h) (omega (arith, ih))

standing_find : (k : Key) (l : List Entry) (e : Entry) → lookup_l k l ≡ Some e → find_l k l < length l
standing_find k l e h = go (ltb (find_l k l) (length l)) refl
  where
    go : (b : Bool) → ltb (find_l k l) (length l) ≡ b → find_l k l < length l
    go true t = ltb-true _ _ t
    go false t = absurd (none-some e (sym (lookup_none k l (ltb-false _ _ t)) ∙ h))

update_length : (k : Key) (f : Entry → Entry) (l : List Entry) → length (update_l k f l) ≡ length l
update_length k f l = ap length (update_at k f l (fresh k zero_config)) ∙ simp length-set

-- what a configuration is that is accepted, and one that is not
takes_is : (limit : ℕ) (k : Key) (g : ReportingConfig) (l : List Entry) → accepts_l limit k l ≡ true → configure_t limit k g (holding l) ≡ done_t (configure_l limit k g l)
takes_is limit k g l e = ap (λ b. cond b (done_t (configure_l limit k g l)) (full_t l)) e

fails_is : (limit : ℕ) (k : Key) (g : ReportingConfig) (l : List Entry) → accepts_l limit k l ≡ false → configure_t limit k g (holding l) ≡ full_t l
fails_is limit k g l e = ap (λ b. cond b (done_t (configure_l limit k g l)) (full_t l)) e

-- ---- "A mark or clear without an entry changes nothing."

pub mark_missing : MarkMissing
mark_missing k now v l h = ap done_t (update_none k (mark_e now v) l (missing_find k l h))

pub clear_missing : ClearMissing
clear_missing k l h = ap done_t (clear_none k l (missing_find k l h))

-- ---- "The scan ends at the first entry that matches cluster and attribute both."

pub scan_passes : ScanPasses
scan_passes k [] i d h q = absurd (omega arith)
scan_passes k (e ∷ es) i d h q = go (matches k e) refl i h q (λ n. scan_passes k es n d)
  where
    go : (t : Bool) → matches k e ≡ t → (i : ℕ) → i < cond t 0 (suc (find_l k es)) → (get_or (e ∷ es) i d).key ≡ k
        → ((n : ℕ) → n < find_l k es → (get_or es n d).key ≡ k → ⊥) → ⊥
    go true m i h q ih = absurd (omega arith)
    go false m zero h q ih = key_not k e m q
    go false m (suc i) h q ih = ih i (omega arith) q

pub scan_ends : ScanEnds
scan_ends k [] d h = absurd (omega arith)
scan_ends k (e ∷ es) d h = go (matches k e) refl h (scan_ends k es d)
  where
    go : (t : Bool) → matches k e ≡ t → cond t 0 (suc (find_l k es)) < suc (length es) → (find_l k es < length es → (get_or es (find_l k es) d).key ≡ k)
        → (get_or (e ∷ es) (cond t 0 (suc (find_l k es))) d).key ≡ k
    go true m h ih = key_is k e m
    go false m h ih = ih (omega arith)

-- ---- "Configuring again replaces and forgets the last report."

again_is : (limit : ℕ) (k : Key) (g : ReportingConfig) (l : List Entry) → ltb (find_l k l) (length l) ≡ true → configure_l limit k g l ≡ set l (find_l k l) (fresh k g)
again_is limit k g l t = rw t (update_at k (replaced k g) l (fresh k g))

pub configure_again : ConfigureAgain
configure_again limit k g l e h = (
  takes_is limit k g l (rw t) ∙ ap done_t (again_is limit k g l t),
  ap (lookup_l k) (sym (again_is limit k g l t)) ∙ configure_own limit k g l (rw t),
)
  where
    t : ltb (find_l k l) (length l) ≡ true
    t = lt-ltb _ _ (standing_find k l e h)

-- ---- "A direct configure takes any interval, failing exactly when sixteen others stand."

told_is : (limit : ℕ) (k : Key) (g : ReportingConfig) (l : List Entry) (b : Bool) → accepts_l limit k l ≡ b
    → (configure_t limit k g (holding l)).told ≡ cond b (change_told (Ok true)) (change_told (Ok false))
told_is limit k g l true e = rw e
told_is limit k g l false e = rw e

others_le : (k : Key) (l : List Entry) → others k l ≤ length l
others_le k [] = zero-le
others_le k (e ∷ es) = go (matches k e) (others_le k es)
  where
    go : (t : Bool) → others k es ≤ length es → cond t (others k es) (suc (others k es)) ≤ suc (length es)
    go true h = omega arith
    go false h = omega arith

-- where the key stands there are fewer others than entries, and else as many
others_find : (k : Key) (l : List Entry) → (find_l k l < length l → others k l < length l) × (length l ≤ find_l k l → others k l ≡ length l)
others_find k [] = (λ h. absurd (omega arith), λ h. refl)
others_find k (e ∷ es) = go (matches k e) (others_find k es)
  where
    go : (t : Bool) → (find_l k es < length es → others k es < length es) × (length es ≤ find_l k es → others k es ≡ length es)
        → (cond t 0 (suc (find_l k es)) < suc (length es) → cond t (others k es) (suc (others k es)) < suc (length es))
        × (suc (length es) ≤ cond t 0 (suc (find_l k es)) → cond t (others k es) (suc (others k es)) ≡ suc (length es))
    go true ih = (λ h. omega (arith, others_le k es), λ h. absurd (omega arith))
    go false ih = (λ h. let n = ih.0 (omega arith) in omega arith, λ h. ap suc (ih.1 (omega arith)))

module _ (limit : ℕ) (k : Key) (g : ReportingConfig) (l : List Entry) (within : length l ≤ limit) where
  to_others : (a b : Bool) → ltb (find_l k l) (length l) ≡ a → ltb (length l) limit ≡ b → (a || b) ≡ false → others k l ≡ limit
  to_others true b p q h = absurd (true≢false h)
  to_others false true p q h = absurd (true≢false h)
  to_others false false p q h =
      let n = ltb-false (length l) limit q in
      (others_find k l).1 (ltb-false _ _ p) ∙ omega (arith, n)

  full : (b : Bool) → accepts_l limit k l ≡ b → (configure_t limit k g (holding l)).told ≡ change_told (Ok false) → others k l ≡ limit
  full true e h = absurd (true≢false (ap (λ (x : ChangeTold). x.accepted) (sym (told_is limit k g l true e) ∙ h)))
  full false e h = to_others (ltb (find_l k l) (length l)) (ltb (length l) limit) refl refl e

  refused : (a : Bool) → ltb (find_l k l) (length l) ≡ a → others k l ≡ limit → accepts_l limit k l ≡ false
  refused true p h = let n = (others_find k l).0 (ltb-true _ _ p) in absurd (omega arith)
  refused false p h =
      let n = others_le k l in
      let q : ltb (length l) limit ≡ false = le-ltb (length l) limit (omega arith) in
      rw (p, q)

  pub fails_exactly : ((configure_t limit k g (holding l)).told ≡ change_told (Ok false)) ↔ (others k l ≡ limit)
  fails_exactly = (
    full (accepts_l limit k l) refl,
    λ h. told_is limit k g l false (refused (ltb (find_l k l) (length l)) refl h),
  )

pub configure_fails : ConfigureFails
configure_fails limit k g l h = fails_exactly limit k g l h

pub configure_failed : ConfigureFailed
configure_failed limit k g l h o = fails_is limit k g l (refused limit k g l h (ltb (find_l k l) (length l)) refl o)

taken : (limit : ℕ) (k : Key) (l : List Entry) → others k l < limit → (a : Bool) → ltb (find_l k l) (length l) ≡ a → (a || ltb (length l) limit) ≡ true
taken limit k l h true p = refl
taken limit k l h false p = let n = (others_find k l).1 (ltb-false _ _ p) in lt-ltb (length l) limit (omega arith)

pub configure_takes : ConfigureTakes
configure_takes limit k g l h =
    let a : accepts_l limit k l ≡ true = taken limit k l h (ltb (find_l k l) (length l)) refl in
    (takes_is limit k g l a, configure_own limit k g l a, λ j n. configure_other limit k j g l n)

-- ---- "Clearing moves the last entry into the hole, and its room serves again."

pub clear_moves : ClearMoves
clear_moves k l e h =
    let n = standing_find k l e h in
    ap done_t (clear_place k l (length l - 1) e n (omega arith))

clear_own : (k : Key) (l : List Entry) → Distinct l → lookup_l k (clear_l k l) ≡ None
clear_own k [] d = refl
clear_own k (e ∷ es) d = go (matches k e) refl (clear_own k es d.1)
  where
    go : (t : Bool) → matches k e ≡ t → lookup_l k (clear_l k es) ≡ None → lookup_l k (cond t (last_first es) (e ∷ clear_l k es)) ≡ None
    go true m ih = hole_lookup es d.1 k ∙ ap (λ j. lookup_l j es) (sym (key_is k e m)) ∙ d.0
    go false m ih = lookup_pass k e (clear_l k es) m ∙ ih

pub clear_leaves : ClearLeaves
clear_leaves k l d = (clear_own k l d, λ j n. clear_other k j n l d)

clear_length : (k : Key) (l : List Entry) (e : Entry) → find_l k l < length l → length (clear_l k l) + 1 ≡ length l
clear_length k l e h =
    let m : ℕ = length l - 1 in
    let short : length (take m (set l (find_l k l) (get_or l m e))) ≡ m = length-take-le m (set l (find_l k l) (get_or l m e)) (simp length-set (omega arith)) in
    let n : length (clear_l k l) ≡ m = ap length (clear_place k l m e h (omega arith)) ∙ short in
    omega arith

pub room_serves_again : RoomServesAgain
room_serves_again limit k j g l e h s = told_is limit j g (clear_l k l) true (go (ltb (find_l j (clear_l k l)) (length (clear_l k l))))
  where
    less : ltb (length (clear_l k l)) limit ≡ true
    less = let n = clear_length k l e (standing_find k l e s) in lt-ltb (length (clear_l k l)) limit (omega arith)

    go : (b : Bool) → (b || ltb (length (clear_l k l)) limit) ≡ true
    go true = refl
    go false = less

-- ---- "An ask: no entry, no; maximum ffff, no; never marked, yes; elapsed is 0 if the clock went back"

told : Bool → ReportTold
told b = record { number = 0; due = b }

pub ask_missing : AskMissing
unfolding told
ask_missing k now v l h = ap (λ o. told (due_o o now v)) h

pub ask_off : AskOff
unfolding told
ask_off k now v l e h m = ap (λ o. told (due_o o now v)) h ∙ ap told (due_off e now v m)

pub ask_first : AskFirst
unfolding told
ask_first k now v l e h on m = ap (λ o. told (due_o o now v)) h ∙ ap told (due_first e now v on m)

-- ---- "then as demand 3, maximum 0 never firing by time"

ask_marked : OfMarked (λ e now v answer. answer ≡ record { number = 0; due = ripe e.config (elapsed e now) (moved_by e.config e.last_value v) })
unfolding told
ask_marked k now v l e h on m = ap (λ o. told (due_o o now v)) h ∙ ap told (due_marked e now v on m)

pub ask_back : AskClockBack
unfolding told
ask_back k now v l e h on m b =
    let z : now - e.last_time ≡ 0 = omega arith in
    ask_marked k now v l e h on m ∙ ap (λ s. told (ripe e.config s (moved_by e.config e.last_value v))) z

pub ask_early : AskEarly
unfolding told
ask_early k now v l e h on m s = ask_marked k now v l e h on m ∙ ap told (ripe_early e.config (elapsed e now) (moved_by e.config e.last_value v) s)

pub ask_late : AskLate
unfolding told
ask_late k now v l e h on m s z x = ask_marked k now v l e h on m ∙ ap told (ripe_late e.config (elapsed e now) (moved_by e.config e.last_value v) s z x)

is_no : (b : Bool) → (b ≡ true → ⊥) → b ≡ false
is_no true h = absurd (h refl)
is_no false h = refl

exactly : (g : ReportingConfig) (from to : ℤ) (answer : ReportTold) → answer ≡ told (not (eqb (moved_by g from to) 0) && leb g.reportable_change (moved_by g from to))
    → YesExactly (Moved g from to) answer
unfolding told
exactly g from to answer h =
    let both = moved_iff g.reportable_change (moved_by g from to) in (
      λ m. h ∙ ap told (both.1 (m.nonzero, m.enough)),
      λ n. h ∙ ap told (is_no _ (λ t. let m = both.0 t in n (record { nonzero = m.0; enough = m.1 }))),
    )

pub ask_between : AskBetween
unfolding told
ask_between k now v l e h on m s x =
    exactly e.config e.last_value v (ask_t k now v (holding l))
    (ask_marked k now v l e h on m ∙ ap told (ripe_between e.config (elapsed e now) (moved_by e.config e.last_value v) s (inr x)))

pub ask_maximum_zero : AskMaximumZero
unfolding told
ask_maximum_zero k now v l e h on m z s =
    exactly e.config e.last_value v (ask_t k now v (holding l))
    (ask_marked k now v l e h on m ∙ ap told (ripe_between e.config (elapsed e now) (moved_by e.config e.last_value v) s (inl z)))

-- ---- "a value of sixteen entries and a count": never more than the limit

configure_within : (limit : ℕ) (k : Key) (g : ReportingConfig) (l : List Entry) → length l ≤ limit → length (configure_l limit k g l) ≤ limit
configure_within limit k g l h = go (ltb (find_l k l) (length l)) (ltb (length l) limit) refl
  where
    go : (a b : Bool) → ltb (length l) limit ≡ b → length (cond a (update_l k (replaced k g) l) (cond b (l ++ (fresh k g ∷ [])) l)) ≤ limit
    go true b q = rw (update_length k (replaced k g) l) h
    go false true q = let n = ltb-true (length l) limit q in simp length-append (omega arith)
    go false false q = h

clear_within : (k : Key) (l : List Entry) → length (clear_l k l) ≤ length l
clear_within k [] = zero-le
clear_within k (e ∷ es) = go (ltb (find_l k (e ∷ es)) (suc (length es))) refl
  where
    go : (b : Bool) → ltb (find_l k (e ∷ es)) (suc (length es)) ≡ b → length (clear_l k (e ∷ es)) ≤ suc (length es)
    go true t = let n = clear_length k (e ∷ es) e (ltb-true _ _ t) in omega arith
    go false t = rw (ap length (clear_none k (e ∷ es) (ltb-false _ _ t))) (omega arith)

after_within : (limit : ℕ) (e : Event) (l : List Entry) → length l ≤ limit → length (after limit e l) ≤ limit
after_within limit (configured k g) l h = configure_within limit k g l h
after_within limit (cleared k) l h = let n = clear_within k l in omega arith
after_within limit (asked k now v a) l h = h
after_within limit (marked k now v) l h =
    let n = update_length k (mark_e now v) l in
    omega arith

pub run_within : (limit : ℕ) (es : List Event) (l : List Entry) → length l ≤ limit → length (run limit es l) ≤ limit
run_within limit [] l h = h
run_within limit (e ∷ es) l h = run_within limit es (after limit e l) (after_within limit e l h)

pub alike_count : AlikeCount
alike_count t u m n e = go (ltb capacity t.count) refl (ltb capacity u.count) refl
  where
    go : (a : Bool) → ltb capacity t.count ≡ a → (b : Bool) → ltb capacity u.count ≡ b → t.count ≡ u.count
    go true h b k = ap (λ (x : ReportingTable). x.count) (e.whole (inl (ltb-true capacity t.count h)))
    go false h true k = ap (λ (x : ReportingTable). x.count) (e.whole (inr (ltb-true capacity u.count k)))
    go false h false k = sym (live_length t m (ltb-false capacity t.count h)) ∙ ap length e.entries ∙ live_length u n (ltb-false capacity u.count k)

pub never_more_than_limit : NeverMoreThanLimit
never_more_than_limit limit cs l h =
    let n = run_within limit (history limit cs l) l h in
    let e = ap length (history_is limit cs l).table in
    omega arith
