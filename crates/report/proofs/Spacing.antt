-- Demand 3 with turns: arithmetic on the time since the last report. Assumes nothing.
use Rattle.std.specs.Prelude.{Some}
use mathlib.Core.Path.{◌≡◌, refl, sym, ap, ◌∙◌, subst}
use mathlib.Core.Logic.{◌↔◌, inl, inr}
use mathlib.Core.Bool.{Bool, true, false, not, cond, ◌&&◌, ◌||◌, true≢false, false≢true}
use mathlib.Core.List.{List, [], ◌∷◌, ◌++◌, append_assoc}
use Prim.Native.Nat.{ℕ, suc, ◌+◌, ◌-◌, ◌*◌, ◌≤◌, ◌<◌}
use native.Mathlib.Omega.{arith}
use native.Mathlib.Decide.{dec_le}
use native.Mathlib.Nat.{zero-mul, suc-mul, mul-le-mul_right}
use lib.ListN.{length}
use lib.Dec.{leb, eqb}
use lib.IntN.{ℤ}
use borrow.Author.Tests.{eq-eqb}
use Rattle.store.specs.declared.lookup.Attribute.{Attribute}
use Rattle.reporting.specs.declared.entry.ReportingConfig.{ReportingConfig}
use Rattle.reporting.specs.declared.entry.Entry.{Entry}
use Rattle.reporting.specs.Entries.{lookup_l, Distinct, fresh}
use Rattle.reporting.specs.Due.{moved_by, ripe}
use Rattle.reporting.specs.Claims.Events.{configured, after}
use Rattle.reporting.specs.Demand3.{AcceptedRecord, Moved}
use Rattle.reporting.proofs.Due.{ripe_early, ripe_between}
use Rattle.reporting.proofs.Histories.{configure_own, configure_distinct, after_distinct}
use Rattle.reporting.proofs.Follows.{Follows, Unmarked, AllRipe, timed, untimed}
use Rattle.reporting.proofs.Promise.{late_yes, moved_iff}
use Rattle.report.specs.Round.{round, fitting}
use Rattle.report.specs.Turn.{id_of, key_of, due_of, one_frame, written_of}
use Rattle.report.specs.Claims.Words.{names, Each, OneOf}
use Rattle.report.specs.Claims.Turns.{begins, frame_of, turned}
use Rattle.report.specs.Claims.History.{Happening, turn, event, leaves, left_by, Met, turns_of, Handed}
use Rattle.report.specs.Claims.Fairness.{count, of_cluster, Standing, EachAlone, found, reported, StoresOfBytes}
use Rattle.report.specs.Claims.Demand3.{Look, look_of, looks_of, Paced, NoneReported, SinceReport, TurnsStanding, MostApart, Demand3OfTurns}
use Rattle.report.proofs.Lists.{not_empty, same_first, same_rest, names_append, names_round, fitting_splits}
use Rattle.report.proofs.Counts.{count_less}
use Rattle.report.proofs.Rows.{in_row}
use Rattle.report.proofs.Looks.{ask_of, asks_of, follow, marks_distinct}

-- ---- lists of turns as lists of asks

asks_append : (a b : List Look) → asks_of (a ++ b) ≡ asks_of a ++ asks_of b
asks_append [] b = refl
asks_append (q ∷ a) b = ap (λ r. ask_of q ∷ r) (asks_append a b)

unmarked : (qs : List Look) → NoneReported qs → Unmarked (asks_of qs)
unmarked [] h = tt
unmarked (q ∷ qs) h = (ap (λ b. cond b (record { time = q.time; value = q.value } ∷ []) []) h.0, unmarked qs h.1)

paced_after : (G : ℕ) (pre : List Look) (y : Look) (rest : List Look) → Paced G (pre ++ (y ∷ rest)) → Paced G (y ∷ rest)
paced_after G [] y rest p = p
paced_after G (b ∷ []) y rest p = p.2
paced_after G (b ∷ (c ∷ pre)) y rest p = paced_after G (c ∷ pre) y rest p.2

paced_at : (G : ℕ) (a : Look) (mid : List Look) (z : Look) (post : List Look) → Paced G (a ∷ (mid ++ (z ∷ post))) → a.time ≤ z.time
paced_at G a [] z post p = p.0
paced_at G a (q ∷ mid) z post p = let h = paced_at G q mid z post p.2 in omega (arith, h, p.0)

-- ---- the time since the last report

module _ (g : ReportingConfig) (acc : AcceptedRecord g) (e : Entry) (c : e.config ≡ g) (qs : List Look) (f : Follows e (asks_of qs)) where
  until : (earlier : List Look) (z : Look) (later : List Look) → qs ≡ earlier ++ (z ∷ later) → e.marked ≡ false → NoneReported earlier → z.found ≡ true
  until earlier z later o new n =
      untimed g acc e (asks_of earlier) (ask_of z) (asks_of later) c new (subst (Follows e) (ap asks_of o ∙ asks_append earlier (z ∷ later)) f) (unmarked earlier n)

  module _ (y z : Look) (s : SinceReport qs y z) where
    order : asks_of qs ≡ asks_of s.earlier ++ (ask_of y ∷ (asks_of s.between ++ (ask_of z ∷ asks_of s.later)))
    order = ap asks_of s.order ∙ asks_append s.earlier (y ∷ (s.between ++ (z ∷ s.later))) ∙ ap (λ r. asks_of s.earlier ++ (ask_of y ∷ r)) (asks_append s.between (z ∷ s.later))

    since : AllRipe g y.time y.value (asks_of s.between) × (z.found ≡ ripe g (z.time - y.time) (moved_by g y.value z.value))
    since =
        timed g acc e (asks_of s.earlier) (ask_of y) (asks_of s.between) (ask_of z) (asks_of s.later) c (subst (Follows e) order f)
        (ap (λ b. cond b (record { time = y.time; value = y.value } ∷ []) []) s.is_report) (unmarked s.between s.none)

    is_late : y.time + g.max_interval ≤ z.time → z.found ≡ true
    is_late h = since.1 ∙ late_yes g acc y.time z.time (moved_by g y.value z.value) h

    is_moved : y.time + g.min_interval ≤ z.time → z.time < y.time + g.max_interval → (z.found ≡ true) ↔ Moved g y.value z.value
    is_moved h k =
        let eq : z.found ≡ (not (eqb (moved_by g y.value z.value) 0) && leb g.reportable_change (moved_by g y.value z.value)) = since.1 ∙ ripe_between g (z.time - y.time) (moved_by g y.value z.value) (omega arith) (inr (omega arith)) in
        let both = moved_iff g.reportable_change (moved_by g y.value z.value) in (
          λ a. let m = both.0 (sym eq ∙ a) in record { nonzero = m.0; enough = m.1 },
          λ m. eq ∙ both.1 (m.nonzero, m.enough),
        )

    module _ (G : ℕ) (pace : Paced G qs) where
      paced : Paced G (y ∷ (s.between ++ (z ∷ s.later)))
      paced = paced_after G s.earlier y (s.between ++ (z ∷ s.later)) (subst (Paced G) s.order pace)

      is_least : z.found ≡ true → y.time + g.min_interval ≤ z.time
      is_least due = go (dec_le g.min_interval (z.time - y.time))
        where
          go : Dec (g.min_interval ≤ z.time - y.time) → y.time + g.min_interval ≤ z.time
          go (yes k) = let l = paced_at G y s.between z s.later paced in omega (arith, l)
          go (no k) = absurd (true≢false (sym due ∙ since.1 ∙ ripe_early g (z.time - y.time) (moved_by g y.value z.value) (omega arith)))

-- ---- what is reported was found due

written_due : (form x : ℕ) (m : Met) → reported form x m ≡ true → found form x m ≡ true
written_due form x m = go (begins form m.turn)
  where
    all : List Attribute
    all = round id_of m.turn.last (due_of form m.turn.store m.turn.now m.entries)

    go : (b : Bool) → names id_of x (cond b (written_of form m.turn m.entries) []) ≡ true → names id_of x (cond b (due_of form m.turn.store m.turn.now m.entries) []) ≡ true
    go true h =
        let p = fitting_splits (one_frame m.turn) all in
        sym (names_round id_of x m.turn.last (due_of form m.turn.store m.turn.now m.entries))
        ∙ ap (names id_of x) p.1
        ∙ names_append id_of x (fitting (one_frame m.turn) all) p.0
        ∙ ap (λ b. b || names id_of x p.0) h
    go false h = h

-- of a turn among many
either : (form x : ℕ) (ms : List Met) (pre : List Look) (z : Look) (post : List Look) → looks_of form x ms ≡ pre ++ (z ∷ post) → (m : Met) × (look_of form x m ≡ z)
either form x [] [] z post h = absurd (not_empty z post (sym h))
either form x [] (p ∷ pre) z post h = absurd (not_empty p (pre ++ (z ∷ post)) (sym h))
either form x (m ∷ ms) [] z post h = (m, same_first (look_of form x m) z (looks_of form x ms) post h)
either form x (m ∷ ms) (p ∷ pre) z post h = either form x ms pre z post (same_rest (look_of form x m) p (looks_of form x ms) (pre ++ (z ∷ post)) h)

report_found : (form x : ℕ) (ms : List Met) (y z : Look) → SinceReport (looks_of form x ms) y z → z.reported ≡ true → z.found ≡ true
report_found form x ms y z s h =
    let m = either form x ms (s.earlier ++ (y ∷ s.between)) z s.later (s.order ∙ sym (append_assoc s.earlier (y ∷ s.between) (z ∷ s.later))) in
    ap (λ (q : Look). q.found) (sym m.1) ∙ written_due form x m.0 (ap (λ (q : Look). q.reported) m.1 ∙ h)

-- ---- the promise

pub turns_standing : TurnsStanding
turns_standing form limit cluster x G start g later d k acc s =
    let e = fresh (key_of cluster x) g in
    let ms = turns_of form limit cluster later start in
    let f = follow form limit cluster x later start (fresh (key_of cluster x) g) d k s.left_alone s.present in
    record {
      first = λ earlier z after o n. until g acc (fresh (key_of cluster x) g) refl (looks_of form x (turns_of form limit cluster later start)) f earlier z after o refl n;
      late = λ y z w h. is_late g acc (fresh (key_of cluster x) g) refl (looks_of form x (turns_of form limit cluster later start)) f y z w h;
      least = λ y z w h. is_least g acc (fresh (key_of cluster x) g) refl (looks_of form x (turns_of form limit cluster later start)) f y z w G s.paced (report_found form x (turns_of form limit cluster later start) y z w h);
      moved = λ y z w h i. is_moved g acc (fresh (key_of cluster x) g) refl (looks_of form x (turns_of form limit cluster later start)) f y z w h i;
    }

left_distinct : (form limit : ℕ) (hs : List Happening) (l : List Entry) → Distinct l → Distinct (left_by form limit hs l)
left_distinct form limit [] l d = d
left_distinct form limit (turn u ∷ hs) l d = left_distinct form limit hs (turned form u l) (marks_distinct u.store u.now (frame_of form u l) l d)
left_distinct form limit (event e ∷ hs) l d = left_distinct form limit hs (after limit e l) (after_distinct limit e l d)

left_append : (form limit : ℕ) (hs gs : List Happening) (l : List Entry) → left_by form limit (hs ++ gs) l ≡ left_by form limit gs (left_by form limit hs l)
left_append form limit [] gs l = refl
left_append form limit (h ∷ hs) gs l = left_append form limit hs gs (leaves form limit h l)

pub demand_3_of_turns : Demand3OfTurns
demand_3_of_turns form limit cluster x G earlier g later ok acc s =
    let e = left_append form limit earlier (event (configured (key_of cluster x) g) ∷ []) [] in
    turns_standing form limit cluster x G (left_by form limit (earlier ++ (event (configured (key_of cluster x) g) ∷ [])) []) g later
    (subst Distinct (sym e) (configure_distinct limit (key_of cluster x) g (left_by form limit earlier []) (left_distinct form limit earlier [] tt)))
    (ap (lookup_l (key_of cluster x)) e ∙ configure_own limit (key_of cluster x) g (left_by form limit earlier []) ok)
    acc s

-- ---- how far apart reports are

abbrev AllFound : List Look → Type 0
AllFound [] = Unit
AllFound (q ∷ qs) = (q.found ≡ true) × AllFound qs

-- the turns that these are
record Turns (form x : ℕ) (ms : List Met) (early late : List Look) : Type 0 where
  first : List Met
  second : List Met
  whole : ms ≡ first ++ second
  are_first : looks_of form x first ≡ early
  are_second : looks_of form x second ≡ late

look_split : (form x : ℕ) (ms : List Met) (early late : List Look) → looks_of form x ms ≡ early ++ late → Turns form x ms early late
look_split form x [] [] late h = record { first = []; second = []; whole = refl; are_first = refl; are_second = h }
look_split form x (m ∷ ms) [] late h = record { first = []; second = m ∷ ms; whole = refl; are_first = refl; are_second = h }
look_split form x [] (q ∷ early) late h = absurd (not_empty q (early ++ late) (sym h))
look_split form x (m ∷ ms) (q ∷ early) late h =
    let r = look_split form x ms early late (same_rest (look_of form x m) q (looks_of form x ms) (early ++ late) h) in
    record { first = m ∷ r.first; second = r.second; whole = ap (λ t. m ∷ t) r.whole; are_first = λ i. same_first (look_of form x m) q (looks_of form x ms) (early ++ late) h i ∷ r.are_first i; are_second = r.are_second }

found_each : (form x : ℕ) (ms : List Met) → AllFound (looks_of form x ms) → Each (found form x) ms
found_each form x [] h = tt
found_each form x (m ∷ ms) h = (h.0, found_each form x ms h.1)

not_one : (form x : ℕ) (ms : List Met) → NoneReported (looks_of form x ms) → OneOf (reported form x) ms → ⊥
not_one form x [] n o = o
not_one form x (m ∷ ms) n (inl t) = true≢false (sym t ∙ n.0)
not_one form x (m ∷ ms) n (inr o) = not_one form x ms n.1 o

looks_length : (form x : ℕ) (ms : List Met) → length (looks_of form x ms) ≡ length ms
looks_length form x [] = refl
looks_length form x (m ∷ ms) = ap suc (looks_length form x ms)

-- an attribute that has an entry makes the cluster's one at least
some_entry : (cluster x : ℕ) (l : List Entry) (e : Entry) → lookup_l (key_of cluster x) l ≡ Some e → 1 ≤ count (of_cluster cluster) l
some_entry cluster x l e h = let c = count_less (λ k. false) (of_cluster cluster) (λ k t. absurd (false≢true t)) (key_of cluster x) e l h refl (eq-eqb cluster cluster refl) in omega (arith, c)

-- a row of turns that find it due and do not report it is shorter than n
short : (form limit cluster x : ℕ) (hs : List Happening) (l : List Entry) (pre row post : List Look) → 1 ≤ count (of_cluster cluster) l → Standing cluster hs
    → StoresOfBytes (turns_of form limit cluster hs l) → Handed form (turns_of form limit cluster hs l) → EachAlone form (turns_of form limit cluster hs l)
    → looks_of form x (turns_of form limit cluster hs l) ≡ pre ++ (row ++ post) → AllFound row → NoneReported row → length row < count (of_cluster cluster) l
short form limit cluster x hs l pre row post one st by ha al o fo no-report = go (dec_le (count (of_cluster cluster) l) (length row))
  where
    a : Turns form x (turns_of form limit cluster hs l) pre (row ++ post)
    a = look_split form x (turns_of form limit cluster hs l) pre (row ++ post) o

    b : Turns form x a.second row post
    b = look_split form x a.second row post a.are_second

    same_length : length row ≡ length b.first
    same_length = ap length (sym b.are_first) ∙ looks_length form x b.first

    go : Dec (count (of_cluster cluster) l ≤ length row) → length row < count (of_cluster cluster) l
    go (yes h) =
        absurd (not_one form x b.first (subst NoneReported (sym b.are_first) no-report)
        (in_row form limit cluster x hs l a.first b.first b.second st (a.whole ∙ ap (λ t. a.first ++ t) b.whole) by ha al
        (omega (arith, h, one, same_length)) (omega (arith, h, same_length)) (found_each form x b.first (subst AllFound (sym b.are_first) fo))))
    go (no h) = omega arith

-- G seconds a turn
span : (G : ℕ) (a : Look) (row : List Look) (z : Look) (post : List Look) → Paced G (a ∷ (row ++ (z ∷ post))) → z.time ≤ a.time + suc (length row) * G
span G a [] z post p = let s = suc-mul 0 G in let t = zero-mul G in omega (arith, p.1, s, t)
span G a (q ∷ row) z post p = let h = span G q row z post p.2 in let s = suc-mul (suc (length row)) G in omega (arith, h, p.1, s)

module _ (g : ReportingConfig) (acc : AcceptedRecord g) (G n t : ℕ) (v : ℤ) (z : Look) (post : List Look) where
  -- from the maximum on each turn finds it due
  all_found : (a : Look) (mid : List Look) → t + g.max_interval ≤ a.time → Paced G (a ∷ (mid ++ (z ∷ post))) → AllRipe g t v (asks_of mid) → AllFound mid
  all_found a [] h p r = tt
  all_found a (q ∷ mid) h p r =
      let w : t + g.max_interval ≤ q.time = omega (arith, h, p.0) in
      (r.0 ∙ late_yes g acc t q.time (moved_by g v q.value) w, all_found q mid w p.2 r.1)

  walk : (a : Look) (mid : List Look) → 1 ≤ n → a.time + 1 ≤ t + g.max_interval → Paced G (a ∷ (mid ++ (z ∷ post))) → AllRipe g t v (asks_of mid) → NoneReported mid
      → ((pre row : List Look) → mid ≡ pre ++ row → AllFound row → NoneReported row → length row < n) → z.time ≤ t + (g.max_interval + n * G - 1)
  walk a [] one h p r u f = let m = mul-le-mul_right G one in let s = suc-mul 0 G in let k = zero-mul G in omega (arith, h, p.1, m, s, k)
  walk a (q ∷ mid) one h p r u f =
      go (dec_le (t + g.max_interval) q.time) (λ e. walk q mid one e p.2 r.1 u.1 (λ pre row o. f (q ∷ pre) row (ap (λ x. q ∷ x) o)))
    where
      late : t + g.max_interval ≤ q.time → z.time ≤ t + (g.max_interval + n * G - 1)
      late w =
          let y : AllFound (q ∷ mid) = (r.0 ∙ late_yes g acc t q.time (moved_by g v q.value) w, all_found q mid w p.2 r.1) in
          let few = f [] (q ∷ mid) refl y u in
          let m : suc (length (q ∷ mid)) * G ≤ n * G = mul-le-mul_right G few in
          let s = span G a (q ∷ mid) z post p in
          omega (arith, h, m, s)

      go : Dec (t + g.max_interval ≤ q.time) → (q.time + 1 ≤ t + g.max_interval → z.time ≤ t + (g.max_interval + n * G - 1))
          → z.time ≤ t + (g.max_interval + n * G - 1)
      go (yes w) ih = late w
      go (no w) ih = ih (omega arith)

pub most_apart : MostApart
most_apart form limit cluster x G start e later d k acc s st by ha al y z w =
    let f = follow form limit cluster x later start e d k s.left_alone s.present in
    let r = since e.config acc e refl (looks_of form x (turns_of form limit cluster later start)) f y z w in
    let p = paced e.config acc e refl (looks_of form x (turns_of form limit cluster later start)) f y z w G s.paced in
    let one = some_entry cluster x start e k in
    let m = acc.one in
    walk e.config acc G (count (of_cluster cluster) start) y.time y.value z w.later y w.between one (omega arith) p r.0 w.none
    (λ pre row o fo no-report. short form limit cluster x later start (w.earlier ++ (y ∷ pre)) row (z ∷ w.later) one st by ha al
    (w.order ∙ ap (λ b. w.earlier ++ (y ∷ (b ++ (z ∷ w.later)))) o ∙ ap (λ b. w.earlier ++ (y ∷ b)) (append_assoc pre row (z ∷ w.later)) ∙ sym (append_assoc w.earlier (y ∷ pre) (row ++ (z ∷ w.later)))) fo no-report)
