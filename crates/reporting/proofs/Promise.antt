-- Demand 3: arithmetic on the time since the last report, which there is the last yes. Assumes nothing.
use mathlib.Core.Path.{◌≡◌, refl, sym, ap, ◌∙◌, subst}
use mathlib.Core.Logic.{◌↔◌, inr}
use mathlib.Core.Bool.{Bool, true, false, not, ◌&&◌, true≢false, false≢true}
use mathlib.Core.List.{List, [], ◌∷◌, ◌++◌}
use Prim.Native.Nat.{ℕ, ◌+◌, ◌-◌, ◌≤◌, ◌<◌}
use native.Mathlib.Omega.{arith}
use native.Mathlib.Decide.{dec_le}
use lib.Dec.{leb, eqb}
use lib.IntN.{ℤ}
use borrow.Author.Tests.{eqb-false, leb-true, le-leb, ne_eqb}
use Rattle.reporting.specs.declared.entry.ReportingConfig.{ReportingConfig}
use Rattle.reporting.specs.declared.entry.Entry.{Entry}
use Rattle.reporting.specs.Entries.{fresh, lookup_l, Distinct, configure_l}
use Rattle.reporting.specs.Due.{moved_by, ripe}
use Rattle.reporting.specs.Wish.{record_w}
use Rattle.reporting.specs.Claims.Events.{configured, run, Call, config_record, call, calls, history}
use Rattle.reporting.specs.Demand3.{Ask, asks_of, Paced, owed, MarkedAsks, AcceptedRecord, AllNo, Since, Moved, Promised, Demand3Standing, Demand3From, Demand3, Demand3OfCalls}
use Rattle.reporting.proofs.Due.{ripe_early, ripe_late, ripe_between}
use Rattle.reporting.proofs.Runs.{honest_rest}
use Rattle.reporting.proofs.Histories.{configure_own, configure_distinct, run_distinct, history_is}
use Rattle.reporting.proofs.Accepted.{ordered, record_accepted}
use Rattle.reporting.proofs.Follows.{carry, mark_all, Follows, paced_after, marked_after, marked_head, Unmarked, AllRipe, only_mark, timed, untimed}

-- ---- how far apart

module _ (g : ReportingConfig) (acc : AcceptedRecord g) where
  pub late_yes : (t x m : ℕ) → t + g.max_interval ≤ x → ripe g (x - t) m ≡ true
  late_yes t x m h =
      let o = ordered g acc in
      let w = acc.one in
      ripe_late g (x - t) m (omega arith) (λ q. omega (arith, q)) (omega arith)

  pub no_early : (t x m : ℕ) → ripe g (x - t) m ≡ false → x + 1 ≤ t + g.max_interval
  no_early t x m n = go (dec_le (t + g.max_interval) x)
    where
      go : Dec (t + g.max_interval ≤ x) → x + 1 ≤ t + g.max_interval
      go (yes h) = absurd (true≢false (sym (late_yes t x m h) ∙ n))
      go (no h) = omega arith

  pub paced_at : (G : ℕ) (a : Ask) (mid : List Ask) (z : Ask) (post : List Ask) → Paced G (a ∷ (mid ++ (z ∷ post))) → a.time ≤ z.time
  paced_at G a [] z post p = p.0
  paced_at G a (q ∷ mid) z post p = let h = paced_at G q mid z post p.2 in omega (arith, h, p.0)

  gap_at : (G t : ℕ) (v : ℤ) (a : Ask) (mid : List Ask) (z : Ask) (post : List Ask) → a.time + 1 ≤ t + g.max_interval → Paced G (a ∷ (mid ++ (z ∷ post))) → AllRipe g t v mid → AllNo mid
      → z.time + 1 ≤ t + (g.max_interval + G)
  gap_at G t v a [] z post h p r n = omega (arith, h, p.1)
  gap_at G t v a (q ∷ mid) z post h p r n =
      gap_at G t v q mid z post (no_early t q.time (moved_by g v q.value) (sym r.0 ∙ n.0)) p.2 r.1 n.1

-- ---- the promise

-- where each yes is marked before the next ask, the last yes is the last report
owed_yes : (a : Ask) → a.answer ≡ true → owed a ≡ only_mark a
owed_yes a h = rw h

owed_no : (a : Ask) → a.answer ≡ false → owed a ≡ []
owed_no a h = rw h

unmarked_no : (mid : List Ask) (z : Ask) (post : List Ask) → MarkedAsks (mid ++ (z ∷ post)) → AllNo mid → Unmarked mid
unmarked_no [] z post k n = tt
unmarked_no (q ∷ mid) z post k n = let h = marked_head q mid z post k in (h.0 ∙ owed_no q n.0, unmarked_no mid z post h.1 n.1)

pub moved_iff : (change m : ℕ) → ((not (eqb m 0) && leb change m) ≡ true) ↔ ((m ≡ 0 → ⊥) × (change ≤ m))
moved_iff change m = (to (eqb m 0) refl, λ h. simp (ne_eqb m 0 h.0, le-leb change m h.1))
  where
    to : (b : Bool) → eqb m 0 ≡ b → (not b && leb change m) ≡ true → (m ≡ 0 → ⊥) × (change ≤ m)
    to true e h = absurd (false≢true h)
    to false e h = (eqb-false m 0 e, leb-true change m h)

-- of asks that go by an entry which was configured so and not yet marked
module _ (g : ReportingConfig) (acc : AcceptedRecord g) (G : ℕ) (e : Entry) (c : e.config ≡ g) (new : e.marked ≡ false) (qs : List Ask) (f : Follows e qs) (pace : Paced G qs) (marks : MarkedAsks qs) where
  first_yes : (a : Ask) (rest : List Ask) → qs ≡ a ∷ rest → a.answer ≡ true
  first_yes a rest p = untimed g acc e [] a rest c new (subst (Follows e) p f) tt

  module _ (y z : Ask) (s : Since qs y z) where
    own_marks : (y.marks ≡ owed y) × MarkedAsks (s.between ++ (z ∷ s.later))
    own_marks = marked_head y s.between z s.later (marked_after s.earlier y (s.between ++ (z ∷ s.later)) (subst MarkedAsks s.order marks))

    since_yes : AllRipe g y.time y.value s.between × (z.answer ≡ ripe g (z.time - y.time) (moved_by g y.value z.value))
    since_yes =
        timed g acc e s.earlier y s.between z s.later c (subst (Follows e) s.order f) (own_marks.0 ∙ owed_yes y s.is_yes)
        (unmarked_no s.between z s.later own_marks.1 s.all_no)

    paced : Paced G (y ∷ (s.between ++ (z ∷ s.later)))
    paced = paced_after G s.earlier y (s.between ++ (z ∷ s.later)) (subst (Paced G) s.order pace)

    later : y.time ≤ z.time
    later = paced_at g acc G y s.between z s.later paced

    is_late : y.time + g.max_interval ≤ z.time → z.answer ≡ true
    is_late h = since_yes.1 ∙ late_yes g acc y.time z.time (moved_by g y.value z.value) h

    is_least : z.answer ≡ true → y.time + g.min_interval ≤ z.time
    is_least h = go (dec_le g.min_interval (z.time - y.time))
      where
        go : Dec (g.min_interval ≤ z.time - y.time) → y.time + g.min_interval ≤ z.time
        go (yes k) = omega (arith, later)
        go (no k) = absurd (true≢false (sym h ∙ since_yes.1 ∙ ripe_early g (z.time - y.time) (moved_by g y.value z.value) (omega arith)))

    is_most : z.time + 1 ≤ y.time + (g.max_interval + G)
    is_most = let w = acc.one in gap_at g acc G y.time y.value y s.between z s.later (omega arith) paced since_yes.0 s.all_no

    is_moved : y.time + g.min_interval ≤ z.time → z.time < y.time + g.max_interval → (z.answer ≡ true) ↔ Moved g y.value z.value
    is_moved h k =
        let eq : z.answer ≡ (not (eqb (moved_by g y.value z.value) 0) && leb g.reportable_change (moved_by g y.value z.value)) = since_yes.1 ∙ ripe_between g (z.time - y.time) (moved_by g y.value z.value) (omega arith) (inr (omega arith)) in
        let both = moved_iff g.reportable_change (moved_by g y.value z.value) in (
          λ a. let m = both.0 (sym eq ∙ a) in record { nonzero = m.0; enough = m.1 },
          λ m. eq ∙ both.1 (m.nonzero, m.enough),
        )

  pub promised_follows : Promised g G qs
  promised_follows = record { first = first_yes; late = is_late; least = is_least; most = λ y z s h. let n = is_most y z s in let w = acc.one in omega arith; moved = is_moved }

-- from a table in which the key stands as configured, and not yet marked
pub demand_3_standing : Demand3Standing
demand_3_standing limit l k g G es d h o acc s =
    promised_follows g acc G (fresh k g) refl refl (asks_of k es)
    (subst (λ ms. Follows (mark_all ms (fresh k g)) (asks_of k es)) s.not_before (carry limit k es l (fresh k g) d h o s.undisturbed))
    s.paced s.marked_asks

pub demand_3_from : Demand3From
demand_3_from limit start k g G es d o acc s =
    demand_3_standing limit (configure_l limit k g start) k g G es (configure_distinct limit k g start d) (configure_own limit k g start o.0) o.1 acc s

pub demand_3 : Demand3
demand_3 limit earlier k g G es o acc s =
    demand_3_from limit (run limit earlier []) k g G es (run_distinct limit earlier [] tt) (honest_rest limit earlier (configured k g ∷ es) [] o) acc s

-- ---- of calls

calls_append : (limit : ℕ) (cs ds : List Call) (l : List Entry) → calls limit (cs ++ ds) l ≡ calls limit ds (calls limit cs l)
calls_append limit [] ds l = refl
calls_append limit (c ∷ cs) ds l = calls_append limit cs ds (call limit c l)

pub demand_3_of_calls : Demand3OfCalls
demand_3_of_calls limit before k g G cs st low high s =
    let start = calls limit before [] in
    let r = record_accepted limit k g start st low high in
    let d : Distinct start = subst Distinct (history_is limit before []).table (run_distinct limit (history limit before []) [] tt) in
    let e : calls limit (before ++ (config_record k g ∷ [])) [] ≡ configure_l limit k g start = calls_append limit before (config_record k g ∷ []) [] ∙ ap (λ w. record_w w limit k g start) r.0 in
    demand_3_standing limit (calls limit (before ++ (config_record k g ∷ [])) []) k g G (history limit cs (calls limit (before ++ (config_record k g ∷ [])) []))
    (subst Distinct (sym e) (configure_distinct limit k g start d))
    (ap (lookup_l k) e ∙ configure_own limit k g start r.1)
    (history_is limit cs (calls limit (before ++ (config_record k g ∷ [])) [])).honest
    (record { rule = r.0; one = low }) s
