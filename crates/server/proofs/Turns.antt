-- Report turns among requests and direct calls: they are turns among events, so that the laws of crate `report` hold of them. Assumes nothing.
use mathlib.Core.Path.{◌≡◌, refl, sym, ap, ◌∙◌, subst}
use mathlib.Core.Bool.{true, cond}
use mathlib.Core.List.{List, [], ◌∷◌, ◌++◌}
use Prim.Native.Nat.{ℕ}
use lib.Dec.{eqb}
use Rattle.store.specs.Contents.{cluster_of}
use Rattle.reporting.specs.declared.entry.Key.{Key}
use Rattle.reporting.specs.declared.entry.Entry.{Entry}
use Rattle.reporting.specs.Entries.{Distinct, accepts_l, configure_l}
use Rattle.reporting.specs.Claims.Events.{Event, configured, after, run, Honest, events}
use Rattle.reporting.proofs.Runs.{run_append, honest_rest}
use Rattle.reporting.proofs.Histories.{call_is, run_distinct, configure_own, configure_distinct}
use Rattle.report.specs.Turn.{key_of}
use Rattle.report.specs.Claims.Words.{Each}
use Rattle.report.specs.Claims.Turns.{turned}
use Rattle.report.specs.Claims.History.{Happening, Met, turns_of, Handed}
use Rattle.report.specs.Claims.Fairness.{StoresOfBytes, EachAlone}
use Rattle.report.specs.Claims.Demand3.{looks_of, Present, Paced, SinceReport, Promised}
use Rattle.report.proofs.Rows.{in_row}
use Rattle.report.proofs.Spacing.{turns_standing, most_apart}
use Rattle.server.specs.Claims.History.{requested, request_events, Use, request, direct, turn, used, uses, uses_events}
use Rattle.server.specs.Claims.Turns.{as_events, happenings, turns_in, FairInUses, Demand3OfTurnsServed, MostApartServed}
use Rattle.server.proofs.Histories.{request_is, uses_are_events}
use Rattle.server.proofs.Frames.{Ruled, ruled_at, request_ruled}

-- ---- the turns among uses

events_turns : (limit cluster : ℕ) (es : List Event) (hs : List Happening) (l : List Entry) → turns_of 8 limit cluster (as_events es ++ hs) l ≡ turns_of 8 limit cluster hs (run limit es l)
events_turns limit cluster [] hs l = refl
events_turns limit cluster (e ∷ es) hs l = events_turns limit cluster es hs (after limit e l)

-- the turns behind events that leave m
behind : (limit cluster : ℕ) (es : List Event) (us : List Use) (l m : List Entry) → run limit es l ≡ m → turns_of 8 limit cluster (happenings limit us m) m ≡ turns_in limit cluster us m
    → turns_of 8 limit cluster (as_events es ++ happenings limit us m) l ≡ turns_in limit cluster us m
behind limit cluster es us l m e h = events_turns limit cluster es (happenings limit us m) l ∙ ap (turns_of 8 limit cluster (happenings limit us m)) e ∙ h

turns_are : (limit cluster : ℕ) (us : List Use) (l : List Entry) → turns_of 8 limit cluster (happenings limit us l) l ≡ turns_in limit cluster us l
turns_are limit cluster [] l = refl
turns_are limit cluster (request r ∷ us) l =
    behind limit cluster (request_events limit r l) us l (requested limit r l) (request_is limit r l).table (turns_are limit cluster us (requested limit r l))
turns_are limit cluster (direct c ∷ us) l =
    behind limit cluster (events limit c l) us l (used limit (direct c) l) (call_is limit c l).table (turns_are limit cluster us (used limit (direct c) l))
turns_are limit cluster (turn u ∷ us) l =
    ap (λ (ms : List Met). cond (eqb (cluster_of u.store) cluster) (record { turn = u; entries = l } ∷ ms) ms) (turns_are limit cluster us (turned 8 u l))

pub fair_in_uses : FairInUses
fair_in_uses limit cluster id us l pre row post st order by ha al one many fo =
    let e = sym (turns_are limit cluster us l) in
    in_row 8 limit cluster id (happenings limit us l) l pre row post st (turns_are limit cluster us l ∙ order) (subst StoresOfBytes e by) (subst (Handed 8) e ha) (subst (EachAlone 8) e al) one many fo

-- ---- demand 3 with turns

-- keys stay distinct
uses_distinct : (limit : ℕ) (us : List Use) → Distinct (uses limit us [])
uses_distinct limit us = subst Distinct (uses_are_events limit us []).table (run_distinct limit (uses_events limit us []) [] tt)

pub demand_3_of_turns_served : Demand3OfTurnsServed
demand_3_of_turns_served limit cluster id before r g earlier rest G later p low high alone present paced =
    let l : List Entry = uses limit before [] in
    let m : List Entry = requested limit r l in
    let k : Key = key_of cluster id in
    let mid : List Entry = run limit earlier l in
    let start : List Entry = configure_l limit k g mid in
    let is = request_is limit r l in
    let accepted : accepts_l limit k mid ≡ true = (honest_rest limit earlier (configured k g ∷ rest) l (subst (λ es. Honest limit es l) p is.honest)).0 in
    let left : run limit rest start ≡ m = sym (run_append limit earlier (configured k g ∷ rest) l) ∙ ap (λ es. run limit es l) (sym p) ∙ is.table in
    let e = behind limit cluster rest later start m left (turns_are limit cluster later m) in
    subst (λ ms. Promised g (looks_of 8 id ms)) e
    (turns_standing 8 limit cluster id G start g (as_events rest ++ happenings limit later m)
    (configure_distinct limit k g mid (run_distinct limit earlier l (uses_distinct limit before))) (configure_own limit k g mid accepted)
    (record { rule = ruled_at earlier k g rest (subst Ruled p (request_ruled limit r l)); one = low })
    (record { left_alone = alone; present = subst (Each (Present 8 id)) (sym e) present; paced = subst (λ ms. Paced G (looks_of 8 id ms)) (sym e) paced }))

pub most_apart_served : MostApartServed
most_apart_served limit cluster id G before e later k acc alone present paced st by ha al y z w =
    let l : List Entry = uses limit before [] in
    let t = sym (turns_are limit cluster later l) in
    most_apart 8 limit cluster id G l e (happenings limit later l) (uses_distinct limit before) k acc
    (record { left_alone = alone; present = subst (Each (Present 8 id)) t present; paced = subst (λ ms. Paced G (looks_of 8 id ms)) t paced })
    st (subst StoresOfBytes t by) (subst (Handed 8) t ha) (subst (EachAlone 8) t al) y z (subst (λ ms. SinceReport (looks_of 8 id ms) y z) t w)
