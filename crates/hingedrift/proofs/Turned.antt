-- Report turns in what the functions towards C left: a log's turns are those of the uses that it tells, so that what crate `server` proves of these holds of it. Assumes nothing.
use mathlib.Core.Path.{◌≡◌, refl, sym, ap, ◌∙◌, subst}
use mathlib.Core.Bool.{Bool, true, false, cond}
use mathlib.Core.List.{List, [], ◌∷◌, ◌++◌, map}
use Prim.Native.Nat.{ℕ, ◌+◌, ◌-◌, ◌*◌, ◌≤◌}
use lib.ListN.{length}
use lib.Dec.{eqb}
use Rattle.frame.specs.Answer.{Outcome}
use Rattle.store.specs.Contents.{cluster_of}
use Rattle.reporting.specs.declared.entry.Entry.{Entry}
use Rattle.reporting.specs.Entries.{lookup_l}
use Rattle.reporting.specs.Table.{capacity}
use Rattle.reporting.specs.Carried.{table_in}
use Rattle.report.specs.Turn.{After, key_of}
use Rattle.report.specs.Claims.Words.{Each}
use Rattle.report.specs.Claims.History.{Happening, Met, Handed}
use Rattle.report.specs.Claims.Fairness.{count, of_cluster, Standing, StoresOfBytes, EachAlone}
use Rattle.report.specs.Claims.Demand3.{looks_of, LeftAlone, Present, Paced, SinceReport, Promised}
use Rattle.report.proofs.Moves.{turn_leaves, frame_sent}
use Rattle.server.specs.Claims.History.{requested, used, uses}
use Rattle.server.specs.Claims.Turns.{as_events, happens, happenings, turn_before, turns_in}
use Rattle.server.proofs.Turns.{fair_in_uses, demand_3_of_turns_served, most_apart_served}
use Rattle.hingedrift.specs.Claims.Log.{Made, configure, clear, mark, ask, configuration, handle, save, restore, turn, Contract, next, last, Log, request_of, turn_as, events_of}
use Rattle.hingedrift.specs.Claims.Turns.{turn_in, happens_by, happenings_in, turn_first, turns_made, TurnsTell, FairInLog, Demand3OfTurnsInLog, MostApartInLog}
use Rattle.hingedrift.proofs.Logged.{Held, is_one, are_back, are_bytes, use_of, call_is, call_held, log_cut, uses_of, begun_held}

-- ---- one call

happens_so : (c : Made) (bs : List ℕ) (l : List Entry) → Held bs l → Contract c bs → happens_by (turn_in c) (events_of c bs) ≡ happens capacity (use_of c) l
unfolding use_of
happens_so (configure a g number accepted table) bs l h p = ap as_events (call_is (configure a g number accepted table) bs l h p).events
happens_so (clear a number table) bs l h p = ap as_events (call_is (clear a number table) bs l h p).events
happens_so (mark a x number table) bs l h p = ap as_events (call_is (mark a x number table) bs l h p).events
happens_so (ask a x number due) bs l h p = ap as_events (call_is (ask a x number due) bs l h p).events
happens_so (configuration a number found) bs l h p = ap as_events (call_is (configuration a number found) bs l h p).events
happens_so (handle q) bs l h p = ap as_events (call_is (handle q) bs l h p).events
happens_so (save size number used buffer) bs l h p = ap as_events (call_is (save size number used buffer) bs l h p).events
happens_so (restore form number table) bs l h p = ap as_events (call_is (restore form number table) bs l h p).events
happens_so (turn t) bs l h p = refl

turns_so : (cluster : ℕ) (c : Made) (l : List Entry) (more : List Met) → turn_first cluster (turn_in c) l more ≡ turn_before cluster (use_of c) l more
unfolding use_of
turns_so cluster (configure a g number accepted table) l more = refl
turns_so cluster (clear a number table) l more = refl
turns_so cluster (mark a x number table) l more = refl
turns_so cluster (ask a x number due) l more = refl
turns_so cluster (configuration a number found) l more = refl
turns_so cluster (handle q) l more = refl
turns_so cluster (save size number used buffer) l more = refl
turns_so cluster (restore form number table) l more = refl
turns_so cluster (turn t) l more = refl

-- ---- and so a log

record Told (cluster : ℕ) (log : List Made) (bs : List ℕ) (l : List Entry) : Type 0 where
  happened : happenings_in log bs ≡ happenings capacity (map use_of log) l
  turns : turns_made cluster log bs ≡ turns_in capacity cluster (map use_of log) l

told : (cluster : ℕ) (log : List Made) (bs : List ℕ) (l : List Entry) → Held bs l → Log bs log → Told cluster log bs l
told cluster [] bs l h p = record { happened = refl; turns = refl }
told cluster (c ∷ log) bs l h p =
    let more = told cluster log (next c bs) (used capacity (use_of c) l) (call_held c bs l h p.0 p.1) p.2 in
    record {
      happened = λ i. happens_so c bs l h p.1 i ++ more.happened i;
      turns = (λ i. turn_first cluster (turn_in c) (are_back bs l h i) (more.turns i)) ∙ turns_so cluster c l (turns_in capacity cluster (map use_of log) (used capacity (use_of c) l));
    }

-- the store of a turn is bytes, by its type
of_bytes : (cluster : ℕ) (log : List Made) (bs : List ℕ) → Log bs log → StoresOfBytes (turns_made cluster log bs)
of_bytes cluster [] bs p = tt
of_bytes cluster (configure a g number accepted table ∷ log) bs p = of_bytes cluster log table p.2
of_bytes cluster (clear a number table ∷ log) bs p = of_bytes cluster log table p.2
of_bytes cluster (mark a x number table ∷ log) bs p = of_bytes cluster log table p.2
of_bytes cluster (ask a x number due ∷ log) bs p = of_bytes cluster log bs p.2
of_bytes cluster (configuration a number found ∷ log) bs p = of_bytes cluster log bs p.2
of_bytes cluster (handle q ∷ log) bs p = of_bytes cluster log q.table_after p.2
of_bytes cluster (save size number used buffer ∷ log) bs p = of_bytes cluster log bs p.2
of_bytes cluster (restore form number table ∷ log) bs p = of_bytes cluster log table p.2
of_bytes cluster (turn t ∷ log) bs p = go (eqb (cluster_of t.store) cluster) (of_bytes cluster log t.table_after p.2)
  where
    go : (b : Bool) → StoresOfBytes (turns_made cluster log t.table_after)
        → StoresOfBytes (cond b (record { turn = turn_as t; entries = table_in bs } ∷ turns_made cluster log t.table_after) (turns_made cluster log t.table_after))
    go true h = (p.0.0, h)
    go false h = h

-- ---- the claims

pub turns_tell : TurnsTell
turns_tell how was bs before t after begin p =
    let cut = log_cut before (turn t ∷ after) bs p in
    let held = begun_held how was bs before begin cut.0 in
    let l : List Entry = uses capacity (uses_of how before) [] in
    let one = is_one (last before bs) l held in
    let left = turn_leaves 8 (turn_as t) (last before bs) (are_bytes (last before bs) l held) one in
    record {
      gives = ap (λ (o : Outcome After). o.state.last) cut.1.1 ∙ ap (λ (x : After). x.last) left;
      sends = λ a more e. let s = cut.1.1 ∙ frame_sent 8 (turn_as t) (last before bs) a more one e in (ap (λ (o : Outcome After). o.number) s, ap (λ (o : Outcome After). o.reply) s);
    }

pub fair_in_log : FairInLog
fair_in_log how was bs before after cluster id pre row post begin p st order ha al one many fo =
    let cut = log_cut before after bs p in
    let l : List Entry = uses capacity (uses_of how before) [] in
    let held = begun_held how was bs before begin cut.0 in
    let w = told cluster after (last before bs) l held cut.1 in
    fair_in_uses capacity cluster id (map use_of after) l pre row post (subst (Standing cluster) w.happened st) (sym w.turns ∙ order)
    (subst StoresOfBytes w.turns (of_bytes cluster after (last before bs) cut.1)) (subst (Handed 8) w.turns ha) (subst (EachAlone 8) w.turns al) one
    (subst (λ (m : List Entry). count (of_cluster cluster) m ≤ length row) (are_back (last before bs) l held) many) fo

pub demand_3_of_turns_in_log : Demand3OfTurnsInLog
unfolding use_of
demand_3_of_turns_in_log how was bs before h after earlier cluster id g rest G begin p q low high alone present paced =
    let cut = log_cut before (handle h ∷ after) bs p in
    let l : List Entry = uses capacity (uses_of how before) [] in
    let held : Held (last before bs) l = begun_held how was bs before begin cut.0 in
    let this = call_is (handle h) (last before bs) l held cut.1.1 in
    let w = told cluster after h.table_after (requested capacity (request_of h) l) (call_held (handle h) (last before bs) l held cut.1.0 cut.1.1) cut.1.2 in
    subst (λ (ms : List Met). Promised g (looks_of 8 id ms)) (sym w.turns)
    (demand_3_of_turns_served capacity cluster id (uses_of how before) (request_of h) g earlier rest G (map use_of after) (sym this.events ∙ q) low high
    (subst (λ (hs : List Happening). LeftAlone (key_of cluster id) (as_events rest ++ hs)) w.happened alone)
    (subst (Each (Present 8 id)) w.turns present)
    (subst (λ (ms : List Met). Paced G (looks_of 8 id ms)) w.turns paced))

pub most_apart_in_log : MostApartInLog
most_apart_in_log how was bs before after cluster id G e begin p entry acc alone present paced st ha al y z since =
    let cut = log_cut before after bs p in
    let l : List Entry = uses capacity (uses_of how before) [] in
    let held = begun_held how was bs before begin cut.0 in
    let back = are_back (last before bs) l held in
    let w = told cluster after (last before bs) l held cut.1 in
    subst (λ (m : List Entry). z.time ≤ y.time + (e.config.max_interval + count (of_cluster cluster) m * G - 1)) (sym back)
    (most_apart_served capacity cluster id G (uses_of how before) e (map use_of after) (ap (lookup_l (key_of cluster id)) (sym back) ∙ entry) acc
    (subst (LeftAlone (key_of cluster id)) w.happened alone)
    (subst (Each (Present 8 id)) w.turns present)
    (subst (λ (ms : List Met). Paced G (looks_of 8 id ms)) w.turns paced)
    (subst (Standing cluster) w.happened st)
    (subst StoresOfBytes w.turns (of_bytes cluster after (last before bs) cut.1))
    (subst (Handed 8) w.turns ha)
    (subst (EachAlone 8) w.turns al)
    y z (subst (λ (ms : List Met). SinceReport (looks_of 8 id ms) y z) w.turns since))
