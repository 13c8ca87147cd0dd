-- What the code of the server and of the table gave back, by its contracts, is what the uses of the table that were made leave and tell; so demand 3
-- holds of it. Assumes nothing.
use mathlib.Core.Path.{◌≡◌, refl, sym, ap, ◌∙◌, subst}
use mathlib.Core.Bool.{Bool, true, false, cond}
use mathlib.Core.List.{List, [], ◌∷◌, ◌++◌, map}
use Rattle.frame.specs.Answer.{Outcome}
use Rattle.frame.specs.Walk.{All}
use Rattle.reporting.specs.declared.entry.Key.{Key}
use Rattle.reporting.specs.declared.entry.ReportingConfig.{ReportingConfig}
use Rattle.reporting.specs.declared.entry.Entry.{Entry}
use Rattle.reporting.specs.declared.table.ReportingTable.{ReportingTable}
use Rattle.reporting.specs.declared.table.Changed.{Changed}
use Rattle.reporting.specs.Entries.{accepts_l, configure_l}
use Rattle.reporting.specs.Table.{capacity, Table, holding, table_of, entries_of, change_told, HandedBack, handed_back, done_t, full_t, configure_t, clear_t, mark_t, ask_t}
use Rattle.reporting.specs.Lent.{quieted_t}
use Rattle.reporting.specs.Claims.Events.{Event, configured, cleared, marked, after}
use Rattle.reporting.specs.Claims.Events as Event
use Rattle.reporting.specs.Demand3.{Supposed, Promised, asks_of}
use Rattle.reporting.specs.Claims.Log.{if_accepted, if_answered}
use Rattle.reporting.specs.Claims.Log as Method
use Rattle.reporting.proofs.Histories.{configure_refused}
use Rattle.reporting.proofs.Kept.{Quiet, run_quiet, quiet_same}
use Rattle.server.specs.Serve.{State, serve}
use Rattle.server.specs.Claims.History.{requested, request_events, Use, direct, used, use_events, uses, uses_events}
use Rattle.server.specs.Claims.History as History
use Rattle.server.specs.Claims.Log.{Made, request, method, Contract, next, last, Log, events_of, all_events_of, Demand3OfServer}
use Rattle.server.proofs.Histories.{use_is, request_holds}
use Rattle.server.proofs.Frames.{demand_3_of_frames}

-- ---- a call is a use

pub use_of : Made → Use
use_of (request q r reply store) = History.request q
use_of (method (Method.configure k g r)) = direct (Event.configure k g)
use_of (method (Method.clear k r)) = direct (Event.clear k)
use_of (method (Method.mark k now v r)) = direct (Event.mark k now v)
use_of (method (Method.ask k now v r)) = direct (Event.ask k now v)
use_of (method (Method.configuration k r)) = direct (Event.configuration k)
use_of (method (Method.len r)) = direct Event.len

-- events es that leave the table t are the use's, from the entries l on
record Is (u : Use) (l : List Entry) (es : List Event) (t : ReportingTable) : Type 0 where
  events : es ≡ use_events capacity u l
  table : table_of t ≡ holding (used capacity u l)

configure_is : (k : Key) (g : ReportingConfig) (r : Changed) (l : List Entry) → handed_back r ≡ configure_t capacity k g (holding l)
    → Is (direct (Event.configure k g)) l (if_accepted (change_told r.answer) (configured k g)) r.table
configure_is k g r l q = go (accepts_l capacity k l) refl q
  where
    go : (b : Bool) → accepts_l capacity k l ≡ b → handed_back r ≡ cond b (done_t (configure_l capacity k g l)) (full_t l)
        → Is (direct (Event.configure k g)) l (if_accepted (change_told r.answer) (configured k g)) r.table
    go true e q = record {
      events = ap (λ (o : HandedBack). if_accepted o.told (configured k g)) q ∙ ap (λ (b : Bool). cond b (configured k g ∷ []) []) (sym e);
      table = ap (λ (o : HandedBack). o.table) q;
    }
    go false e q = record {
      events = ap (λ (o : HandedBack). if_accepted o.told (configured k g)) q ∙ ap (λ (b : Bool). cond b (configured k g ∷ []) []) (sym e);
      table = ap (λ (o : HandedBack). o.table) q ∙ ap holding (sym (configure_refused capacity k g l e));
    }

-- without a report an entry has neither time nor value, and so the bytes that a request works on carry all of it; l is made of such entries
call_is : (c : Made) (t : ReportingTable) (l : List Entry) → All Quiet l → table_of t ≡ holding l → Contract c t → Is (use_of c) l (events_of c t) (next c t)
unfolding use_of requested
call_is (request q r reply store) t l k e h =
    let b : quieted_t (table_of t) ≡ holding l = ap quieted_t e ∙ ap holding (quiet_same l k) in
    let o = h ∙ ap (λ (x : Table). serve 8 capacity q.store x q.cluster q.unicast q.frame q.room) b in
    record {
      events = ap (λ (x : Table). request_events capacity q (entries_of x)) e;
      table = ap (λ (x : Outcome State). x.state.table) o ∙ request_holds capacity q l;
    }
call_is (method (Method.configure k g r)) t l d e h = configure_is k g r l (h ∙ ap (configure_t capacity k g) e)
call_is (method (Method.clear k r)) t l d e h =
    let o = h ∙ ap (clear_t k) e in
    record { events = ap (λ (x : HandedBack). if_accepted x.told (cleared k)) o; table = ap (λ (x : HandedBack). x.table) o }
call_is (method (Method.mark k now v r)) t l d e h =
    let o = h ∙ ap (mark_t k now v) e in
    record { events = ap (λ (x : HandedBack). if_accepted x.told (marked k now v)) o; table = ap (λ (x : HandedBack). x.table) o }
call_is (method (Method.ask k now v r)) t l d e h = record { events = ap (if_answered k now v) (h ∙ ap (ask_t k now v) e); table = e }
call_is (method (Method.configuration k r)) t l d e h = record { events = refl; table = e }
call_is (method (Method.len r)) t l d e h = record { events = refl; table = e }

used_quiet : (u : Use) (l : List Entry) → All Quiet l → All Quiet (used capacity u l)
used_quiet u l h = subst (All Quiet) (use_is capacity u l).table (run_quiet capacity (use_events capacity u l) l h)

-- ---- and so a log is uses

record AllIs (us : List Use) (l : List Entry) (es : List Event) (t : ReportingTable) : Type 0 where
  quiet : All Quiet (uses capacity us l)
  events : es ≡ uses_events capacity us l
  table : table_of t ≡ holding (uses capacity us l)

log_is : (log : List Made) (t : ReportingTable) (l : List Entry) → All Quiet l → table_of t ≡ holding l → Log t log → AllIs (map use_of log) l (all_events_of log t) (last log t)
log_is [] t l q e h = record { quiet = q; events = refl; table = e }
log_is (c ∷ log) t l q e h =
    let one = call_is c t l q e h.0 in
    let more = log_is log (next c t) (used capacity (use_of c) l) (used_quiet (use_of c) l q) one.table h.1 in
    record { quiet = more.quiet; events = λ i. one.events i ++ more.events i; table = more.table }

-- a log cut in two
log_cut : (before after : List Made) (t : ReportingTable) → Log t (before ++ after) → Log t before × Log (last before t) after
log_cut [] after t h = (tt, h)
log_cut (c ∷ before) after t h = let w = log_cut before after (next c t) h.1 in ((h.0, w.0), w.1)

pub demand_3_of_server : Demand3OfServer
unfolding use_of
demand_3_of_server t before q r reply store after earlier k g rest G e h p low high s =
    let cut = log_cut before (request q r reply store ∷ after) t h in
    let l : List Entry = uses capacity (map use_of before) [] in
    let first = log_is before t [] tt e cut.0 in
    let this = call_is (request q r reply store) (last before t) l first.quiet first.table cut.1.0 in
    let more = log_is after r.table (requested capacity q l) (used_quiet (History.request q) l first.quiet) this.table cut.1.1 in
    subst (λ (es : List Event). Promised g G (asks_of k (rest ++ es))) (sym more.events)
    (demand_3_of_frames capacity (map use_of before) q k g earlier rest G (map use_of after) (sym this.events ∙ p) low high
    (subst (λ (es : List Event). Supposed k G (rest ++ es)) more.events s))
