-- What the code of the table gave back, by its contracts, is an honest history; so demand 3 holds of it. Assumes nothing.
use Rattle.std.specs.Prelude.{Result}
use mathlib.Core.Path.{◌≡◌, refl, sym, ap, ◌∙◌, subst}
use mathlib.Core.Bool.{Bool, true, false, cond}
use mathlib.Core.List.{List, [], ◌∷◌, ◌++◌}
use Prim.Native.Nat.{ℕ}
use lib.IntN.{ℤ}
use Rattle.reporting.specs.declared.entry.Key.{Key}
use Rattle.reporting.specs.declared.entry.ReportingConfig.{ReportingConfig}
use Rattle.reporting.specs.declared.entry.Entry.{Entry}
use Rattle.reporting.specs.declared.table.ReportingTable.{ReportingTable}
use Rattle.reporting.specs.declared.table.Changed.{Changed}
use Rattle.frame.specs.declared.answer.Refusal.{Refusal}
use Rattle.reporting.specs.Entries.{accepts_l, configure_l}
use Rattle.reporting.specs.Table.{capacity, table_of, holding, change_told, report_told, HandedBack, handed_back, done_t, full_t, configure_t, clear_t, mark_t, ask_t}
use Rattle.reporting.specs.Claims.Events.{Event, configured, cleared, marked, after, Tells, Honest}
use Rattle.reporting.specs.Claims.Log.{Made, configure, clear, mark, ask, configuration, len, Log, if_accepted, if_answered, all_events_of, Demand3OfCode}
use Rattle.reporting.proofs.Promise.{demand_3}

module _ (l : List Entry) (es : List Event) where
  -- a call that was done is its event
  done : (e : Event) (r : Changed) → handed_back r ≡ done_t (after capacity e l) → Tells capacity e l
      → (table_of r.table ≡ holding (after capacity e l) → Honest capacity es (after capacity e l))
      → Honest capacity (if_accepted (change_told r.answer) e ++ es) l
  done e r q t ih =
      subst (λ a. Honest capacity (if_accepted a e ++ es) l) (sym (ap (λ (o : HandedBack). o.told) q)) (t, ih (ap (λ (o : HandedBack). o.table) q))

  configure_told : (k : Key) (g : ReportingConfig) (r : Changed) → handed_back r ≡ configure_t capacity k g (holding l)
      → ((m : List Entry) → table_of r.table ≡ holding m → Honest capacity es m)
      → Honest capacity (if_accepted (change_told r.answer) (configured k g) ++ es) l
  configure_told k g r q ih = go (accepts_l capacity k l) refl q
    where
      go : (b : Bool) → accepts_l capacity k l ≡ b → handed_back r ≡ cond b (done_t (configure_l capacity k g l)) (full_t l)
          → Honest capacity (if_accepted (change_told r.answer) (configured k g) ++ es) l
      go true e q = done (configured k g) r q e (ih (configure_l capacity k g l))
      go false e q =
          subst (λ a. Honest capacity (if_accepted a (configured k g) ++ es) l) (sym (ap (λ (o : HandedBack). o.told) q)) (ih l (ap (λ (o : HandedBack). o.table) q))

  ask_told : (k : Key) (now : ℕ) (v : ℤ) (r : Result Bool Refusal) → report_told r ≡ ask_t k now v (holding l) → Honest capacity es l
      → Honest capacity (if_answered k now v (report_told r) ++ es) l
  ask_told k now v r q ih = subst (λ a. Honest capacity (if_answered k now v a ++ es) l) (sym q) (refl, ih)

pub log_honest : (log : List Made) (t : ReportingTable) (l : List Entry) → table_of t ≡ holding l → Log t log → Honest capacity (all_events_of log) l
log_honest [] t l e h = tt
log_honest (configure k g r ∷ log) t l e h =
    configure_told l (all_events_of log) k g r (h.0 ∙ ap (configure_t capacity k g) e) (λ m q. log_honest log r.table m q h.1)
log_honest (clear k r ∷ log) t l e h =
    done l (all_events_of log) (cleared k) r (h.0 ∙ ap (clear_t k) e) tt (λ q. log_honest log r.table (after capacity (cleared k) l) q h.1)
log_honest (mark k now v r ∷ log) t l e h =
    done l (all_events_of log) (marked k now v) r (h.0 ∙ ap (mark_t k now v) e) tt
    (λ q. log_honest log r.table (after capacity (marked k now v) l) q h.1)
log_honest (ask k now v r ∷ log) t l e h =
    ask_told l (all_events_of log) k now v r (h.0 ∙ ap (ask_t k now v) e) (log_honest log t l e h.1)
log_honest (configuration k r ∷ log) t l e h = log_honest log t l e h.1
log_honest (len r ∷ log) t l e h = log_honest log t l e h.1

pub demand_3_of_code : Demand3OfCode
demand_3_of_code t log earlier k g G later e h p acc s =
    demand_3 capacity earlier k g G later (subst (λ es. Honest capacity es []) p (log_honest log t [] e h)) acc s
