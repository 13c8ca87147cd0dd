-- Events and calls: what an event leaves of another key's entry, that keys stay distinct, and that a call is its events. Assumes
-- nothing.
use Rattle.std.specs.Prelude.{Some}
use mathlib.Core.Path.{◌≡◌, refl, sym, ap, ◌∙◌, subst}
use mathlib.Core.Bool.{Bool, true, false, cond, ◌||◌, false≢true}
use mathlib.Core.List.{List, [], ◌∷◌, ◌++◌}
use Prim.Native.Nat.{ℕ}
use lib.ListN.{length, get_or}
use lib.Dec.{ltb}
use lib.IntN.{ℤ}
use borrow.Author.Tests.{ltb-true, ltb-false}
use Rattle.reporting.specs.declared.entry.Key.{Key}
use Rattle.reporting.specs.declared.entry.ReportingConfig.{ReportingConfig}
use Rattle.reporting.specs.declared.entry.Entry.{Entry}
use Rattle.reporting.specs.Entries.{same, matches, fresh, replaced, find_l, lookup_l, Distinct, update_l, accepts_l, configure_l, mark_e, mark_l}
use Rattle.reporting.specs.declared.entry.Wish.{Wish}
use Rattle.reporting.specs.declared.entry.Wish.TheVariants.{ToClear, ToRefuse, ToSet}
use Rattle.reporting.specs.Wish.{wish, status_w, record_w}
use Rattle.reporting.specs.Claims.Events.{Event, configured, cleared, asked, marked, key_of, after, run, Honest, Leads, CallsAreEvents, HistoriesAreEvents, events_w, if_success, config_record, configure, clear, ask, mark, configuration, len, restore, call, events, calls, history}
use Rattle.reporting.specs.Claims.Sentences.{KeysStayDistinct, KeysNeverTwice}
use Rattle.reporting.proofs.Places.{lookup_none, lookup_at}
use Rattle.reporting.proofs.Runs.{run_append, honest_append}
use Rattle.reporting.proofs.Restored.{restore_is}
use Rattle.reporting.proofs.Others.{key_is, key_other, other_not, update_other, update_own, update_distinct, append_other, append_own, append_distinct, clear_other, clear_distinct}

-- ---- one event

fresh_keeps : (k : Key) (g : ReportingConfig) (e : Entry) → matches k e ≡ true → (fresh k g).key ≡ e.key
fresh_keeps k g e m = sym (key_is k e m)

pub configure_other : (limit : ℕ) (j k : Key) (g : ReportingConfig) (l : List Entry) → (j ≡ k → ⊥) → lookup_l k (configure_l limit j g l) ≡ lookup_l k l
configure_other limit j k g l h = go (ltb (find_l j l) (length l)) (ltb (length l) limit)
  where
    go : (t u : Bool) → lookup_l k (cond t (update_l j (replaced j g) l) (cond u (l ++ (fresh j g ∷ [])) l)) ≡ lookup_l k l
    go true u = update_other j (replaced j g) (fresh_keeps j g) k h l
    go false true = append_other k l (fresh j g) (key_other k (fresh j g) h)
    go false false = refl

pub configure_distinct : (limit : ℕ) (k : Key) (g : ReportingConfig) (l : List Entry) → Distinct l → Distinct (configure_l limit k g l)
configure_distinct limit k g l d = go (ltb (find_l k l) (length l)) refl (ltb (length l) limit)
  where
    go : (t : Bool) → ltb (find_l k l) (length l) ≡ t → (u : Bool) → Distinct (cond t (update_l k (replaced k g) l) (cond u (l ++ (fresh k g ∷ [])) l))
    go true e u = update_distinct k (replaced k g) (fresh_keeps k g) l d
    go false e true = append_distinct l (fresh k g) d (lookup_none k l (ltb-false _ _ e))
    go false e false = d

-- an accepted configuration stands, as not yet reported
pub configure_own : (limit : ℕ) (k : Key) (g : ReportingConfig) (l : List Entry) → accepts_l limit k l ≡ true → lookup_l k (configure_l limit k g l) ≡ Some (fresh k g)
configure_own limit k g l = go (ltb (find_l k l) (length l)) refl (ltb (length l) limit)
  where
    go : (t : Bool) → ltb (find_l k l) (length l) ≡ t → (u : Bool) → (t || u) ≡ true
        → lookup_l k (cond t (update_l k (replaced k g) l) (cond u (l ++ (fresh k g ∷ [])) l)) ≡ Some (fresh k g)
    go true e u a = update_own k (replaced k g) (fresh_keeps k g) l (get_or l (find_l k l) (fresh k g)) (lookup_at k l (fresh k g) (ltb-true _ _ e))
    go false e true a = append_own l (fresh k g) (lookup_none k l (ltb-false _ _ e))
    go false e false a = absurd (false≢true a)

-- a mark of the key's own entry
pub mark_own : (k : Key) (now : ℕ) (v : ℤ) (l : List Entry) (e : Entry) → lookup_l k l ≡ Some e → lookup_l k (mark_l k now v l) ≡ Some (mark_e now v e)
mark_own k now v l e h = update_own k (mark_e now v) (λ e m. refl) l e h

-- What happens to another key leaves the key's entry, also a clear that moves it to another place.
pub after_other : (limit : ℕ) (e : Event) (k : Key) (l : List Entry) → Distinct l → same (key_of e) k ≡ false → lookup_l k (after limit e l) ≡ lookup_l k l
after_other limit (configured j g) k l d m = configure_other limit j k g l (other_not j k m)
after_other limit (cleared j) k l d m = clear_other j k (other_not j k m) l d
after_other limit (asked j now v a) k l d m = refl
after_other limit (marked j now v) k l d m = update_other j (mark_e now v) (λ e h. refl) k (other_not j k m) l

pub after_distinct : (limit : ℕ) (e : Event) (l : List Entry) → Distinct l → Distinct (after limit e l)
after_distinct limit (configured j g) l d = configure_distinct limit j g l d
after_distinct limit (cleared j) l d = clear_distinct j l d
after_distinct limit (asked j now v a) l d = d
after_distinct limit (marked j now v) l d = update_distinct j (mark_e now v) (λ e m. refl) l d

-- ---- events

pub run_distinct : (limit : ℕ) (es : List Event) (l : List Entry) → Distinct l → Distinct (run limit es l)
run_distinct limit [] l d = d
run_distinct limit (e ∷ es) l d = run_distinct limit es (after limit e l) (after_distinct limit e l d)

-- ---- calls

-- a configuration that is refused leaves the table
pub configure_refused : (limit : ℕ) (k : Key) (g : ReportingConfig) (l : List Entry) → accepts_l limit k l ≡ false → configure_l limit k g l ≡ l
configure_refused limit k g l = go (ltb (find_l k l) (length l)) (ltb (length l) limit)
  where
    go : (t u : Bool) → (t || u) ≡ false → cond t (update_l k (replaced k g) l) (cond u (l ++ (fresh k g ∷ [])) l) ≡ l
    go true u a = absurd (false≢true (sym a))
    go false true a = absurd (false≢true (sym a))
    go false false a = refl

configure_is : (limit : ℕ) (k : Key) (g : ReportingConfig) (l : List Entry) → Leads limit (cond (accepts_l limit k l) (configured k g ∷ []) []) l (configure_l limit k g l)
configure_is limit k g l = go (accepts_l limit k l) refl
  where
    go : (b : Bool) → accepts_l limit k l ≡ b → Leads limit (cond b (configured k g ∷ []) []) l (configure_l limit k g l)
    go true e = record { honest = (e, tt); table = refl }
    go false e = record { honest = tt; table = sym (configure_refused limit k g l e) }

by_status : (accepted : Bool) (es : List Event) → cond accepted es [] ≡ if_success (status_w ToSet accepted) es
by_status true es = refl
by_status false es = refl

record_is : (limit : ℕ) (w : Wish) (k : Key) (g : ReportingConfig) (l : List Entry) → Leads limit (if_success (status_w w (accepts_l limit k l)) (events_w w k g)) l (record_w w limit k g l)
record_is limit ToClear k g l = record { honest = (tt, tt); table = refl }
record_is limit ToRefuse k g l = record { honest = tt; table = refl }
record_is limit ToSet k g l = subst (λ (es : List Event). Leads limit es l (configure_l limit k g l)) (by_status (accepts_l limit k l) (configured k g ∷ [])) (configure_is limit k g l)

-- A call is its events: they are honest, and the table after the call is their fold.
pub call_is : CallsAreEvents
call_is limit (config_record k g) l = record_is limit (wish g) k g l
call_is limit (configure k g) l = configure_is limit k g l
call_is limit (clear k) l = record { honest = (tt, tt); table = refl }
call_is limit (ask k now v) l = record { honest = (refl, tt); table = refl }
call_is limit (mark k now v) l = record { honest = (tt, tt); table = refl }
call_is limit (configuration k) l = record { honest = tt; table = refl }
call_is limit len l = record { honest = tt; table = refl }
call_is limit (restore come) l = restore_is limit come l

pub leads_then : (limit : ℕ) (es fs : List Event) (l m n : List Entry) → Leads limit es l m → Leads limit fs m n → Leads limit (es ++ fs) l n
leads_then limit es fs l m n a b =
    record {
      honest = honest_append limit es fs l a.honest (subst (Honest limit fs) (sym a.table) b.honest);
      table = run_append limit es fs l ∙ ap (run limit fs) a.table ∙ b.table;
    }

pub history_is : HistoriesAreEvents
history_is limit [] l = record { honest = tt; table = refl }
history_is limit (c ∷ cs) l = leads_then limit (events limit c l) (history limit cs (call limit c l)) l (call limit c l) (calls limit cs (call limit c l)) (call_is limit c l) (history_is limit cs (call limit c l))

-- ---- keys never stand twice (claims of specs/Claims/Sentences.antt)

pub keys_stay_distinct : KeysStayDistinct
keys_stay_distinct limit c l d = subst Distinct (call_is limit c l).table (run_distinct limit (events limit c l) l d)

pub keys_never_twice : KeysNeverTwice
keys_never_twice limit cs = subst Distinct (history_is limit cs []).table (run_distinct limit (history limit cs []) [] tt)
