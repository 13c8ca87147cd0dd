-- Demand 3 with frames: what a request configures, the record's rule accepts. Assumes nothing.
use Rattle.std.specs.Prelude.{None, Option, Some}
use mathlib.Core.Path.{◌≡◌, refl, sym, ap, ◌∙◌, subst}
use mathlib.Core.Bool.{Bool, true, false, cond, ◌&&◌}
use mathlib.Core.List.{List, [], ◌∷◌, ◌++◌, append_assoc}
use Prim.Native.Nat.{ℕ}
use lib.ListN.{drop}
use lib.Dec.{eqb}
use Rattle.frame.specs.declared.header.ZclHeader.{ZclHeader}
use Rattle.frame.specs.declared.command_identifier.CommandIdentifier.TheVariants.{ConfigureReporting}
use Rattle.frame.specs.Header.{frame_type_of, header_of, is_global}
use Rattle.frame.specs.CommandIdentifier.{command_code}
use Rattle.frame.proofs.Walks.{any}
use Rattle.store.specs.Contents.{cluster_of}
use Rattle.store.specs.Layout.{is_store}
use Rattle.reporting.specs.declared.entry.Key.{Key}
use Rattle.reporting.specs.declared.entry.ReportingConfig.{ReportingConfig}
use Rattle.reporting.specs.declared.entry.Entry.{Entry}
use Rattle.reporting.specs.declared.entry.Wish.{Wish}
use Rattle.reporting.specs.declared.entry.Wish.TheVariants.{ToClear, ToRefuse, ToSet}
use Rattle.reporting.specs.Wish.{wish}
use Rattle.reporting.specs.Claims.Events.{Event, configured, cleared, asked, marked, Honest, events_w}
use Rattle.reporting.proofs.Histories.{leads_then}
use Rattle.reporting.proofs.Promise.{demand_3}
use Rattle.saved.specs.Saved.{saved_in, form_in}
use Rattle.saved.proofs.Demand3.{demand_3_restored}
use Rattle.configure.specs.Request.{key_for, ConfigureRecord, received, reported, configures}
use Rattle.configure.specs.Claims.History.{done_events}
use Rattle.configure.proofs.History.{configure_keeps}
use Rattle.server.specs.Claims.History.{Request, requested, headed_events, request_events, uses, uses_events}
use Rattle.server.specs.Claims.Demand3.{later_of, Demand3OfFrames, Demand3OfFramesRestored}
use Rattle.server.proofs.Histories.{request_is, uses_are_events}

-- ---- every configuration among the events is one that the record's rule accepts

abbrev pub Ruled : List Event → Type 0
Ruled [] = Unit {0}
Ruled (configured k g ∷ es) = (wish g ≡ ToSet) × Ruled es
Ruled (cleared k ∷ es) = Ruled es
Ruled (asked k now v a ∷ es) = Ruled es
Ruled (marked k now v ∷ es) = Ruled es

ruled_append : (es fs : List Event) → Ruled es → Ruled fs → Ruled (es ++ fs)
ruled_append [] fs h k = k
ruled_append (configured j g ∷ es) fs h k = (h.0, ruled_append es fs h.1 k)
ruled_append (cleared j ∷ es) fs h k = ruled_append es fs h k
ruled_append (asked j now v a ∷ es) fs h k = ruled_append es fs h k
ruled_append (marked j now v ∷ es) fs h k = ruled_append es fs h k

pub ruled_at : (es : List Event) (k : Key) (g : ReportingConfig) (fs : List Event) → Ruled (es ++ (configured k g ∷ fs)) → wish g ≡ ToSet
ruled_at [] k g fs h = h.0
ruled_at (configured j f ∷ es) k g fs h = ruled_at es k g fs h.1
ruled_at (cleared j ∷ es) k g fs h = ruled_at es k g fs h
ruled_at (asked j now v a ∷ es) k g fs h = ruled_at es k g fs h
ruled_at (marked j now v ∷ es) k g fs h = ruled_at es k g fs h

-- ---- of a record, a frame and a request

wish_ruled : (k : Key) (g : ReportingConfig) (w : Wish) → wish g ≡ w → Ruled (events_w w k g)
wish_ruled k g ToClear e = tt
wish_ruled k g ToRefuse e = tt
wish_ruled k g ToSet e = (e, tt)

record_ruled : (s : List ℕ) (h : ZclHeader) (r : ConfigureRecord) → Ruled (done_events s h r)
record_ruled s h (received direction id) = tt
record_ruled s h (reported id t g) = wish_ruled (key_for s h id) g (wish g) refl

-- what holds of events, and of none, holds of either
ruled_either : (b : Bool) (es : List Event) → Ruled es → Ruled (cond b es [])
ruled_either true es d = d
ruled_either false es d = tt

module _ (limit : ℕ) (r : Request) (l : List Entry) where
  headed_ruled : (x : Option ZclHeader) → Ruled (headed_events limit r l x)
  headed_ruled None = tt
  headed_ruled (Some h) =
      ruled_either (is_global (frame_type_of h.frame_control.0) && eqb h.command_identifier.0 (command_code ConfigureReporting)) _
      (configure_keeps 8 limit r.store h Ruled (λ x. Unit {0}) tt ruled_append (λ x u. record_ruled r.store h x) l (drop h.body r.frame) r.room
      (any (configures (drop h.body r.frame)).list))

  -- WHAT A REQUEST CONFIGURES, THE RULE ACCEPTS
  pub request_ruled : Ruled (request_events limit r l)
  unfolding request_events
  request_ruled = ruled_either (is_store 8 r.store && eqb r.cluster (cluster_of r.store)) _ (headed_ruled (header_of r.frame))

-- ---- demand 3

-- events cut open inside a part of them
cut_open : (A B C earlier : List Event) (e : Event) (rest : List Event) → B ≡ earlier ++ (e ∷ rest)
    → A ++ (B ++ C) ≡ (A ++ earlier) ++ (e ∷ (rest ++ C))
cut_open A B C earlier e rest p =
    ap (λ (x : List Event). A ++ (x ++ C)) p
    ∙ ap (λ (x : List Event). A ++ x) (append_assoc earlier (e ∷ rest) C)
    ∙ sym (append_assoc A earlier (e ∷ (rest ++ C)))

pub demand_3_of_frames : Demand3OfFrames
demand_3_of_frames limit before r k g earlier rest G after p low high s =
    let l : List Entry = uses limit before [] in
    let m : List Entry = requested limit r l in
    let A : List Event = uses_events limit before [] in
    let B : List Event = request_events limit r l in
    let C : List Event = uses_events limit after m in
    let behind = leads_then limit B C l m (uses limit after m) (request_is limit r l) (uses_are_events limit after m) in
    let whole = leads_then limit A (B ++ C) [] l (uses limit after m) (uses_are_events limit before []) behind in
    demand_3 limit (A ++ earlier) k g G (later_of limit rest after m)
    (subst (λ (es : List Event). Honest limit es []) (cut_open A B C earlier (configured k g) rest p) whole.honest)
    (record { rule = ruled_at earlier k g rest (subst Ruled p (request_ruled limit r l)); one = low }) s

-- from a table just read in
pub demand_3_of_frames_restored : Demand3OfFramesRestored
demand_3_of_frames_restored limit form k g G after stands s =
    demand_3_restored limit form k g G (uses_events limit after (saved_in (form_in form) form)) stands (uses_are_events limit after (saved_in (form_in form) form)).honest s
