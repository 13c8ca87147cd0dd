-- What a request made of bytes configures, and what a turn over bytes marks, is within the widths of a table's bytes. Assumes nothing.
use Rattle.std.specs.Prelude.{None, Option, Some}
use mathlib.Core.Path.{◌≡◌, refl, subst}
use mathlib.Core.Bool.{Bool, true, false, cond, ◌&&◌}
use mathlib.Core.List.{List, [], ◌∷◌, ◌++◌}
use Prim.Native.Nat.{ℕ, min, ◌+◌, ◌-◌, ◌*◌, ◌^◌, ◌≤◌, ◌<◌}
use native.Mathlib.Omega.{arith}
use lib.ListN.{length, get_or, drop}
use lib.Dec.{leb, eqb}
use lib.Pow.{pow_mono}
use lib.IntN.{pos}
use lib.Signed.{mag}
use borrow.Author.Tests.{leb-true}
use Rattle.types.specs.Number.{AllBytes, unsigned_at, signed_at}
use Rattle.types.specs.Ids.{size_of, is_analog, is_signed, is_float}
use Rattle.types.specs.Value.{plain_at, number_by, number_at, change_by, change_at}
use Rattle.types.proofs.Numbers.{bytes_drop, unsigned_below}
use Rattle.types.proofs.Readings.{signed_in, magnitude_within}
use Rattle.frame.specs.declared.header.ZclHeader.{ZclHeader}
use Rattle.frame.specs.declared.command_identifier.CommandIdentifier.TheVariants.{ConfigureReporting}
use Rattle.frame.specs.Header.{frame_type_of, header_of, is_global}
use Rattle.frame.specs.CommandIdentifier.{command_code}
use Rattle.frame.specs.Walk.{Item, item, unread, records_from, All}
use Rattle.frame.proofs.Walks.{records_all}
use Rattle.store.specs.declared.lookup.Attribute.{Attribute}
use Rattle.store.specs.Contents.{cluster_of}
use Rattle.store.specs.Layout.{is_store}
use Rattle.store.specs.Value.{numbered_by}
use Rattle.reporting.specs.declared.entry.Key.{Key}
use Rattle.reporting.specs.declared.entry.ReportingConfig.{ReportingConfig}
use Rattle.reporting.specs.declared.entry.Entry.{Entry}
use Rattle.reporting.specs.Entries.{fresh}
use Rattle.reporting.specs.Claims.RoundTrip.{Clean}
use Rattle.reporting.specs.declared.entry.Wish.{Wish}
use Rattle.reporting.specs.declared.entry.Wish.TheVariants.{ToClear, ToRefuse, ToSet}
use Rattle.reporting.specs.Wish.{wish}
use Rattle.reporting.specs.Claims.Events.{Event, configured, cleared, asked, marked, events_w}
use Rattle.report.specs.Turn.{or_zero, value_in}
use Rattle.report.specs.Claims.History.{marking}
use Rattle.configure.specs.Request.{key_for, ConfigureRecord, received, reported, config_at, configure_at, configures, change_width}
use Rattle.configure.specs.Claims.History.{done_events, configure_events}
use Rattle.configure.proofs.History.{configure_keeps}
use Rattle.server.specs.Claims.History.{Request, headed_events, request_events}

-- ---- what an event puts into a table is within its width

abbrev pub Fits : Event → Type 0
Fits (configured k g) = Clean (fresh k g)
Fits (cleared k) = Unit {0}
Fits (asked k now v a) = Unit {0}
Fits (marked k now v) = (now < 2 ^ 32) × (mag v < 2 ^ 63)

abbrev pub AllFit : List Event → Type 0
AllFit [] = Unit {0}
AllFit (e ∷ es) = Fits e × AllFit es

pub fit_append : (es fs : List Event) → AllFit es → AllFit fs → AllFit (es ++ fs)
fit_append [] fs h k = k
fit_append (e ∷ es) fs h k = (h.0, fit_append es fs h.1 k)

pub fit_either : (b : Bool) (es : List Event) → AllFit es → AllFit (cond b es [])
fit_either true es h = h
fit_either false es h = tt

-- ---- a record's numbers

change-by : (x : Option ℕ) (signed float : Bool) (s : List ℕ) (p : ℕ) → AllBytes s → change_by x signed float s p < 2 ^ 64
change-by (Some w) true float s p h =
    let m = magnitude_within s p (min w 8) h in
    let q : 2 ^ (8 * min w 8 - 1) ≤ 2 ^ 63 = pow_mono {i = 8 * min w 8 - 1} {j = 63} (omega arith) in
    omega arith
change-by (Some w) false true s p h = omega arith
change-by (Some w) false false s p h =
    let m = unsigned_below s p (min w 8) h in
    let q : 2 ^ (8 * min w 8) ≤ 2 ^ 64 = pow_mono {i = 8 * min w 8} {j = 64} (omega arith) in
    omega arith
change-by None signed float s p h = omega arith

change_below : (s : List ℕ) (p t : ℕ) → AllBytes s → cond (is_analog t) (change_at s p t) 0 < 2 ^ 64
unfolding change_at
change_below s p t h = go (is_analog t)
  where
    go : (b : Bool) → cond b (change_by (size_of t) (is_signed t) (is_float t) s p) 0 < 2 ^ 64
    go true = change-by (size_of t) (is_signed t) (is_float t) s p h
    go false = omega arith

-- ---- of a record, a frame and a request

module _ (s : List ℕ) (store : AllBytes s) (h : ZclHeader) where
  abbrev Fitting : ConfigureRecord → Type 0
  Fitting (received direction id) = Unit {0}
  Fitting (reported id t g) = Clean (fresh (key_for s h id) g)

  abbrev FittingItem : Item ConfigureRecord → Type 0
  FittingItem (item r q) = Fitting r
  FittingItem unread = Unit {0}

  reported_fits : (body : List ℕ) (p id-at t : ℕ) → AllBytes body → Fitting (reported (unsigned_at body id-at 2) t (config_at body p t))
  reported_fits body p id-at t b = record {
    cluster = unsigned_below s 0 2 store;
    attribute = unsigned_below body id-at 2 b;
    minimum = unsigned_below body p 2 b;
    maximum = unsigned_below body (p + 2) 2 b;
    change = change_below body (p + 4) t b;
    time = omega arith;
    value = omega arith;
    quiet = λ e. (refl, refl);
  }

  item_fits : (body : List ℕ) (p : ℕ) → AllBytes body → FittingItem (configure_at body p)
  unfolding configure_at
  item_fits body p b =
      let t : ℕ = get_or body (p + 3) 0 in
      go (eqb (get_or body p 0) 0) (leb (p + (8 + change_width t)) (length body)) (leb (p + 5) (length body))
    where
      go : (a c d : Bool)
          → FittingItem
          (cond a
          (cond c (item (reported (unsigned_at body (p + 1) 2) (get_or body (p + 3) 0) (config_at body (p + 4) (get_or body (p + 3) 0))) (p + (8 + change_width (get_or body (p + 3) 0)))) unread)
          (cond d (item (received (get_or body p 0) (unsigned_at body (p + 1) 2)) (p + 5)) unread))
      go true true d = reported_fits body (p + 4) (p + 1) (get_or body (p + 3) 0) b
      go true false d = tt
      go false c true = tt
      go false c false = tt

  records_fit : (body : List ℕ) → AllBytes body → All Fitting (configures body).list
  unfolding records_from
  records_fit body b = records_all (configure_at body) (length body) Fitting (λ p r q e. subst FittingItem e (item_fits body p b)) _ 0

  wish_fits : (k : Key) (g : ReportingConfig) (w : Wish) → Clean (fresh k g) → AllFit (events_w w k g)
  wish_fits k g ToClear c = (tt, tt)
  wish_fits k g ToRefuse c = tt
  wish_fits k g ToSet c = (c, tt)

  record_fits : (r : ConfigureRecord) → Fitting r → AllFit (done_events s h r)
  record_fits (received direction id) c = tt
  record_fits (reported id t g) c = wish_fits (key_for s h id) g (wish g) c

  configure_fits : (limit : ℕ) (l : List Entry) (body : List ℕ) (room : ℕ) → AllBytes body → AllFit (configure_events 8 limit s l h body room)
  configure_fits limit l body room b = configure_keeps 8 limit s h AllFit Fitting tt fit_append record_fits l body room (records_fit body b)

module _ (limit : ℕ) (r : Request) (l : List Entry) (store : AllBytes r.store) (frame : AllBytes r.frame) where
  headed_fits : (x : Option ZclHeader) → AllFit (headed_events limit r l x)
  headed_fits None = tt
  headed_fits (Some h) =
      fit_either (is_global (frame_type_of h.frame_control.0) && eqb h.command_identifier.0 (command_code ConfigureReporting)) _
      (configure_fits r.store store h limit l (drop h.body r.frame) r.room (bytes_drop r.frame h.body frame))

  pub request_fits : AllFit (request_events limit r l)
  unfolding request_events
  request_fits = fit_either (is_store 8 r.store && eqb r.cluster (cluster_of r.store)) _ (headed_fits (header_of r.frame))

-- ---- of a turn

signed_fits : (s : List ℕ) (p w : ℕ) → AllBytes s → w ≤ 8 → mag (signed_at s p w) < 2 ^ 63
unfolding signed_at
signed_fits s p w h k =
    let m = signed_in w (unsigned_at s p w) (unsigned_below s p w h) in
    let q : 2 ^ (8 * w - 1) ≤ 2 ^ 63 = pow_mono {i = 8 * w - 1} {j = 63} (omega arith) in
    omega arith

plain_fits : (s : List ℕ) (p w : ℕ) → AllBytes s → w ≤ 8 → mag (plain_at s p w) < 2 ^ 63
plain_fits s p w h k = go (leb w 7) refl
  where
    go : (b : Bool) → leb w 7 ≡ b → mag (cond b (pos (unsigned_at s p w)) (signed_at s p 8)) < 2 ^ 63
    go true e =
        let m = unsigned_below s p w h in
        let n = leb-true w 7 e in
        let q : 2 ^ (8 * w) ≤ 2 ^ 56 = pow_mono {i = 8 * w} {j = 56} (omega arith) in
        omega arith
    go false e = signed_fits s p 8 h (omega arith)

number_fits : (x : Option ℕ) (signed : Bool) (s : List ℕ) (p : ℕ) → AllBytes s → mag (or_zero (numbered_by (number_by x signed s p))) < 2 ^ 63
number_fits None signed s p h = omega arith
number_fits (Some w) signed s p h = go (leb w 8) refl signed
  where
    go : (b : Bool) → leb w 8 ≡ b → (signed : Bool) → mag (or_zero (numbered_by (cond b (Some (cond signed (signed_at s p w) (plain_at s p w))) None))) < 2 ^ 63
    go true e true = signed_fits s p w h (leb-true w 8 e)
    go true e false = plain_fits s p w h (leb-true w 8 e)
    go false e signed = omega arith

value_fits : (s : List ℕ) (a : Attribute) → AllBytes s → mag (value_in s a) < 2 ^ 63
unfolding number_at
value_fits s a h = number_fits (size_of a.type_id.0) (is_signed a.type_id.0) s a.offset h

pub marking_fits : (s : List ℕ) (now : ℕ) (w : List Attribute) → AllBytes s → now < 2 ^ 32 → AllFit (marking s now w)
marking_fits s now [] h n = tt
marking_fits s now (a ∷ w) h n = ((n, value_fits s a h), marking_fits s now w h n)
