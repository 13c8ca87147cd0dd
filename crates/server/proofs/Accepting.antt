-- A record of a Configure Reporting frame that the reply does not fail is an event of the request. Assumes nothing.
use Rattle.std.specs.Prelude.{Option, Some}
use mathlib.Core.Path.{◌≡◌, refl, sym, ap, ◌∙◌, subst}
use mathlib.Core.Logic.{◌⊎◌, inl, inr}
use mathlib.Core.Bool.{Bool, true, false, cond, ◌&&◌}
use mathlib.Core.List.{List, [], ◌∷◌, ◌++◌}
use Prim.Native.Nat.{ℕ, ◌≤◌}
use native.Mathlib.Omega.{arith}
use lib.ListN.{length, take, drop}
use lib.Dec.{eqb, leb, ltb}
use borrow.Author.Tests.{ne_eqb}
use Rattle.types.specs.Number.{bytes_of}
use Rattle.frame.specs.declared.header.ZclHeader.{ZclHeader}
use Rattle.frame.specs.declared.header.FrameType.{FrameType}
use Rattle.frame.specs.declared.command_identifier.CommandIdentifier.TheVariants.{ConfigureReporting, ConfigureReportingResponse}
use Rattle.frame.specs.declared.status.Status.{Status}
use Rattle.frame.specs.declared.answer.Refusal.TheVariants.{ReplyTooLong, OtherCluster, NotAStore}
use Rattle.frame.specs.Status.{status_code}
use Rattle.frame.specs.Header.{header_of, reply_head, is_global}
use Rattle.frame.specs.CommandIdentifier.{command_code, command_of}
use Rattle.frame.specs.Answer.{Outcome, within, replied, refused}
use Rattle.frame.specs.Walk.{Ending, done, cut, Way, through, broken, stopped, walk, reached, taken}
use Rattle.frame.specs.Encoded.{encode_all, fits}
use Rattle.frame.specs.Failures.{Did, did, Doing, Sofar, sofar, also, done_with, pass_from, pass, encode_failures, answered, concluded, performed, headed}
use Rattle.frame.proofs.Buffer.{take_padded}
use Rattle.frame.proofs.Codes.{code_of}
use Rattle.frame.proofs.Walks.{any, walk_keeps}
use Rattle.store.specs.Contents.{name_of, find_of, cluster_of}
use Rattle.store.specs.Layout.{is_store}
use Rattle.reporting.specs.declared.entry.Key.{Key}
use Rattle.reporting.specs.declared.entry.ReportingConfig.{ReportingConfig}
use Rattle.reporting.specs.declared.entry.Entry.{Entry}
use Rattle.reporting.specs.Entries.{accepts_l}
use Rattle.reporting.specs.Table.{holding}
use Rattle.reporting.specs.declared.entry.Wish.{Wish}
use Rattle.reporting.specs.declared.entry.Wish.TheVariants.{ToClear, ToRefuse, ToSet}
use Rattle.reporting.specs.Wish.{wish, status_w}
use Rattle.reporting.specs.Claims.Events.{Event, configured, events_w, if_success}
use Rattle.configure.specs.Request.{key_for, ConfigureRecord, reported, configures}
use Rattle.configure.specs.Configure.{Failure, failing, encode, setting, tried, configuring, configure_entries, configure_of}
use Rattle.configure.specs.Claims.History.{done_events, record_events, all_events, records_done, configure_events}
use Rattle.configure.proofs.History.{checked_case}
use Rattle.server.specs.Serve.{State, state, tabling, commanded, typed, by_header, tabled, serve}
use Rattle.server.specs.Claims.Asks.{Asks}
use Rattle.server.specs.Claims.History.{Request, headed_events, request_events}
use Rattle.server.specs.Claims.Accepted.{records_of, answer_to, Says, Fails, Among, succeeding, SuccessIsEvents, AcceptedIsConfigured}

-- ---- one of a list

abbrev SomeOf : {A : Type 0} → (A → Type 0) → List A → Type 0
SomeOf P [] = ⊥
SomeOf P (x ∷ xs) = P x ⊎ SomeOf P xs

some_before : {A : Type 0} (P : A → Type 0) (a b : List A) → SomeOf P a → SomeOf P (a ++ b)
some_before {A = A} P [] b x' = elim x' [ ]
some_before P (x ∷ a) b (inl h) = inl h
some_before P (x ∷ a) b (inr h) = inr (some_before P a b h)

some_behind : {A : Type 0} (P : A → Type 0) (a b : List A) → SomeOf P b → SomeOf P (a ++ b)
some_behind P [] b h = h
some_behind P (x ∷ a) b h = inr (some_behind P a b h)

some_among : {A : Type 0} (x : A) (all : List A) → Among x all → SomeOf (λ y. x ≡ y) all
some_among x all m = subst (SomeOf (λ y. x ≡ y)) (sym m.order) (some_behind (λ y. x ≡ y) m.earlier (x ∷ m.rest) (inl refl))

among_some : {A : Type 0} (x : A) (all : List A) → SomeOf (λ y. x ≡ y) all → Among x all
among_some {A = A} x [] x'' = elim x'' [ ]
among_some x (y ∷ all) (inl e) = record { earlier = []; rest = all; order = ap (λ z. z ∷ all) (sym e) }
among_some x (y ∷ all) (inr h) =
    let m = among_some x all h in
    record { earlier = y ∷ m.earlier; rest = m.rest; order = ap (λ zs. y ∷ zs) m.order }

-- ---- what holds of a walk that went through

abbrev OfThrough : {S : Type 0} → (S → Type 0) → Way S → Type 0
OfThrough Q (through x) = Q x
OfThrough Q (broken x) = Unit {0}
OfThrough Q (stopped x y) = Unit {0}

of_reached : {S : Type 0} (Q : S → Type 0) (way : Way S) → Q (reached way) → OfThrough Q way
of_reached Q (through x) h = h
of_reached Q (broken x) h = tt
of_reached Q (stopped x y) h = tt

-- ---- the records of a frame, one after the other

module _ (limit : ℕ) (s : List ℕ) (h : ZclHeader) where
  abbrev doing : Doing (List Entry) ConfigureRecord Failure
  doing = configuring 8 limit s h

  abbrev events_from : List Entry → List ConfigureRecord → List Event
  events_from l rs = all_events 8 limit s h l rs

  -- that a failure of some kind is listed
  module _ (N : Failure → Type 0) where
    abbrev Listed : Sofar (List Entry) Failure → Type 0
    Listed x = SomeOf N x.failures

    -- the failures only grow
    also_grows : (fs : List Failure) (b : Bool) (f : Failure) → SomeOf N fs → SomeOf N (cond b fs (fs ++ (f ∷ [])))
    also_grows fs true f m = m
    also_grows fs false f m = some_before N fs (f ∷ []) m

    turn_grows : (x : Sofar (List Entry) Failure) (r : ConfigureRecord) → Listed x → Listed (done_with doing x r)
    unfolding done_with
    turn_grows x r m =
        let w : Did (List Entry) = tried 8 limit s h x.state r in
        also_grows x.failures (eqb (status_code w.status) 0) (failing w.status r) m

    -- what holds of no record, and with one record more in front, whose failure stays listed, holds of the records and their events
    module _ (P : List ConfigureRecord → List Event → Sofar (List Entry) Failure → Type 0) (none : (y : Sofar (List Entry) Failure) → P [] [] y)
        (one_more : (x : Sofar (List Entry) Failure) (r : ConfigureRecord) (rs : List ConfigureRecord) (es : List Event) (y : Sofar (List Entry) Failure)
        → (Listed (done_with doing x r) → Listed y) → P rs es y → P (r ∷ rs) (record_events 8 limit s h x.state r ++ es) y)
        (fine : Sofar (List Entry) Failure → Bool) where
      walk_tells : (e : Ending) (rs : List ConfigureRecord) (x : Sofar (List Entry) Failure)
          → OfThrough (P rs (events_from x.state (taken (done_with doing) fine x rs))) (walk (done_with doing) fine x e rs)
      unfolding walk taken all_events done_with
      walk_tells done [] x = none x
      walk_tells cut [] x = tt
      walk_tells e (r ∷ rs) x = go (fine (done_with doing x r)) (walk_tells e rs (done_with doing x r))
        where
          next : Sofar (List Entry) Failure
          next = done_with doing x r

          lists : Listed next → OfThrough Listed (walk (done_with doing) fine next e rs)
          lists m =
              of_reached Listed (walk (done_with doing) fine next e rs)
              (walk_keeps (done_with doing) fine Listed (λ z. Unit {0}) (λ y z k u. turn_grows y z k) e rs next m (any rs))

          onward : (es : List Event) (way : Way (Sofar (List Entry) Failure)) → OfThrough (P rs es) way → (Listed next → OfThrough Listed way)
              → OfThrough (P (r ∷ rs) (record_events 8 limit s h x.state r ++ es)) way
          onward es (through y) p k = one_more x r rs es y k p
          onward es (broken y) p k = tt
          onward es (stopped y z) p k = tt

          go : (b : Bool) → OfThrough (P rs (events_from next.state (taken (done_with doing) fine next rs))) (walk (done_with doing) fine next e rs)
              → OfThrough (P (r ∷ rs) (record_events 8 limit s h x.state r ++ events_from next.state (cond b (taken (done_with doing) fine next rs) [])))
              (cond b (walk (done_with doing) fine next e rs) (stopped x next))
          go true w = onward (events_from next.state (taken (done_with doing) fine next rs)) (walk (done_with doing) fine next e rs) w lists
          go false w = tt

  -- ---- one record that the reply does not fail

  module _ (id t : ℕ) (g : ReportingConfig) (low : 1 ≤ g.max_interval) (high : g.max_interval ≤ 65534) where
    abbrev k : Key
    k = key_for s h id

    abbrev Told : Event → Type 0
    Told e = configured k g ≡ e

    abbrev Named : Failure → Type 0
    Named f = (f.direction ≡ 0) × (f.id ≡ id)

    -- the rule does not clear
    not_clears : wish g ≡ ToClear → ⊥
    not_clears e =
        let m : ℕ = g.max_interval in
        let a : eqb m 0xffff ≡ false = ne_eqb m 0xffff (λ q. omega (arith, q)) in
        let b : eqb m 0 ≡ false = ne_eqb m 0 (λ q. omega (arith, q)) in
        go (ltb m g.min_interval) (sym (two a b) ∙ e)
      where
        two : eqb g.max_interval 0xffff ≡ false → eqb g.max_interval 0 ≡ false → wish g ≡ cond (ltb g.max_interval g.min_interval) ToRefuse ToSet
        two a b = rw (a, b)

        Clears : Wish → Type 0
        Clears ToClear = Unit {0}
        Clears ToRefuse = ⊥
        Clears ToSet = ⊥

        go : (c : Bool) → cond c ToRefuse ToSet ≡ ToClear → ⊥
        go true q = subst Clears (sym q) tt
        go false q = subst Clears (sym q) tt

    module _ (fs : List Failure) (es : List Event) (y : Sofar (List Entry) Failure) where
      -- by what was done with it: it is configured, or it is listed and stays so
      abbrev Either : Did (List Entry) → Type 0
      Either w =
          (SomeOf Named (also fs w.status (failing w.status (reported id t g))) → SomeOf Named y.failures)
          → SomeOf Told (if_success w.status (done_events s h (reported id t g)) ++ es) ⊎ SomeOf Named y.failures

      named : (f : Failure) → Named f → SomeOf Named (fs ++ (f ∷ []))
      named f n = some_behind Named fs (f ∷ []) (inl n)

      failed_either : (l : List Entry) (why : Status) → eqb (status_code why) 0 ≡ false → Either (did why l)
      failed_either l why e =
          subst
          (λ (b : Bool). (SomeOf Named (cond b fs (fs ++ (failing why (reported id t g) ∷ []))) → SomeOf Named y.failures)
          → SomeOf Told (cond b (done_events s h (reported id t g)) [] ++ es) ⊎ SomeOf Named y.failures)
          (sym e) (λ stays. inr (stays (named _ (refl, refl))))

      setting_either : (l : List Entry) → Either (setting limit k g l)
      unfolding setting
      setting_either l = go (wish g) not_clears (accepts_l limit k l)
        where
          go : (w : Wish) → (w ≡ ToClear → ⊥) → (a : Bool)
              → (SomeOf Named (also fs (status_w w a) (failing (status_w w a) (reported id t g))) → SomeOf Named y.failures)
              → SomeOf Told (if_success (status_w w a) (events_w w k g) ++ es) ⊎ SomeOf Named y.failures
          go ToClear n a stays = absurd (n refl)
          go ToRefuse n a stays = inr (stays (named _ (refl, refl)))
          go ToSet n true stays = inl (inl refl)
          go ToSet n false stays = inr (stays (named _ (refl, refl)))

      tried_either : (l : List Entry) → Either (tried 8 limit s h l (reported id t g))
      unfolding tried
      tried_either l = checked_case Either (find_of 8 s (name_of h.manufacturer_code.0 id)) t l (setting limit k g l) (failed_either l) (setting_either l)

    -- so among the events of records that contain it is its own, or a failure names it
    abbrev Brings : List ConfigureRecord → List Event → Sofar (List Entry) Failure → Type 0
    Brings rs es y = SomeOf (λ r. reported id t g ≡ r) rs → SomeOf Told es ⊎ SomeOf Named y.failures

    brings_more : (x : Sofar (List Entry) Failure) (r : ConfigureRecord) (rs : List ConfigureRecord) (es : List Event) (y : Sofar (List Entry) Failure)
        → (SomeOf Named (done_with doing x r).failures → SomeOf Named y.failures) → Brings rs es y → Brings (r ∷ rs) (record_events 8 limit s h x.state r ++ es) y
    unfolding done_with record_events
    brings_more x r rs es y stays p (inl q) =
        subst
        (λ (z : ConfigureRecord). (SomeOf Named (done_with doing x z).failures → SomeOf Named y.failures)
        → SomeOf Told (record_events 8 limit s h x.state z ++ es) ⊎ SomeOf Named y.failures)
        q (tried_either x.failures es y x.state) stays
    brings_more x r rs es y stays p (inr m) = go (p m)
      where
        go : SomeOf Told es ⊎ SomeOf Named y.failures → SomeOf Told (record_events 8 limit s h x.state r ++ es) ⊎ SomeOf Named y.failures
        go (inl e) = inl (some_behind Told (record_events 8 limit s h x.state r) es e)
        go (inr f) = inr f

    brings_none : (y : Sofar (List Entry) Failure) → Brings [] [] y
    brings_none y m = absurd m

    -- a failure is listed in the reply
    listed : (fs : List Failure) → SomeOf Named fs → Fails id (encode_all encode fs)
    unfolding encode_all bytes_of
    listed [] x' = elim x' [ ]
    listed (f ∷ fs) (inl n) = inl (n.0, ap (bytes_of 2) n.1)
    listed (f ∷ fs) (inr m) = inr (listed fs m)

    listed_failures : (fs : List Failure) → SomeOf Named fs → Fails id (encode_failures encode fs)
    unfolding encode_failures
    listed_failures [] m = elim m [ ]
    listed_failures (f ∷ fs) m = listed (f ∷ fs) m

  -- ---- a reply of one 00

  abbrev AnyFailure : Failure → Type 0
  AnyFailure f = Unit {0}

  -- without a failure the events are the records'
  abbrev Whole : List ConfigureRecord → List Event → Sofar (List Entry) Failure → Type 0
  Whole rs es y = SomeOf AnyFailure y.failures ⊎ (es ≡ succeeding s h rs)

  whole_more : (x : Sofar (List Entry) Failure) (r : ConfigureRecord) (rs : List ConfigureRecord) (es : List Event) (y : Sofar (List Entry) Failure)
      → (SomeOf AnyFailure (done_with doing x r).failures → SomeOf AnyFailure y.failures) → Whole rs es y → Whole (r ∷ rs) (record_events 8 limit s h x.state r ++ es) y
  unfolding done_with record_events
  whole_more x r rs es y = go (eqb (status_code (tried 8 limit s h x.state r).status) 0) (failing (tried 8 limit s h x.state r).status r)
    where
      go : (b : Bool) (f : Failure) → (SomeOf AnyFailure (cond b x.failures (x.failures ++ (f ∷ []))) → SomeOf AnyFailure y.failures) → Whole rs es y
          → Whole (r ∷ rs) (cond b (done_events s h r) [] ++ es) y
      go true f stays (inl m) = inl m
      go true f stays (inr q) = inr (ap (λ (own : List Event). done_events s h r ++ own) q)
      go false f stays w = inl (stays (some_behind AnyFailure x.failures (f ∷ []) (inl tt)))

-- a reply of one 00 lists no failure
one_lists_none : (fs : List Failure) → SomeOf (λ (f : Failure). Unit {0}) fs → encode_failures encode fs ≡ 0x00 ∷ [] → ⊥
unfolding encode_failures encode_all bytes_of
one_lists_none [] m e = elim m [ ]
one_lists_none (f ∷ fs) m e = let z = ap (λ (x : List ℕ). length x) e in omega (arith, z)

-- ---- what is seen of an answer

same_behind : (a b c : List ℕ) → a ++ b ≡ a ++ c → b ≡ c
same_behind [] b c e = e
same_behind (x ∷ a) b c e = same_behind a b c (ap (λ (l : List ℕ). drop 1 l) e)

module _ (room : ℕ) (head body : List ℕ) (Q : Sofar (List Entry) Failure → Type 0) (P : Type 0)
    (so : (x : Sofar (List Entry) Failure) → Q x → encode_failures encode x.failures ≡ body → P) where
  abbrev Seen : Outcome (List Entry) → Type 0
  Seen o = o.number ≡ 0 → take o.size o.reply ≡ head ++ body → P

  concluded_seen : (way : Way (Sofar (List Entry) Failure)) → OfThrough Q way → Seen (concluded encode room head way)
  unfolding concluded answered
  concluded_seen (through x) q = go (leb (length (head ++ encode_failures encode x.failures)) room)
    where
      go : (b : Bool) → Seen (cond b (replied room (head ++ encode_failures encode x.failures) x.state) (refused room ReplyTooLong x.state))
      go true n e = so x q (same_behind head (encode_failures encode x.failures) body (sym (take_padded room (head ++ encode_failures encode x.failures)) ∙ e))
      go false n e = absurd (omega (arith, n))
  concluded_seen (broken x) q = λ n e. absurd (omega (arith, n))
  concluded_seen (stopped x y) q = λ n e. absurd (omega (arith, n))

-- what the records of a frame and their events have, whatever stops them
abbrev Tells : ℕ → List ℕ → ZclHeader → List Entry → List ℕ → (List Event → Sofar (List Entry) Failure → Type 0) → Type 0
Tells limit s h l frame-body Q =
    (fine : Sofar (List Entry) Failure → Bool)
    → OfThrough (Q (all_events 8 limit s h l (taken (done_with (configuring 8 limit s h)) fine (sofar l []) (configures frame-body).list)))
    (walk (done_with (configuring 8 limit s h)) fine (sofar l []) (configures frame-body).ending (configures frame-body).list)

module _ (limit : ℕ) (s : List ℕ) (l : List Entry) (h : ZclHeader) (frame-body body : List ℕ) (room : ℕ) (Q : List Event → Sofar (List Entry) Failure → Type 0) (P : List Event → Type 0)
    (so : (es : List Event) (x : Sofar (List Entry) Failure) → Q es x → encode_failures encode x.failures ≡ body → P es) (tells : Tells limit s h l frame-body Q) where
  abbrev head : List ℕ
  head = reply_head h ConfigureReportingResponse

  configure_seen : (configure_entries 8 limit s l h frame-body room).number ≡ 0
      → take (configure_entries 8 limit s l h frame-body room).size (configure_entries 8 limit s l h frame-body room).reply ≡ head ++ body
      → P (configure_events 8 limit s l h frame-body room)
  unfolding configure_entries configure_events records_done headed performed pass_from
  configure_seen = go (leb (length head) room)
    where
      es : List Event
      es = all_events 8 limit s h l (records_done 8 limit s h l frame-body room (length head))

      came : Bool → Outcome (List Entry)
      came b = cond b (performed (configuring 8 limit s h) (configures frame-body) l room head) (refused room ReplyTooLong l)

      go : (b : Bool) → (came b).number ≡ 0 → take (came b).size (came b).reply ≡ head ++ body → P (cond b es [])
      go true =
          concluded_seen room head body (Q es) (P es) (so es) (pass (configuring 8 limit s h) (fits encode room (length head)) (configures frame-body) l)
          (tells (λ x. fits encode room (length head) x.failures))
      go false = λ n e. absurd (omega (arith, n))

-- ---- a Configure Reporting frame that is answered with number 0 was configured

module _ (limit : ℕ) (r : Request) (l : List Entry) (h : ZclHeader) (c : Asks ConfigureReporting r.frame h) where
  abbrev came : Outcome (List Entry)
  came = configure_entries 8 limit r.store l h (drop h.body r.frame) r.room

  abbrev events : List Event
  events = configure_events 8 limit r.store l h (drop h.body r.frame) r.room

  record Was (o : Outcome State) (es : List Event) : Type 0 where
    answer : o ≡ tabling r.store (within holding came)
    told : es ≡ events

  abbrev body_served : Option ZclHeader → Outcome State
  body_served x = by_header 8 limit r.store (holding l) r.unicast r.frame r.room x

  by-header : Was (body_served (Some h)) (headed_events limit r l (Some h))
  unfolding by_header typed commanded configure_of command_of
  by-header =
      subst
      (λ (k : FrameType). Was (typed 8 limit r.store (holding l) r.unicast h (drop h.body r.frame) r.room k)
      (cond (is_global k && eqb h.command_identifier.0 (command_code ConfigureReporting)) events []))
      (sym c.global)
      (subst
      (λ (n : ℕ). Was (commanded 8 limit r.store (holding l) r.unicast h (drop h.body r.frame) r.room (command_of n))
      (cond (eqb n (command_code ConfigureReporting)) events []))
      (ap command_code (sym c.command) ∙ code_of h.command_identifier.0) (record { answer = refl; told = refl }))

  was : (answer_to limit r l).number ≡ 0 → Was (answer_to limit r l) (request_events limit r l)
  unfolding serve tabled request_events
  was = go (is_store 8 r.store) (eqb r.cluster (cluster_of r.store))
    where
      go : (a b : Bool)
          → (cond a (cond b (body_served (header_of r.frame)) (refused r.room OtherCluster (state r.store (holding l)))) (refused r.room NotAStore (state r.store (holding l)))).number ≡ 0
          → Was (cond a (cond b (body_served (header_of r.frame)) (refused r.room OtherCluster (state r.store (holding l)))) (refused r.room NotAStore (state r.store (holding l))))
          (cond (a && b) (headed_events limit r l (header_of r.frame)) [])
      go true true n = subst (λ (x : Option ZclHeader). Was (body_served x) (headed_events limit r l x)) (sym c.header) by-header
      go true false n = absurd (omega (arith, n))
      go false b n = absurd (omega (arith, n))

  -- so what follows from the reply of the command follows from that of the request
  module _ (body : List ℕ) (says : Says limit r l h body) (Q : List Event → Sofar (List Entry) Failure → Type 0) (P : List Event → Type 0)
      (so : (es : List Event) (x : Sofar (List Entry) Failure) → Q es x → encode_failures encode x.failures ≡ body → P es)
      (tells : Tells limit r.store h l (drop h.body r.frame) Q) where
    request_seen : P (request_events limit r l)
    request_seen =
        let w = was says.number in
        subst P (sym w.told)
        (configure_seen limit r.store l h (drop h.body r.frame) body r.room Q P so tells
        (sym (ap (λ (o : Outcome State). o.number) w.answer) ∙ says.number)
        (sym (ap (λ (o : Outcome State). take o.size o.reply) w.answer) ∙ says.reply))

-- ---- THE CLAIMS

pub success_is_events : SuccessIsEvents
success_is_events limit r l h c says =
    request_seen limit r l h c (0x00 ∷ []) says (Whole limit r.store h (records_of r.frame h)) (λ es. es ≡ succeeding r.store h (records_of r.frame h)) so
    (λ fine. walk_tells limit r.store h (AnyFailure limit r.store h) (Whole limit r.store h) (λ y. inr refl) (whole_more limit r.store h) fine _ (records_of r.frame h) (sofar l []))
  where
    so : (es : List Event) (x : Sofar (List Entry) Failure) → Whole limit r.store h (records_of r.frame h) es x → encode_failures encode x.failures ≡ 0x00 ∷ []
        → es ≡ succeeding r.store h (records_of r.frame h)
    so es x (inl m) e = absurd (one_lists_none x.failures m e)
    so es x (inr q) e = q

pub accepted_is_configured : AcceptedIsConfigured
accepted_is_configured limit r l h body id t g c says among not low high =
    among_some (configured (key_for r.store h id) g) (request_events limit r l)
    (request_seen limit r l h c body says (Brings limit r.store h id t g low high (records_of r.frame h)) (SomeOf (λ e. configured (key_for r.store h id) g ≡ e)) so
    (λ fine. walk_tells limit r.store h (Named limit r.store h id t g low high) (Brings limit r.store h id t g low high) (brings_none limit r.store h id t g low high)
    (brings_more limit r.store h id t g low high) fine _ (records_of r.frame h) (sofar l [])))
  where
    so : (es : List Event) (x : Sofar (List Entry) Failure) → Brings limit r.store h id t g low high (records_of r.frame h) es x → encode_failures encode x.failures ≡ body
        → SomeOf (λ e. configured (key_for r.store h id) g ≡ e) es
    so es x m e = go (m (some_among (reported id t g) (records_of r.frame h) among))
      where
        go : SomeOf (λ e. configured (key_for r.store h id) g ≡ e) es ⊎ SomeOf (Named limit r.store h id t g low high) x.failures → SomeOf (λ e. configured (key_for r.store h id) g ≡ e) es
        go (inl w) = w
        go (inr f) = absurd (not (subst (Fails id) e (listed_failures limit r.store h id t g low high x.failures f)))
