-- Calls over a store of the cluster and a table, each by its command; or every call is refused and leaves both. Assumes nothing.
use mathlib.Core.Path.{◌≡◌, refl, sym, ap, ◌∙◌, subst}
use mathlib.Core.Logic.{inl, inr}
use mathlib.Core.Bool.{Bool, true, false}
use mathlib.Core.List.{List}
use Prim.Native.Nat.{ℕ, ◌≤◌}
use native.Mathlib.Omega.{arith}
use lib.ListN.{take}
use lib.Seq.{take-take}
use lib.Dec.{eqb}
use borrow.Author.Tests.{eqb-true}
use Rattle.types.specs.Number.{le, unsigned_at}
use Rattle.frame.specs.declared.header.ZclHeader.{ZclHeader}
use Rattle.frame.specs.declared.command_identifier.CommandIdentifier.{CommandIdentifier}
use Rattle.frame.specs.declared.command_identifier.CommandIdentifier.TheVariants.{WriteAttributes, WriteAttributesUndivided, WriteAttributesNoResponse, WriteAttributesResponse, ConfigureReporting}
use Rattle.frame.specs.declared.answer.Refusal.TheVariants.{OtherCluster, NotAStore, NotATable}
use Rattle.frame.specs.Answer.{Outcome, refused}
use Rattle.frame.specs.Walk.{All}
use Rattle.frame.proofs.States.{performed_folded}
use Rattle.store.specs.Contents.{cluster_of}
use Rattle.store.specs.Layout.{bodies_at, is_store}
use Rattle.store.specs.Claims.Stays.{StoreLike}
use Rattle.reporting.specs.declared.entry.Entry.{Entry}
use Rattle.reporting.specs.declared.table.ReportingTable.{ReportingTable}
use Rattle.reporting.specs.Table.{Table, holding, bad}
use Rattle.write.specs.Request.{WriteRecord, records}
use Rattle.write.specs.Write.{writing, write_attributes, write_undivided, write_silently}
use Rattle.write.proofs.Items.{Whole}
use Rattle.write.proofs.Judged.{all_written}
use Rattle.write.proofs.Last.{fronts}
use Rattle.write.proofs.Order.{steps, steps_alike}
use Rattle.configure.specs.Configure.{configure_of}
use Rattle.server.specs.Serve.{State, state, storing, tabling, commanded, tabled, serve}
use Rattle.server.specs.Claims.Split.{Call, body_of, IsCall, Writes, answer_to, after, Fits, WritesAny}
use Rattle.server.proofs.Heard.{reaches}

-- ---- a store of the cluster and a table, or every frame is refused and leaves both

pub data Gate (form limit cluster : ℕ) (x : State) : Type 0 where
  shut : ((c : CommandIdentifier) (k : Call) → IsCall c k → after form limit cluster x k ≡ x) → Gate form limit cluster x
  admits : (l : List Entry) → x.table ≡ holding l → is_store form x.store ≡ true → cluster ≡ cluster_of x.store → Gate form limit cluster x

module _ (form limit cluster : ℕ) (s : List ℕ) where
  no_store : (t : Table) → is_store form s ≡ false → (k : Call) → answer_to form limit cluster (state s t) k ≡ refused k.room NotAStore (state s t)
  unfolding serve
  no_store t e k = rw e

  no_table : (u : ReportingTable) → is_store form s ≡ true → (k : Call) → answer_to form limit cluster (state s (bad u)) k ≡ refused k.room NotATable (state s (bad u))
  unfolding serve tabled
  no_table u e k = rw e

  other : (l : List Entry) → is_store form s ≡ true → eqb cluster (cluster_of s) ≡ false → (k : Call) → answer_to form limit cluster (state s (holding l)) k ≡ refused k.room OtherCluster (state s (holding l))
  unfolding serve tabled
  other l e f k = rw (e, f)

  gate_of : (t : Table) → is_store form s ≡ true → (b : Bool) → eqb cluster (cluster_of s) ≡ b → Gate form limit cluster (state s t)
  gate_of (bad u) e b f = shut (λ c k a. ap (λ (o : Outcome State). o.state) (no_table u e k))
  gate_of (holding l) e false f = shut (λ c k a. ap (λ (o : Outcome State). o.state) (other l e f k))
  gate_of (holding l) e true f = admits l refl e (eqb-true cluster (cluster_of s) f)

  gate_by : (t : Table) (b : Bool) → is_store form s ≡ b → Gate form limit cluster (state s t)
  gate_by t true e = gate_of t e (eqb cluster (cluster_of s)) refl
  gate_by t false e = shut (λ c k a. ap (λ (o : Outcome State). o.state) (no_store t e k))

pub gate : (form limit cluster : ℕ) (x : State) → Gate form limit cluster x
gate form limit cluster x = gate_by form limit cluster x.store x.table (is_store form x.store) refl

-- of bytes that begin alike the cluster is the same
cluster_front : (n : ℕ) (s t : List ℕ) → 2 ≤ n → take n t ≡ take n s → cluster_of t ≡ cluster_of s
unfolding unsigned_at
cluster_front n s t h e = ap le (sym (take-take 2 n t h) ∙ ap (take 2) e ∙ take-take 2 n s h)

-- ---- what each command leaves there

module _ (form limit cluster : ℕ) (wide : 8 ≤ form) (s : List ℕ) (l : List Entry) (is : is_store form s ≡ true) (own : cluster ≡ cluster_of s) where
  abbrev here : State
  here = state s (holding l)

  abbrev answers : Call → Outcome State
  answers k = answer_to form limit cluster here k

  pub by_write : (k : Call) → IsCall WriteAttributes k → answers k ≡ storing (holding l) (write_attributes form s k.header (body_of k) k.room)
  unfolding commanded
  by_write k a = reaches form limit s cluster k.unicast k.header WriteAttributes l is own k.frame k.room a

  pub by_silent : (k : Call) → IsCall WriteAttributesNoResponse k → answers k ≡ storing (holding l) (write_silently form s k.header (body_of k) k.room)
  unfolding commanded
  by_silent k a = reaches form limit s cluster k.unicast k.header WriteAttributesNoResponse l is own k.frame k.room a

  pub by_undivided : (k : Call) → IsCall WriteAttributesUndivided k → answers k ≡ storing (holding l) (write_undivided form s k.header (body_of k) k.room)
  unfolding commanded
  by_undivided k a = reaches form limit s cluster k.unicast k.header WriteAttributesUndivided l is own k.frame k.room a

  pub by_configure : (k : Call) → IsCall ConfigureReporting k → answers k ≡ tabling s (configure_of form limit s (holding l) k.header (body_of k) k.room)
  unfolding commanded
  by_configure k a = reaches form limit s cluster k.unicast k.header ConfigureReporting l is own k.frame k.room a

  -- ---- 02 and 05

  abbrev pub leaves : Call → State
  leaves k = state (steps form k.header s (records (body_of k)).list) (holding l)

  pub silent_leaves : (k : Call) → IsCall WriteAttributesNoResponse k → (answers k).state ≡ leaves k
  unfolding write_silently
  silent_leaves k a =
      ap (λ (o : Outcome State). o.state) (by_silent k a) ∙ ap (λ (t : List ℕ). state t (holding l)) (all_written form k.header s wide is (body_of k))

  pub write_leaves : (k : Call) → Writes k → Fits (answers k) → (answers k).state ≡ leaves k
  unfolding write_attributes
  write_leaves k (inl a) n =
      ap (λ (o : Outcome State). o.state) (by_write k a)
      ∙ ap (λ (t : List ℕ). state t (holding l))
      (performed_folded (writing form k.header) (records (body_of k)) k.header WriteAttributesResponse s k.room (λ f. n (ap (λ (o : Outcome State). o.number) (by_write k a) ∙ f)))
  write_leaves k (inr a) n = silent_leaves k a

  -- it is still a store of the cluster
  itself : StoreLike form s s
  itself = record { still = is; same_length = refl; same_contents = refl }

  module _ (h : ZclHeader) (rs : List WriteRecord) (all : All Whole rs) where
    pub after_like : StoreLike form s (steps form h s rs)
    after_like = steps_alike form s wide h rs all s itself

    pub after_own : cluster ≡ cluster_of (steps form h s rs)
    after_own = own ∙ sym (cluster_front (bodies_at form s) s (steps form h s rs) (omega arith) (fronts form h s wide is rs all s itself))

-- ---- whatever store and table are

-- x is what it holds
pub opened : (x : State) (l : List Entry) → x.table ≡ holding l → state x.store (holding l) ≡ x
opened x l e = λ i. state x.store (sym e i)

-- what holds of a store of the cluster and a table, supposing so much of the three calls, holds whatever they are: elsewhere every call leaves all
module _ (form limit cluster : ℕ) (x : State) where
  abbrev goes : State → Call → State
  goes y k = after form limit cluster y k

  abbrev Stays : Call → Type 0
  Stays k = ((c : CommandIdentifier) (k : Call) → IsCall c k → goes x k ≡ x) → goes x k ≡ x

  pub stays_called : {c : CommandIdentifier} (k : Call) → IsCall c k → Stays k
  stays_called {c} k a f = f c k a

  pub stays_write : (k : Call) → Writes k → Stays k
  stays_write k (inl a) f = f WriteAttributes k a
  stays_write k (inr a) f = f WriteAttributesNoResponse k a

  pub stays_any : (k : Call) → WritesAny k → Stays k
  stays_any k (inl a) f = f WriteAttributesUndivided k a
  stays_any k (inr a) f = stays_write k a f

  pub two_stay : (a b : Call) → goes x a ≡ x → goes x b ≡ x → goes (goes x a) b ≡ x
  two_stay a b e f = ap (λ (y : State). goes y b) e ∙ f

  pub joins_by : (a b whole : Call) → Stays a → Stays b → Stays whole → (Supposed : State → Type 0)
      → ((l : List Entry) → is_store form x.store ≡ true → cluster ≡ cluster_of x.store → Supposed (state x.store (holding l))
      → goes (goes (state x.store (holding l)) a) b ≡ goes (state x.store (holding l)) whole)
      → Supposed x → goes (goes x a) b ≡ goes x whole
  joins_by a b whole u v w Supposed law n = go (gate form limit cluster x)
    where
      go : Gate form limit cluster x → goes (goes x a) b ≡ goes x whole
      go (shut f) = two_stay a b (u f) (v f) ∙ sym (w f)
      go (admits l e is own) = subst (λ (y : State). Supposed y → goes (goes y a) b ≡ goes y whole) (opened x l e) (law l is own) n
