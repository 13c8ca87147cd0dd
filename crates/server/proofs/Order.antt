-- Two lists in either order, of served frames (specs/Claims/Split.antt). Assumes nothing.
use mathlib.Core.Path.{◌≡◌, refl, sym, ap, ◌∙◌, subst}
use mathlib.Core.Logic.{inl, inr}
use mathlib.Core.Bool.{true}
use mathlib.Core.List.{List, [], ◌∷◌}
use Prim.Native.Nat.{ℕ, ◌≤◌}
use Rattle.frame.specs.Answer.{Outcome}
use Rattle.frame.specs.Walk.{All}
use Rattle.store.specs.Contents.{cluster_of}
use Rattle.store.specs.Layout.{is_store}
use Rattle.store.specs.Claims.Stays.{StoreLike}
use Rattle.reporting.specs.declared.entry.Entry.{Entry}
use Rattle.reporting.specs.Table.{holding}
use Rattle.write.specs.Request.{WriteRecord, records}
use Rattle.write.specs.Write.{write_attributes, write_undivided, write_silently}
use Rattle.write.specs.Claims.Last.{naming}
use Rattle.write.proofs.Items.{Whole, records_whole}
use Rattle.write.proofs.Order.{steps, either_order, Deed, silent_deed, write_deed, undivided_deed}
use Rattle.server.specs.Serve.{State, state}
use Rattle.server.specs.Claims.Split.{Call, body_of, after, WritesAny, NoneInCommon, EitherOrder}
use Rattle.server.proofs.Called.{gate, Gate, shut, admits, by_write, by_silent, by_undivided, after_like, after_own, opened, stays_any, two_stay}

all_through : {A : Type 0} {P Q : A → Type 0} → ((x : A) → P x → Q x) → (l : List A) → All P l → All Q l
all_through f [] a = tt
all_through f (x ∷ l) a = (f x a.0, all_through f l a.1)

module _ (form limit cluster : ℕ) (wide : 8 ≤ form) (s : List ℕ) (l : List Entry) (is : is_store form s ≡ true) (own : cluster ≡ cluster_of s) where
  -- what a call does to a store with the contents of s
  pub record Effect (k : Call) : Type 1 where
    pub leaves_of : List ℕ → List ℕ
    pub deed : Deed form k.header s (body_of k) leaves_of
    pub is_answer : (t : List ℕ) → StoreLike form s t → cluster ≡ cluster_of t → after form limit cluster (state t (holding l)) k ≡ state (leaves_of t) (holding l)

  effect : (k : Call) → WritesAny k → Effect k
  effect k (inl c) = record {
    leaves_of = λ t. (write_undivided form t k.header (body_of k) k.room).state;
    deed = undivided_deed form k.header s (body_of k) k.room wide is;
    is_answer = λ t like ours. ap (λ (o : Outcome State). o.state) (by_undivided form limit cluster wide t l like.still ours k c);
  }
  effect k (inr (inl c)) = record {
    leaves_of = λ t. (write_attributes form t k.header (body_of k) k.room).state;
    deed = write_deed form k.header s (body_of k) k.room wide is;
    is_answer = λ t like ours. ap (λ (o : Outcome State). o.state) (by_write form limit cluster wide t l like.still ours k c);
  }
  effect k (inr (inr c)) = record {
    leaves_of = λ t. (write_silently form t k.header (body_of k) k.room).state;
    deed = silent_deed form k.header s (body_of k) k.room wide is;
    is_answer = λ t like ours. ap (λ (o : Outcome State). o.state) (by_silent form limit cluster wide t l like.still ours k c);
  }

  abbrev starts : StoreLike form s s
  starts = record { still = is; same_length = refl; same_contents = refl }

  -- one call and then another
  module _ (a b : Call) (x : Effect a) (y : Effect b) where
    abbrev first_done : List WriteRecord
    first_done = x.deed.doing

    first_whole : All Whole first_done
    first_whole = x.deed.among Whole (records_whole (body_of a) 0)

    abbrev mid : List ℕ
    mid = steps form a.header s first_done

    two_calls : after form limit cluster (after form limit cluster (state s (holding l)) a) b ≡ state (steps form b.header mid y.deed.doing) (holding l)
    two_calls =
        let e : x.leaves_of s ≡ mid = x.deed.is s starts in
        let like : StoreLike form s mid = after_like form limit cluster wide s l is own a.header first_done first_whole in
        ap (λ (z : State). after form limit cluster z b) (x.is_answer s starts own ∙ ap (λ (t : List ℕ). state t (holding l)) e)
        ∙ y.is_answer mid like (after_own form limit cluster wide s l is own a.header first_done first_whole)
        ∙ ap (λ (t : List ℕ). state t (holding l)) (y.deed.is mid like)

  orders : (a b : Call) → WritesAny a → WritesAny b → NoneInCommon a b
      → after form limit cluster (after form limit cluster (state s (holding l)) a) b ≡ after form limit cluster (after form limit cluster (state s (holding l)) b) a
  orders a b u v n =
      let x = effect a u in
      let y = effect b v in
      let apart = x.deed.among (λ r. All (λ q. naming a.header r ≡ naming b.header q → ⊥) y.deed.doing) (all_through (λ r c. y.deed.among (λ q. naming a.header r ≡ naming b.header q → ⊥) c) (records (body_of a)).list n) in
      two_calls a b x y
      ∙ ap (λ (t : List ℕ). state t (holding l))
      (sym (either_order form s wide a.header b.header x.deed.doing y.deed.doing (first_whole a b x y) (first_whole b a y x) apart s starts))
      ∙ sym (two_calls b a y x)

pub either_order_served : EitherOrder
either_order_served form limit cluster x a b wide u v n = go (gate form limit cluster x)
  where
    go : Gate form limit cluster x → after form limit cluster (after form limit cluster x a) b ≡ after form limit cluster (after form limit cluster x b) a
    go (shut f) =
        let p = stays_any form limit cluster x a u f in
        let q = stays_any form limit cluster x b v f in
        two_stay form limit cluster x a b p q ∙ sym (two_stay form limit cluster x b a q p)
    go (admits l e is own) =
        subst (λ (y : State). after form limit cluster (after form limit cluster y a) b ≡ after form limit cluster (after form limit cluster y b) a) (opened x l e)
        (orders form limit cluster wide x.store l is own a b u v n)
