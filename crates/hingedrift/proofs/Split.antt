-- Splitting a list in what hd_handle_request left (specs/Claims/Split.antt): two calls over bytes are two calls served. Assumes nothing.
use mathlib.Core.Path.{◌≡◌, refl, sym, ap, ◌∙◌}
use mathlib.Core.Bool.{Bool, true, false, cond}
use mathlib.Core.List.{List}
use Prim.Native.Nat.{ℕ}
use native.Mathlib.Omega.{arith}
use Rattle.types.specs.Number.{AllBytes}
use Rattle.frame.specs.declared.answer.Refusal.TheVariants.{NotAStore, NotATable}
use Rattle.frame.specs.Answer.{Outcome, within, refused}
use Rattle.store.specs.Layout.{is_store}
use Rattle.reporting.specs.declared.entry.Entry.{Entry}
use Rattle.reporting.specs.Table.{capacity, holding}
use Rattle.reporting.specs.Carried.{is_table, table_in, table_bytes}
use Rattle.reporting.proofs.CarriageTable.{table_is, table_back}
use Rattle.reporting.proofs.Kept.{Kept}
use Rattle.server.specs.Serve.{State, state}
use Rattle.server.specs.Lent.{Lent, lent, carried, serve_lent}
use Rattle.server.specs.Claims.History.{Request, requested}
use Rattle.server.specs.Claims.Split.{answer_to, after, NoneRefused}
use Rattle.server.proofs.Histories.{request_holds}
use Rattle.server.proofs.Split.{writes_join, configures_join}
use Rattle.server.proofs.Order.{either_order_served}
use Rattle.hingedrift.specs.Serving.{is_unicast}
use Rattle.hingedrift.specs.Claims.Split.{Calling, served, given, left, Fits, HdWritesJoin, HdConfiguresJoin, HdEitherOrder}
use Rattle.hingedrift.proofs.Leaves.{fits_after}

module _ (cluster : ℕ) (x : Lent) where
  abbrev own : State
  own = state x.store (holding (table_in x.table))

  abbrev answers : Calling → Outcome State
  answers k = answer_to 8 capacity cluster own (served k)

  -- ---- bytes that are a table

  module _ (is : is_table capacity x.table ≡ true) where
    given_is : (k : Calling) → given cluster x k ≡ within (carried x.table) (answers k)
    unfolding serve_lent
    given_is k = rw is

    -- the entries that a call leaves
    abbrev asked : Calling → Request
    asked k = record { store = x.store; cluster = cluster; unicast = is_unicast k.unicast; frame = k.frame; room = k.room }

    abbrev entries : Calling → List Entry
    entries k = requested capacity (asked k) (table_in x.table)

    held : (k : Calling) → (answers k).state ≡ state (answers k).state.store (holding (entries k))
    held k = ap (λ t. state (answers k).state.store t) (request_holds capacity (asked k) (table_in x.table))

    left_is : (k : Calling) → left cluster x k ≡ lent (answers k).state.store (table_bytes capacity (entries k))
    left_is k = ap (λ (o : Outcome Lent). o.state) (given_is k) ∙ ap (carried x.table) (held k)

  -- ---- and bytes that are none

  module _ (is : is_table capacity x.table ≡ false) where
    none_given : (k : Calling) → given cluster x k ≡ refused k.room (cond (is_store 8 x.store) NotATable NotAStore) x
    unfolding serve_lent
    none_given k = rw is

    none_left : (k : Calling) → left cluster x k ≡ x
    none_left k = ap (λ (o : Outcome Lent). o.state) (none_given k)

-- one call, and then another over what it left
module _ (cluster : ℕ) (x : Lent) (is : is_table capacity x.table ≡ true) (a : Calling) (sb : AllBytes x.store) (tb : AllBytes x.table) (fb : AllBytes a.frame) where
  abbrev mid : Lent
  mid = lent (answers cluster x a).state.store (table_bytes capacity (entries cluster x is a))

  kept : Kept capacity (entries cluster x is a)
  kept = fits_after x.store x.table cluster a.unicast a.frame a.room sb tb fb is

  mid_is : is_table capacity mid.table ≡ true
  mid_is = table_is capacity (entries cluster x is a) kept.small kept.clean

  mid_own : own cluster mid ≡ (answers cluster x a).state
  mid_own = ap (λ (l : List Entry). state (answers cluster x a).state.store (holding l)) (table_back capacity (entries cluster x is a) kept.small kept.clean) ∙ sym (held cluster x is a)

  module _ (b : Calling) where
    abbrev twice : State
    twice = after 8 capacity cluster (answers cluster x a).state (served b)

    second_given : given cluster (left cluster x a) b ≡ within (carried mid.table) (answer_to 8 capacity cluster (answers cluster x a).state (served b))
    second_given =
        ap (λ (y : Lent). given cluster y b) (left_is cluster x is a)
        ∙ given_is cluster mid mid_is b
        ∙ ap (λ (y : State). within (carried mid.table) (answer_to 8 capacity cluster y (served b))) mid_own

    -- the table is one again, so that its bytes do not depend on those before
    two_left : left cluster (left cluster x a) b ≡ carried x.table twice
    two_left =
        ap (λ (y : Lent). left cluster y b) (left_is cluster x is a)
        ∙ left_is cluster mid mid_is b
        ∙ sym (ap (carried x.table) (ap (λ (y : State). after 8 capacity cluster y (served b)) (sym mid_own) ∙ held cluster mid mid_is b))

-- ---- the laws

number : {o p : Outcome Lent} → o ≡ p → o.number ≡ p.number
number e = ap (λ (o : Outcome Lent). o.number) e

module _ (cluster : ℕ) (x : Lent) (a b whole : Calling) (sb : AllBytes x.store) (tb : AllBytes x.table) (fb : AllBytes a.frame)
    (law : NoneRefused 8 capacity cluster (own cluster x) (served a) (served b) (served whole)
    → after 8 capacity cluster (after 8 capacity cluster (own cluster x) (served a)) (served b) ≡ after 8 capacity cluster (own cluster x) (served whole))
    (first : Fits (given cluster x a)) (second : Fits (given cluster (left cluster x a) b)) (third : Fits (given cluster x whole)) where
  joins : (t : Bool) → is_table capacity x.table ≡ t → left cluster (left cluster x a) b ≡ left cluster x whole
  joins true is =
      two_left cluster x is a sb tb fb b
      ∙ ap (carried x.table)
      (law (
        λ k. first (number (given_is cluster x is a) ∙ k),
        (λ k. second (number (second_given cluster x is a sb tb fb b) ∙ k), λ k. third (number (given_is cluster x is whole) ∙ k)),
      ))
      ∙ sym (ap (λ (o : Outcome Lent). o.state) (given_is cluster x is whole))
  joins false is = ap (λ (y : Lent). left cluster y b) (none_left cluster x is a) ∙ none_left cluster x is b ∙ sym (none_left cluster x is whole)

pub hd_writes_join : HdWritesJoin
hd_writes_join cluster x a b whole sb tb fb j (calls, readable) n m k =
    joins cluster x a b whole sb tb fb (λ r. writes_join 8 capacity cluster (own cluster x) (served a) (served b) (served whole) (omega arith) j (calls, (readable, r))) n m k (is_table capacity x.table) refl

pub hd_configures_join : HdConfiguresJoin
hd_configures_join cluster x a b whole sb tb fb j (calls, readable) n m k =
    joins cluster x a b whole sb tb fb (λ r. configures_join 8 capacity cluster (own cluster x) (served a) (served b) (served whole) (omega arith) j (calls, (readable, r))) n m k (is_table capacity x.table) refl

pub hd_either_order : HdEitherOrder
hd_either_order cluster x a b sb tb fa fb u v n = go (is_table capacity x.table) refl
  where
    go : (t : Bool) → is_table capacity x.table ≡ t → left cluster (left cluster x a) b ≡ left cluster (left cluster x b) a
    go true is =
        two_left cluster x is a sb tb fa b
        ∙ ap (carried x.table) (either_order_served 8 capacity cluster (own cluster x) (served a) (served b) (omega arith) u v n)
        ∙ sym (two_left cluster x is b sb tb fb a)
    go false is =
        ap (λ (y : Lent). left cluster y b) (none_left cluster x is a)
        ∙ none_left cluster x is b
        ∙ sym (ap (λ (y : Lent). left cluster y a) (none_left cluster x is b) ∙ none_left cluster x is a)
