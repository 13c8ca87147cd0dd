-- Demand 3 from a table just read in (specs/Claims/Demand3.antt): a saved form has distinct keys, configurations that a record sets, and no last reports. Assumes nothing.
use Rattle.std.specs.Prelude.{Some}
use Prim.Native.Nat.{ℕ, ◌≤◌}
use mathlib.Core.Path.{◌≡◌, refl, sym, ap, ◌∙◌}
use mathlib.Core.Bool.{Bool, true, false, cond, ◌&&◌, false≢true}
use Rattle.std.proofs.lemmas.Option.{same_Some, none-some}
use mathlib.Core.List.{List, [], ◌∷◌, map}
use native.Mathlib.Omega.{arith}
use lib.ListN.{length}
use lib.Dec.{leb, eqb}
use borrow.Author.Tests.{le-leb}
use Rattle.reporting.specs.declared.entry.Key.{Key}
use Rattle.reporting.specs.declared.entry.Entry.{Entry}
use Rattle.reporting.specs.declared.entry.Wish.{Wish}
use Rattle.reporting.specs.declared.entry.Wish.TheVariants.{ToClear, ToRefuse, ToSet}
use Rattle.reporting.specs.Entries.{matches, lookup_l, distinct, unreported}
use Rattle.reporting.specs.Wish.{wish}
use Rattle.reporting.specs.Carried.{count_in}
use Rattle.reporting.specs.Claims.Events.{read_in, history}
use Rattle.reporting.proofs.Carriage.{both}
use Rattle.reporting.proofs.Histories.{history_is}
use Rattle.reporting.proofs.Promise.{demand_3_standing}
use Rattle.reporting.proofs.Restored.{distinct_so}
use Rattle.saved.specs.Saved.{marked, saved_size, is_set, all_set, is_savable, entry_from, entries_from, saved_in, is_laid, is_saved, form_in}
use Rattle.saved.specs.Claims.Demand3.{ReadIsCall, Demand3Restored, Demand3OfCallsRestored}
use Rattle.saved.proofs.Forms.{laid_so, saved_count}

-- ---- the entries of a saved form

-- they are not yet reported
entries_fresh : (ks bs : List (List ℕ)) → map unreported (entries_from ks bs) ≡ entries_from ks bs
unfolding entries_from
entries_fresh [] bs = refl
entries_fresh (k ∷ ks) [] = refl
entries_fresh (k ∷ ks) (b ∷ bs) = ap (λ (m : List Entry). entry_from k b ∷ m) (entries_fresh ks bs)

saved_fresh : (bs : List ℕ) → map unreported (saved_in (form_in bs) bs) ≡ saved_in (form_in bs) bs
unfolding saved_in
saved_fresh bs = entries_fresh _ _

module _ (limit : ℕ) (bs : List ℕ) (is : is_saved (form_in bs) limit bs ≡ true) where
  -- distinct keys, and each configuration one that a record sets
  savable : (distinct (saved_in (form_in bs) bs) ≡ true) × (all_set (saved_in (form_in bs) bs) ≡ true)
  unfolding is_saved
  savable = both (distinct (saved_in (form_in bs) bs)) (all_set (saved_in (form_in bs) bs)) (both (is_laid (form_in bs) limit bs) (is_savable (saved_in (form_in bs) bs)) is).1

  -- no more than a table may have
  pub saved_small : length (saved_in (form_in bs) bs) ≤ limit
  unfolding is_saved
  saved_small =
      let m : Bool = eqb (length bs) (saved_size marked (count_in bs)) in
      let laid = (both (is_laid (form_in bs) limit bs) (is_savable (saved_in (form_in bs) bs)) is).0 in
      omega (arith, saved_count m bs, (laid_so m bs limit laid).count)

-- ---- a read is a call

pub read_is_call : ReadIsCall
unfolding distinct
read_is_call limit bs l = go (is_saved (form_in bs) limit bs) refl
  where
    none : (b : Bool) → cond b (map unreported []) [] ≡ []
    none true = refl
    none false = refl

    go : (b : Bool) → is_saved (form_in bs) limit bs ≡ b → read_in limit (cond b (saved_in (form_in bs) bs) []) ≡ cond b (saved_in (form_in bs) bs) []
    go true is =
        let d = (savable limit bs is).0 in
        let s = le-leb (length (saved_in (form_in bs) bs)) limit (saved_small limit bs is) in
        λ i. cond (d i && s i) (saved_fresh bs i) []
    go false is = none (leb 0 limit)

-- ---- demand 3

-- the test by its name
to_set : (w : Wish) → is_set w ≡ true → w ≡ ToSet
to_set ToClear h = absurd (false≢true h)
to_set ToRefuse h = absurd (false≢true h)
to_set ToSet h = refl

-- the configuration that a key has is one that a record sets
set_at : (k : Key) (l : List Entry) (e : Entry) → all_set l ≡ true → lookup_l k l ≡ Some e → wish e.config ≡ ToSet
unfolding all_set
set_at k [] e s h = absurd (none-some e h)
set_at k (x ∷ l) e s h = go (matches k x) h (set_at k l e (both (is_set (wish x.config)) (all_set l) s).1)
  where
    go : (b : Bool) → cond b (Some x) (lookup_l k l) ≡ Some e → (lookup_l k l ≡ Some e → wish e.config ≡ ToSet) → wish e.config ≡ ToSet
    go true h rec = ap (λ (y : Entry). wish y.config) (sym (same_Some x e h)) ∙ to_set (wish x.config) (both (is_set (wish x.config)) (all_set l) s).0
    go false h rec = rec h

pub demand_3_restored : Demand3Restored
demand_3_restored limit form k g G later stands honest s =
    let good = savable limit form stands.saved in
    demand_3_standing limit (saved_in (form_in form) form) k g G later (distinct_so (saved_in (form_in form) form) good.0) stands.entry honest
    (record { rule = set_at k (saved_in (form_in form) form) _ good.1 stands.entry; one = stands.maximum }) s

pub demand_3_of_calls_restored : Demand3OfCallsRestored
demand_3_of_calls_restored limit form k g G after stands s =
    demand_3_restored limit form k g G (history limit after (saved_in (form_in form) form)) stands (history_is limit after (saved_in (form_in form) form)).honest s
