-- What records of which none fails leave in a store (specs/Claims/Last.antt). Assumes nothing.
use Rattle.std.specs.Prelude.{Some}
use mathlib.Core.Path.{◌≡◌, refl, sym, ap, ◌∙◌, subst}
use mathlib.Core.Bool.{Bool, true, false, cond}
use mathlib.Core.List.{List, [], ◌∷◌}
use Prim.Native.Nat.{ℕ, ◌+◌, ◌*◌, ◌≤◌}
use native.Mathlib.Omega.{arith}
use lib.ListN.{length, take}
use lib.Dec.{eqb}
use borrow.Author.Tests.{eqb-true, eqb-false}
use Rattle.frame.specs.declared.header.ZclHeader.{ZclHeader}
use Rattle.frame.specs.declared.status.Status.{Status}
use Rattle.frame.specs.declared.status.Status.TheVariants.{Success}
use Rattle.frame.specs.Status.{status_code}
use Rattle.frame.specs.Walk.{All}
use Rattle.frame.specs.Claims.Failing.{failing_by}
use Rattle.frame.proofs.Codes.{status_zero}
use Rattle.frame.proofs.States.{folded}
use Rattle.store.specs.declared.lookup.Attribute.{Attribute}
use Rattle.store.specs.Contents.{find_in, find_of}
use Rattle.store.specs.Layout.{bodies_at, is_store}
use Rattle.store.specs.Value.{value_of}
use Rattle.store.specs.Claims.Stays.{StoreLike}
use Rattle.store.proofs.Contents.{length_attributes, found_in, found_name}
use Rattle.store.proofs.Writes.{write_front, write_back, write_others}
use Rattle.write.specs.Request.{WriteRecord, records}
use Rattle.write.specs.Reply.{Failure, failure}
use Rattle.write.specs.Write.{written, writing}
use Rattle.write.specs.Claims.Undivided.{status_over, failing}
use Rattle.write.specs.Claims.Last.{naming, last_value, Left, RecordsLeave}
use Rattle.write.proofs.Items.{Whole, records_whole}
use Rattle.write.proofs.Kept.{record_alike}
use Rattle.write.proofs.Judged.{status_alike, itself, all_written}

-- a list without failures starts with a record that does not fail
none_first : (status : WriteRecord → Status) (r : WriteRecord) (rs : List WriteRecord) → failing_by status (λ why r. failure (status_code why) r.id) (r ∷ rs) ≡ []
    → (status r ≡ Success) × (failing_by status (λ why r. failure (status_code why) r.id) rs ≡ [])
unfolding failing_by
none_first status r rs none = go (eqb (status_code (status r)) 0) refl none
  where
    rest : List Failure
    rest = failing_by status (λ why r. failure (status_code why) r.id) rs

    go : (b : Bool) → eqb (status_code (status r)) 0 ≡ b → cond b rest (failure (status_code (status r)) r.id ∷ rest) ≡ [] → (status r ≡ Success) × (rest ≡ [])
    go true e n = (status_zero (status r) (eqb-true _ _ e), n)
    go false e n = let z : ◌≡◌ {A = ℕ} 0 1 = cc in absurd (omega arith)

module _ (form : ℕ) (request : ZclHeader) (s : List ℕ) (wide : 8 ≤ form) (is : is_store form s ≡ true) where
  abbrev after : List ℕ → WriteRecord → List ℕ
  after t r = (written form request t r).store

  abbrev leaves : List ℕ → List WriteRecord → List ℕ
  leaves t rs = folded (writing form request) t rs

  -- ---- one record

  module _ (t : List ℕ) (like : StoreLike form s t) (r : WriteRecord) (whole : Whole r) where
    like_after : StoreLike form s (after t r)
    like_after = record_alike form s request wide t r like whole

    same_bodies : bodies_at form t ≡ bodies_at form s
    same_bodies = ap (λ (n : ℕ). 4 + n * form) (sym (length_attributes form t) ∙ ap length like.same_contents ∙ length_attributes form s)

    front : take (bodies_at form s) (after t r) ≡ take (bodies_at form s) t
    unfolding written
    front = subst (λ (n : ℕ). take n (after t r) ≡ take n t) same_bodies (write_front form t (naming request r) r.type r.value like.still whole)

    module _ (fine : status_over form request s r ≡ Success) (name : ℕ) (a : Attribute) (found : find_of form s name ≡ Some a) where
      found_there : find_of form t name ≡ Some a
      unfolding find_of
      found_there = ap (λ (l : List Attribute). find_in l name) like.same_contents ∙ found

      same_one : (b : Attribute) → Some b ≡ Some a → a ≡ b
      same_one b e = cc

      named : naming request r ≡ name → value_of (after t r) a ≡ r.value
      unfolding written
      named e =
          let b = write_back form t (naming request r) r.type r.value like.still whole (status_alike form request s wide is t r like whole ∙ fine) in
          ap (value_of (after t r)) (same_one b.0 (sym b.1.0.found ∙ ap (find_of form t) e ∙ found_there)) ∙ b.1.1

      others : (naming request r ≡ name → ⊥) → value_of (after t r) a ≡ value_of t a
      unfolding written
      others n =
          write_others form t (naming request r) r.type r.value like.still whole a (found_in form t name a found_there)
          (λ e. n (sym e ∙ found_name form t name a found_there))

      value_after : value_of (after t r) a ≡ cond (eqb (naming request r) name) r.value (value_of t a)
      value_after = go (eqb (naming request r) name) refl
        where
          go : (b : Bool) → eqb (naming request r) name ≡ b → value_of (after t r) a ≡ cond b r.value (value_of t a)
          go true e = named (eqb-true _ _ e)
          go false e = others (eqb-false _ _ e)

  -- ---- all of them

  pub fronts : (rs : List WriteRecord) → All Whole rs → (t : List ℕ) → StoreLike form s t → take (bodies_at form s) (leaves t rs) ≡ take (bodies_at form s) t
  fronts [] all t like = refl
  fronts (r ∷ rs) all t like = fronts rs all.1 (after t r) (like_after t like r all.0) ∙ front t like r all.0

  values : (name : ℕ) (a : Attribute) → find_of form s name ≡ Some a → (rs : List WriteRecord) → All Whole rs → failing form request s rs ≡ [] → (t : List ℕ) → StoreLike form s t
      → value_of (leaves t rs) a ≡ last_value request name rs (value_of t a)
  unfolding last_value
  values name a found [] all none t like = refl
  values name a found (r ∷ rs) all none t like =
      let n = none_first (status_over form request s) r rs none in
      values name a found rs all.1 n.1 (after t r) (like_after t like r all.0)
      ∙ ap (last_value request name rs) (value_after t like r all.0 n.0 name a found)

pub records_leave : RecordsLeave
records_leave form request s body wide is none =
    subst (Left form request (records body).list s) (sym (all_written form request s wide is body))
    record {
      values = λ name a found. values form request s wide is name a found (records body).list (records_whole body 0) none s (itself form request s wide is);
      contents = fronts form request s wide is (records body).list (records_whole body 0) s (itself form request s wide is);
    }
