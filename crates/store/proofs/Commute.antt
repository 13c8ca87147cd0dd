-- Two writes to attributes of different names leave the same bytes in either order (document 02, request 4). Assumes nothing.
use Rattle.std.specs.Prelude.{Option, Result}
use Prim.Native.Nat.{ℕ, suc, ◌+◌, ◌≤◌, ◌<◌}
use mathlib.Core.Path.{◌≡◌, refl, sym, ap, ◌∙◌}
use mathlib.Core.Bool.{Bool, true, false}
use mathlib.Core.List.{List, [], ◌∷◌}
use native.Mathlib.Omega.{arith}
use lib.ListN.{length, set, length-take}
use lib.Seq.{set_comm, sets}
use lib.Dec.{ltb}
use borrow.Author.Tests.{ltb-true, ltb-false}
use Rattle.store.specs.declared.lookup.Attribute.{Attribute}
use Rattle.frame.specs.declared.status.Status.{Status}
use Rattle.store.specs.Contents.{find_of}
use Rattle.store.specs.Layout.{is_store}
use Rattle.store.specs.Value.{fitted, stored}
use Rattle.store.specs.Write.{check_of, write_by, write_of}
use Rattle.store.proofs.Contents.{In, other_place, found_in, found_name}
use Rattle.store.proofs.Placed.{bodies_apart}
use Rattle.store.proofs.Stored.{IsValue}
use Rattle.store.proofs.Writes.{Passes, check_ways, write_find}

-- ---- bytes laid over bytes, at places apart

set_sets : (ys l : List ℕ) (i q a : ℕ) → i < q → sets (set l i a) q ys ≡ set (sets l q ys) i a
set_sets [] l i q a h = refl
set_sets (y ∷ ys) l i q a h = ap (λ (m : List ℕ). sets m (suc q) ys) (set_comm l i q a y (λ e. omega arith)) ∙ set_sets ys (set l q y) i (suc q) a (omega arith)

sets_sets : (xs l : List ℕ) (p q : ℕ) (ys : List ℕ) → p + length xs ≤ q → sets (sets l p xs) q ys ≡ sets (sets l q ys) p xs
sets_sets [] l p q ys h = refl
sets_sets (x ∷ xs) l p q ys h =
    sets_sets xs (set l p x) (suc p) q ys (omega arith) ∙ ap (λ (m : List ℕ). sets m (suc p) xs) (set_sets ys l p q x (omega arith))

-- ---- two bodies

fitted_length : (room : ℕ) (v : List ℕ) → length (fitted room v) ≤ room
unfolding fitted
fitted_length room v = simp (length-take) (omega arith)

stored_stored : (s : List ℕ) (a b : Attribute) (v w : List ℕ) → a.offset + a.room ≤ b.offset → stored (stored s a v) b w ≡ stored (stored s b w) a v
unfolding stored
stored_stored s a b v w h = sets_sets (fitted a.room v) s a.offset b.offset (fitted b.room w) (omega (arith, fitted_length a.room v))

-- ---- two writes

module _ (form : ℕ) (s : List ℕ) (h : is_store form s ≡ true) where
  -- of different places
  apart : (a b : Attribute) (p : In form s a) (q : In form s b) → (p.place ≡ q.place → ⊥) → (v w : List ℕ) → stored (stored s a v) b w ≡ stored (stored s b w) a v
  apart a b p q n v w = go (ltb p.place q.place) refl
    where
      go : (t : Bool) → ltb p.place q.place ≡ t → stored (stored s a v) b w ≡ stored (stored s b w) a v
      go true e = stored_stored s a b v w (bodies_apart form s a b h p q (ltb-true p.place q.place e))
      go false e =
          let o : q.place ≤ p.place = ltb-false p.place q.place e in
          sym (stored_stored s b a w v (bodies_apart form s b a h q p (omega arith)))

  module _ (name other : ℕ) (differ : name ≡ other → ⊥) (t u : ℕ) (v w : List ℕ) (val : IsValue t v) (second : IsValue u w) (wide : 8 ≤ form) where
    abbrev first : Result Attribute Status
    first = check_of (find_of form s name) t v

    abbrev then : Result Attribute Status
    then = check_of (find_of form s other) u w

    -- the second write finds what it would have found before the first
    in_turn : (name other t u : ℕ) (v w : List ℕ) → IsValue t v
        → (write_of form (write_of form s name t v).store other u w).store ≡ (write_by (write_by s (check_of (find_of form s name) t v) v).store (check_of (find_of form s other) u w) w).store
    unfolding write_of
    in_turn name other t u v w val = ap (λ (f : Option Attribute). (write_by (write_of form s name t v).store (check_of f u w) w).store) (write_find form s name t v h val wide other)

    both : (a b : Attribute) → Passes (find_of form s name) t v a → Passes (find_of form s other) u w b → stored (stored s a v) b w ≡ stored (stored s b w) a v
    both a b p q =
        let x = found_in form s name a p.found in
        let y = found_in form s other b q.found in
        apart a b x y (other_place form s a b x y (λ e. differ (sym (found_name form s name a p.found) ∙ e ∙ found_name form s other b q.found))) v w

    by_checks : (write_by (write_by s first v).store then w).store ≡ (write_by (write_by s then w).store first v).store
    by_checks =
        check_ways (find_of form s name) t v (λ c. (write_by (write_by s c v).store then w).store ≡ (write_by (write_by s then w).store c v).store) (λ why n. refl)
        (λ a p. check_ways (find_of form s other) u w (λ c. (write_by (stored s a v) c w).store ≡ stored (write_by s c w).store a v) (λ why n. refl) (λ b q. both a b p q))

    -- THE LAW: either order
    pub write_commute : (write_of form (write_of form s name t v).store other u w).store ≡ (write_of form (write_of form s other u w).store name t v).store
    write_commute = in_turn name other t u v w val ∙ by_checks ∙ sym (in_turn other name u t w v second)
