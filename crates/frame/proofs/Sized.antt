-- The laws of records that end at a known place (`specs/Sized.antt`), and of those that all have one size. Assumes nothing.
use mathlib.Core.Path.{◌≡◌, refl, sym, ap, ◌∙◌}
use mathlib.Core.Bool.{Bool, true, false, cond}
use mathlib.Core.List.{List, ◌++◌}
use Prim.Native.Nat.{ℕ, ◌+◌, ◌≤◌, ◌<◌}
use native.Mathlib.Omega.{arith}
use native.Mathlib.Nat.{zero-add}
use lib.ListN.{length, length-append}
use lib.Dec.{leb}
use borrow.Author.Tests.{le-leb, lt-leb, leb-true, leb-false}
use Rattle.types.proofs.Follows.{Within, before_more, after_more}
use Rattle.frame.specs.Walk.{Item, item, unread, done, records_from, joined}
use Rattle.frame.specs.Sized.{up_to}
use Rattle.frame.proofs.Walks.{Ahead, shifted, append_records}

module _ {R : Type 0} (body : List ℕ) (q : ℕ) (r : R) where
  -- too few bytes are no record
  pub up_to_cut : length body < q → unread ≡ up_to body q r
  up_to_cut h = rw (lt-leb q (length body) h)

  -- enough are one
  pub up_to_here : q ≤ length body → item r q ≡ up_to body q r
  up_to_here h = rw (le-leb q (length body) h)

  -- and a record that was read is that one
  pub up_to_is : (x : R) (end : ℕ) → up_to body q r ≡ item x end → (q ≤ length body) × ((r ≡ x) × (q ≡ end))
  up_to_is x end g = by_test (leb q (length body)) refl g
    where
      by_test : (b : Bool) → leb q (length body) ≡ b → cond b (item r q) unread ≡ item x end → (q ≤ length body) × ((r ≡ x) × (q ≡ end))
      by_test true e g = (leb-true q (length body) e, (cc, cc))
      by_test false e g = let z : ◌≡◌ {A = ℕ} 0 1 = cc in absurd (omega arith)

-- records of n bytes, of which `read` reads no others
module _ {R : Type 0} (n : ℕ) (some : 0 < n) (read : List ℕ → ℕ → R)
    (reads : (k : ℕ) (s l : List ℕ) → Within k s l → (p : ℕ) → p + n ≤ length s → read l (k + p) ≡ read s p) where
  abbrev sized : List ℕ → ℕ → Item R
  sized body p = up_to body (p + n) (read body p)

  pub sized_ahead : (body : List ℕ) → Ahead (sized body)
  sized_ahead body p x end e = omega (arith, some, (up_to_is body (p + n) (read body p) x end e).1.1)

  module _ (a b : List ℕ) where
    ends : (p : ℕ) (x : R) (end : ℕ) → sized a p ≡ item x end → end ≤ length a
    ends p x end e = let w = up_to_is a (p + n) (read a p) x end e in omega (arith, w.0, w.1.1)

    -- bytes behind do not change a record
    pub sized_stable : (p : ℕ) (x : R) (end : ℕ) → sized a p ≡ item x end → sized (a ++ b) p ≡ item x end
    sized_stable p x end e =
        let w = up_to_is a (p + n) (read a p) x end e in
        let l : length (a ++ b) ≡ length a + length b = length-append a b in
        let v : read (a ++ b) p ≡ read a p = ap (read (a ++ b)) (sym (zero-add p)) ∙ reads 0 a (a ++ b) (before_more a b) p w.0 in
        sym (up_to_here (a ++ b) (p + n) (read (a ++ b) p) (omega (arith, w.0))) ∙ ap (λ (y : R). item y (p + n)) (v ∙ w.1.0) ∙ ap (item x) w.1.1

    -- bytes in front move it
    pub sized_moved : (p : ℕ) → sized (a ++ b) (length a + p) ≡ shifted (length a) (sized b p)
    sized_moved p = by_test (leb (p + n) (length b)) refl
      where
        l : length (a ++ b) ≡ length a + length b
        l = length-append a b

        by_test : (x : Bool) → leb (p + n) (length b) ≡ x → sized (a ++ b) (length a + p) ≡ shifted (length a) (cond x (item (read b p) (p + n)) unread)
        by_test true e =
            let h : p + n ≤ length b = leb-true (p + n) (length b) e in
            let k : length a + p + n ≡ length a + (p + n) = omega arith in
            sym (up_to_here (a ++ b) (length a + p + n) (read (a ++ b) (length a + p)) (omega (arith, l)))
            ∙ ap (λ (y : R). item y (length a + p + n)) (reads (length a) b (a ++ b) (after_more a b) p h)
            ∙ ap (item (read b p)) k
        by_test false e =
            let h : length b < p + n = leb-false (p + n) (length b) e in
            sym (up_to_cut (a ++ b) (length a + p + n) (read (a ++ b) (length a + p)) (omega (arith, l)))

    -- the records of two bodies, the first of which can be read to its end, are those of the one and then those of the other
    pub sized_append : (records_from (sized a) (length a) 0).ending ≡ done
        → records_from (sized (a ++ b)) (length (a ++ b)) 0 ≡ joined (records_from (sized a) (length a) 0) (records_from (sized b) (length b) 0)
    sized_append e =
        ap (λ (m : ℕ). records_from (sized (a ++ b)) m 0) (length-append a b)
        ∙ append_records (sized a) (sized b) (sized (a ++ b)) (length a) (length b) (sized_ahead (a ++ b)) ends sized_stable sized_moved e
