-- A record that ends with a value of its type: how long it is, and what stands there. Assumes nothing.
use Rattle.std.specs.Prelude.{Err, Ok, Result}
use mathlib.Core.Path.{◌≡◌, refl, sym, ap, ◌∙◌}
use mathlib.Core.Bool.{Bool, true, false, cond}
use mathlib.Core.List.{List, ◌++◌}
use Prim.Native.Nat.{ℕ, ◌+◌, ◌≤◌}
use native.Mathlib.Omega.{arith}
use lib.ListN.{length, get_or, take, drop, length-append, take-append-drop, get_or-append}
use lib.Seq.{length-take-le}
use lib.Dec.{leb}
use borrow.Author.Tests.{le-leb, leb-true}
use Rattle.types.specs.Extent.{extent_of}
use Rattle.types.specs.declared.extent.NoExtent.{NoExtent}
use Rattle.types.proofs.Ends.{extent_ends}
use Rattle.types.proofs.Stable.{moved, extent_stable, extent_moved}
use Rattle.types.proofs.Back.{extent_back}
use Rattle.types.specs.declared.extent.NoExtent.TheVariants.{Cut, Without}
use Rattle.frame.specs.declared.answer.Refusal.TheVariants.{RecordCut}
use Rattle.readers.specs.Layout.{by_extent, valued}
use Rattle.readers.specs.Claims.Sendable.{Whole}
use Rattle.readers.proofs.Spans.{read_is, unread_not}

-- a record with a type at p has it
pub valued_long : (p : ℕ) (l : List ℕ) (m : ℕ) → valued p l ≡ Ok m → p + 1 ≤ length l
unfolding valued
valued_long p l m e = go (leb (p + 1) (length l)) refl e
  where
    go : (b : Bool) → leb (p + 1) (length l) ≡ b → cond b (by_extent (extent_of l (p + 1) (get_or l p 0))) (Err RecordCut) ≡ Ok m → p + 1 ≤ length l
    go true b e = leb-true (p + 1) (length l) b
    go false b e = unread_not RecordCut m e

-- behind the head of a record, whose last byte at p is the type
module _ (head : List ℕ) (p : ℕ) (long : length head ≡ p + 1) where
  -- such a record's length is where its value ends, counted from behind the head
  valued_is : (l : List ℕ) → valued p (head ++ l) ≡ by_extent (moved (length head) (extent_of l 0 (get_or head p 0)))
  unfolding valued
  valued_is l =
      let t : get_or (head ++ l) p 0 ≡ get_or head p 0 = get_or-append head l 0 p (omega arith) in
      let q : p + 1 ≡ length head + 0 = omega arith in
      let n : p + 1 ≤ length (head ++ l) = omega (arith, length-append head l) in
      ap (λ (b : Bool). cond b (by_extent (extent_of (head ++ l) (p + 1) (get_or (head ++ l) p 0))) (Err RecordCut)) (le-leb (p + 1) (length (head ++ l)) n)
      ∙ (λ i. by_extent (extent_of (head ++ l) (q i) (t i)))
      ∙ ap by_extent (extent_moved head l 0 (get_or head p 0))

  -- WHAT WAS WRITTEN: a whole value, whatever follows
  pub valued_forth : (v rest : List ℕ) → Whole (get_or head p 0) v → valued p (head ++ (v ++ rest)) ≡ Ok (length head + length v)
  valued_forth v rest h =
      valued_is (v ++ rest) ∙ ap (λ (x : Result ℕ NoExtent). by_extent (moved (length head) x)) (extent_stable v rest 0 (get_or head p 0) (length v) h)

  value_ends_at : (x : Result ℕ NoExtent) (m : ℕ) → by_extent (moved (length head) x) ≡ Ok m → (n : ℕ) × (x ≡ Ok n) × (m ≡ length head + n)
  value_ends_at (Ok n) m e = (n, refl, sym (read_is (length head + n) m e))
  value_ends_at (Err Cut) m e = unread_not RecordCut m e
  value_ends_at (Err Without) m e = unread_not RecordCut m e

  -- WHAT IS READ is a whole value
  pub valued_there : (l : List ℕ) (m : ℕ) → valued p (head ++ l) ≡ Ok m → (n : ℕ) × (m ≡ length head + n) × Whole (get_or head p 0) (take n l)
  valued_there l m e =
      let t : ℕ = get_or head p 0 in
      let w = value_ends_at (extent_of l 0 t) m (sym (valued_is l) ∙ e) in
      let n : ℕ = w.0 in
      let b : length (take n l) ≡ n = length-take-le n l (extent_ends l 0 t n w.1).1 in
      let whole : extent_of (take n l ++ drop n l) 0 t ≡ Ok n = ap (λ (x : List ℕ). extent_of x 0 t) (take-append-drop n l) ∙ w.1 in
      (n, w.2, extent_back (take n l) (drop n l) 0 t n whole (omega arith) ∙ ap Ok (sym b))
