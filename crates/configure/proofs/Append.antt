-- The records of a configure request that can all be read, followed by another request's: the records of both. Assumes nothing.
use Rattle.std.specs.Prelude.{None, Option, Some, unwrap_or}
use mathlib.Core.Path.{◌≡◌, refl, sym, ap, ◌∙◌}
use mathlib.Core.Bool.{Bool, true, false, cond}
use mathlib.Core.List.{List, ◌++◌}
use Prim.Native.Nat.{ℕ, ◌+◌, ◌≤◌, ◌<◌, min}
use native.Mathlib.Omega.{arith}
use native.Mathlib.Nat.{add_assoc, zero-add}
use lib.ListN.{length, get_or, length-append, get_or-append}
use lib.Seq.{get_or-append-add}
use lib.Dec.{leb, eqb}
use lib.IntN.{nat_abs}
use borrow.Author.Tests.{leb-true, leb-false}
use Rattle.types.specs.Number.{unsigned_at, signed_of, signed_at}
use Rattle.types.specs.Ids.{size_of, is_signed, is_float, is_analog}
use Rattle.types.specs.Value.{change_by, change_at}
use Rattle.types.proofs.Follows.{Within, before_more, after_more, unsigned_within}
use Rattle.frame.specs.Walk.{item, done, records_from, joined}
use Rattle.frame.proofs.Walks.{shifted, append_records}
use Rattle.frame.specs.Sized.{up_to}
use Rattle.reporting.specs.Due.{compares_unsigned}
use Rattle.configure.specs.Request.{ConfigureRecord, received, reported, change_width, config_at, configure_at, configures}
use Rattle.configure.proofs.Items.{up_to_in, up_to_past, up_to_is, here_at, size_at, is_reported, record-at, record_within, ahead}

-- ---- a part, and the whole that it stands in

module _ (k : ℕ) (s l : List ℕ) (w : Within k s l) where
  change-by : (x : Option ℕ) (signed float : Bool) (p : ℕ) → p + unwrap_or x 0 ≤ length s → change_by x signed float l (k + p) ≡ change_by x signed float s p
  unfolding signed_at
  change-by (Some n) signed float p h =
      let m : min n 8 ≤ n = omega arith in
      ap (λ (u : ℕ). cond signed (nat_abs (signed_of (min n 8) u)) (cond float 0 u)) (unsigned_within k s l w (min n 8) p (omega arith))
  change-by None signed float p h = refl

  -- the change field
  change_within : (t p : ℕ) → p + change_width t ≤ length s → cond (is_analog t) (change_at l (k + p) t) 0 ≡ cond (is_analog t) (change_at s p t) 0
  unfolding change_width change_at
  change_within t p h = go (is_analog t) h
    where
      go : (b : Bool) → p + cond b (unwrap_or (size_of t) 0) 0 ≤ length s → cond b (change_by (size_of t) (is_signed t) (is_float t) l (k + p)) 0 ≡ cond b (change_by (size_of t) (is_signed t) (is_float t) s p) 0
      go true h = change-by (size_of t) (is_signed t) (is_float t) p h
      go false h = refl

  byte_within : (p j : ℕ) → p + j < length s → get_or l (k + p + j) 0 ≡ get_or s (p + j) 0
  byte_within p j h = ap (λ (i : ℕ). get_or l i 0) (add_assoc k p j) ∙ w.same (p + j) h

  number_within : (p j : ℕ) → p + j + 2 ≤ length s → unsigned_at l (k + p + j) 2 ≡ unsigned_at s (p + j) 2
  number_within p j h = ap (λ (i : ℕ). unsigned_at l i 2) (add_assoc k p j) ∙ unsigned_within k s l w 2 (p + j) h

  config_within : (t p : ℕ) → p + 8 + change_width t ≤ length s → config_at l (k + p + 4) t ≡ config_at s (p + 4) t
  config_within t p h =
      let low : unsigned_at l (k + p + 4) 2 ≡ unsigned_at s (p + 4) 2 = number_within p 4 (omega arith) in
      let high : unsigned_at l (k + p + 4 + 2) 2 ≡ unsigned_at s (p + 4 + 2) 2 = ap (λ (i : ℕ). unsigned_at l i 2) (ap (λ (i : ℕ). i + 2) (add_assoc k p 4)) ∙ number_within (p + 4) 2 (omega arith) in
      let same : cond (is_analog t) (change_at l (k + p + 4 + 4) t) 0 ≡ cond (is_analog t) (change_at s (p + 4 + 4) t) 0 =
      ap (λ (i : ℕ). cond (is_analog t) (change_at l i t) 0) (add_assoc (k + p) 4 4 ∙ add_assoc k p 8 ∙ ap (λ (i : ℕ). k + i) (sym (add_assoc p 4 4))) ∙ change_within t (p + 4 + 4) (omega arith) in
      λ i. record { min_interval = low i; max_interval = high i; reportable_change = same i; unsigned = compares_unsigned t }

  -- a record that lies within the part
  here_within : (b : Bool) (p : ℕ) → p + size_at b s p ≤ length s → here_at b l (k + p) ≡ here_at b s p
  here_within true p h =
      let kind : get_or l (k + p + 3) 0 ≡ get_or s (p + 3) 0 = byte_within p 3 (omega arith) in
      ap (λ (n : ℕ). reported n (get_or l (k + p + 3) 0) (config_at l (k + p + 4) (get_or l (k + p + 3) 0))) (number_within p 1 (omega arith))
      ∙ ap (λ (t : ℕ). reported (unsigned_at s (p + 1) 2) t (config_at l (k + p + 4) t)) kind
      ∙ ap (reported (unsigned_at s (p + 1) 2) (get_or s (p + 3) 0)) (config_within (get_or s (p + 3) 0) p (omega arith))
  here_within false p h =
      ap (λ (d : ℕ). received d (unsigned_at l (k + p + 1) 2)) (w.same p (omega arith)) ∙ ap (received (get_or s p 0)) (number_within p 1 (omega arith))

-- ---- two bodies

module _ (a b : List ℕ) where
  -- bytes behind a record make no difference to it
  stable : (p : ℕ) (r : ConfigureRecord) (q : ℕ) → configure_at a p ≡ item r q → configure_at (a ++ b) p ≡ item r q
  stable p r q g =
      let x = up_to_is a (p + size_at (is_reported a p) a p) (here_at (is_reported a p) a p) r q (sym (record-at a p) ∙ g) in
      let v = record_within a p r q g in
      let first : is_reported (a ++ b) p ≡ is_reported a p = ap (λ (d : ℕ). eqb d 0) (get_or-append a b 0 p (omega arith)) in
      let kind : get_or (a ++ b) (p + 3) 0 ≡ get_or a (p + 3) 0 = get_or-append a b 0 (p + 3) (omega arith) in
      let end : p + size_at (is_reported a p) (a ++ b) p ≡ p + size_at (is_reported a p) a p = ap (λ (t : ℕ). p + cond (is_reported a p) (8 + change_width t) 5) kind in
      let here : here_at (is_reported a p) (a ++ b) p ≡ here_at (is_reported a p) a p = ap (here_at (is_reported a p) (a ++ b)) (sym (zero-add p)) ∙ here_within 0 a (a ++ b) (before_more a b) (is_reported a p) p x.0 in
      record-at (a ++ b) p
      ∙ ap (λ (c : Bool). up_to (a ++ b) (p + size_at c (a ++ b) p) (here_at c (a ++ b) p)) first
      ∙ ap (λ (e : ℕ). up_to (a ++ b) e (here_at (is_reported a p) (a ++ b) p)) (end ∙ x.1.0)
      ∙ ap (up_to (a ++ b) q) (here ∙ x.1.1)
      ∙ up_to_in (a ++ b) q r (omega (arith, v.1, length-append a b))

  -- bytes in front of a record move it
  moved_up_to : (c : Bool) (p : ℕ) → up_to (a ++ b) (length a + (p + size_at c b p)) (here_at c (a ++ b) (length a + p)) ≡ shifted (length a) (up_to b (p + size_at c b p) (here_at c b p))
  moved_up_to c p = go (leb (p + size_at c b p) (length b)) refl
    where
      go : (d : Bool) → leb (p + size_at c b p) (length b) ≡ d → up_to (a ++ b) (length a + (p + size_at c b p)) (here_at c (a ++ b) (length a + p)) ≡ shifted (length a) (up_to b (p + size_at c b p) (here_at c b p))
      go true e =
          let h : p + size_at c b p ≤ length b = leb-true _ _ e in
          ap (up_to (a ++ b) (length a + (p + size_at c b p))) (here_within (length a) b (a ++ b) (after_more a b) c p h)
          ∙ up_to_in (a ++ b) (length a + (p + size_at c b p)) (here_at c b p) (omega (arith, length-append a b))
          ∙ ap (shifted (length a)) (sym (up_to_in b (p + size_at c b p) (here_at c b p) h))
      go false e =
          let h : length b < p + size_at c b p = leb-false _ _ e in
          up_to_past (a ++ b) (length a + (p + size_at c b p)) (here_at c (a ++ b) (length a + p)) (omega (arith, length-append a b))
          ∙ ap (shifted (length a)) (sym (up_to_past b (p + size_at c b p) (here_at c b p) h))

  moved : (p : ℕ) → configure_at (a ++ b) (length a + p) ≡ shifted (length a) (configure_at b p)
  moved p =
      let first : is_reported (a ++ b) (length a + p) ≡ is_reported b p = ap (λ (d : ℕ). eqb d 0) (get_or-append-add a b p 0) in
      let kind : get_or (a ++ b) (length a + p + 3) 0 ≡ get_or b (p + 3) 0 = ap (λ (j : ℕ). get_or (a ++ b) j 0) (add_assoc (length a) p 3) ∙ get_or-append-add a b (p + 3) 0 in
      let end : length a + p + size_at (is_reported b p) (a ++ b) (length a + p) ≡ length a + (p + size_at (is_reported b p) b p) = ap (λ (t : ℕ). length a + p + cond (is_reported b p) (8 + change_width t) 5) kind ∙ add_assoc (length a) p (size_at (is_reported b p) b p) in
      record-at (a ++ b) (length a + p)
      ∙ ap (λ (c : Bool). up_to (a ++ b) (length a + p + size_at c (a ++ b) (length a + p)) (here_at c (a ++ b) (length a + p))) first
      ∙ ap (λ (e : ℕ). up_to (a ++ b) e (here_at (is_reported b p) (a ++ b) (length a + p))) end
      ∙ moved_up_to (is_reported b p) p
      ∙ ap (shifted (length a)) (sym (record-at b p))

  -- THE RECORDS OF TWO BODIES, where the first can be read to its end
  pub configures_append : (configures a).ending ≡ done → configures (a ++ b) ≡ joined (configures a) (configures b)
  configures_append e =
      ap (λ (l : ℕ). records_from (configure_at (a ++ b)) l 0) (length-append a b)
      ∙ append_records (configure_at a) (configure_at b) (configure_at (a ++ b)) (length a) (length b) (ahead (a ++ b)) (λ p r q g. (record_within a p r q g).1) stable moved e
