-- What a request asks for: which stands where, and what two bodies ask one behind the other. Assumes nothing.
use mathlib.Core.Path.{◌≡◌, ap, ◌∙◌}
use mathlib.Core.List.{List, ◌++◌}
use Prim.Native.Nat.{ℕ, ◌+◌, ◌≤◌, ◌<◌}
use native.Mathlib.Omega.{arith}
use native.Mathlib.Nat.{add_assoc}
use lib.ListN.{length, get_or}
use Rattle.types.specs.Number.{unsigned_at}
use Rattle.types.proofs.Follows.{Within, unsigned_within}
use Rattle.frame.specs.Walk.{item, unread, done, joined}
use Rattle.frame.proofs.Walks.{Ahead}
use Rattle.frame.proofs.Sized.{up_to_cut, up_to_here, sized_ahead, sized_append}
use Rattle.configure.specs.Request.{Asked, asked, asked_at, asked_from}

-- the three bytes of direction and id
abbrev asked_in : List ℕ → ℕ → Asked
asked_in s p = asked (get_or s p 0) (unsigned_at s (p + 1) 2)

reads : (k : ℕ) (s l : List ℕ) → Within k s l → (p : ℕ) → p + 3 ≤ length s → asked_in l (k + p) ≡ asked_in s p
reads k s l w p h =
    ap (λ (x : ℕ). asked x (unsigned_at l (k + p + 1) 2)) (w.same p (omega arith))
    ∙ ap (λ (i : ℕ). asked (get_or s p 0) (unsigned_at l i 2)) (add_assoc k p 1)
    ∙ ap (asked (get_or s p 0)) (unsigned_within k s l w 2 (p + 1) (omega arith))

module _ (body : List ℕ) where
  module _ (p : ℕ) where
    -- fewer than three bytes ask nothing
    pub asked_cut : length body < p + 3 → unread ≡ asked_at body p
    unfolding asked_at
    asked_cut h = up_to_cut body (p + 3) (asked_in body p) h

    -- three bytes do
    pub asked_here : p + 3 ≤ length body → item (asked (get_or body p 0) (unsigned_at body (p + 1) 2)) (p + 3) ≡ asked_at body p
    unfolding asked_at
    asked_here h = up_to_here body (p + 3) (asked_in body p) h

  pub asked_ahead : Ahead (asked_at body)
  unfolding asked_at
  asked_ahead = sized_ahead 3 (omega arith) asked_in reads body

-- what two bodies ask, the first of which can be read to its end, is what the one asks and then what the other does
pub asked_append : (a b : List ℕ) → (asked_from a 0).ending ≡ done → asked_from (a ++ b) 0 ≡ joined (asked_from a 0) (asked_from b 0)
unfolding asked_at
asked_append a b e = sized_append 3 (omega arith) asked_in reads a b e
