-- The ids of a request: which stand where, and those of two bodies one behind the other. Assumes nothing.
use mathlib.Core.Path.{◌≡◌}
use mathlib.Core.List.{List, ◌++◌}
use Prim.Native.Nat.{ℕ, ◌+◌, ◌≤◌, ◌<◌}
use native.Mathlib.Omega.{arith}
use lib.ListN.{length}
use Rattle.types.specs.Number.{unsigned_at}
use Rattle.types.proofs.Follows.{Within, unsigned_within}
use Rattle.frame.specs.Walk.{item, unread, done, joined}
use Rattle.frame.proofs.Walks.{Ahead}
use Rattle.frame.proofs.Sized.{up_to_cut, up_to_here, sized_ahead, sized_append}
use Rattle.read.specs.Read.{id_at, ids_from}

-- the two bytes of an id
abbrev id_in : List ℕ → ℕ → ℕ
id_in s p = unsigned_at s p 2

reads : (k : ℕ) (s l : List ℕ) → Within k s l → (p : ℕ) → p + 2 ≤ length s → id_in l (k + p) ≡ id_in s p
reads k s l w p h = unsigned_within k s l w 2 p h

module _ (body : List ℕ) where
  module _ (p : ℕ) where
    -- fewer than two bytes are no id
    pub id_cut : length body < p + 2 → unread ≡ id_at body p
    unfolding id_at
    id_cut h = up_to_cut body (p + 2) (id_in body p) h

    -- two bytes are one
    pub id_here : p + 2 ≤ length body → item (unsigned_at body p 2) (p + 2) ≡ id_at body p
    unfolding id_at
    id_here h = up_to_here body (p + 2) (id_in body p) h

  pub id_ahead : Ahead (id_at body)
  unfolding id_at
  id_ahead = sized_ahead 2 (omega arith) id_in reads body

-- the ids of two bodies, the first of which can be read to its end, are those of the one and then those of the other
pub read_ids_append : (a b : List ℕ) → (ids_from a 0).ending ≡ done → ids_from (a ++ b) 0 ≡ joined (ids_from a 0) (ids_from b 0)
unfolding id_at
read_ids_append a b e = sized_append 2 (omega arith) id_in reads a b e
