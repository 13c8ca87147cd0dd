-- Laws of a value laid into its room, as far as the store goes. Assumes nothing.
use Prim.Native.Nat.{ℕ, zero, suc, ◌+◌, ◌-◌, ◌≤◌, ◌<◌, min}
use mathlib.Core.Path.{◌≡◌, refl, ap, sym, ◌∙◌}
use mathlib.Core.List.{List, [], ◌∷◌, ◌++◌}
use mathlib.Core.Logic.{◌⊎◌, inl, inr}
use native.Mathlib.Omega.{arith}
use lib.ListN.{length, get_or, take, drop, set, length-set, length-take}
use lib.Seq.{sets, get_or-take}
use Rattle.std.proofs.Common.{length-append}
use Rattle.std.proofs.lemmas.List.{length-replicate, ext_get_or}
use Rattle.std.proofs.lemmas.Bool.{cases_lt}
use Rattle.types.specs.Number.{zeros}
use Rattle.types.proofs.Numbers.{sets_out}
use Rattle.frame.proofs.Buffer.{mid_sets}
use Rattle.store.specs.declared.lookup.Attribute.{Attribute}
use Rattle.store.specs.Value.{fitted, stored}

-- zeros behind a value read as what is past its end
zeros_at : (m k : ℕ) → get_or (zeros m) k 0 ≡ 0
zeros_at zero k = refl
zeros_at (suc m) zero = refl
zeros_at (suc m) (suc k) = zeros_at m k

padded_at : (v : List ℕ) (m k : ℕ) → get_or (v ++ zeros m) k 0 ≡ get_or v k 0
padded_at [] m k = zeros_at m k
padded_at (x ∷ v) m zero = refl
padded_at (x ∷ v) m (suc k) = padded_at v m k

length_fitted : (n : ℕ) (v : List ℕ) → length (fitted n v) ≡ n
unfolding fitted
length_fitted n v = simp (length-take, length-append, length-replicate) (omega arith)

-- n bytes, each that of a value at its place, or 0 where there is none
fitted_from : (n : ℕ) (v l : List ℕ) → length l ≡ n → ((k : ℕ) → k < n → get_or l k 0 ≡ get_or v k 0) → l ≡ fitted n v
unfolding fitted
fitted_from n v l e h =
    ext_get_or 0 l (fitted n v) (e ∙ sym (length_fitted n v))
    (λ k b. h k (omega arith) ∙ sym (get_or-take n (v ++ zeros n) k 0 (omega arith) ∙ padded_at v n k))

-- a part of the room has the start of what the whole has
fitted_part : (n room : ℕ) (v : List ℕ) → n ≤ room → take n (fitted room v) ≡ fitted n v
unfolding fitted
fitted_part n room v h =
    fitted_from n v (take n (fitted room v))
    (simp (length-take, length-append, length-replicate) (omega arith))
    (λ k b. get_or-take n (fitted room v) k 0 b ∙ get_or-take room (v ++ zeros room) k 0 (omega arith) ∙ padded_at v room k)

-- what would lie past the end is not laid
sets_cut : (n : ℕ) (xs s : List ℕ) (p : ℕ) → min (length xs) (length s - p) ≤ n → sets s p (take n xs) ≡ sets s p xs
sets_cut zero [] s p h = refl
sets_cut zero (x ∷ xs) s p h = sym (sets_out (x ∷ xs) s p (omega arith))
sets_cut (suc n) [] s p h = refl
sets_cut (suc n) (x ∷ xs) s p h = sets_cut n xs (set s p x) (suc p) (omega (arith, length-set {A = ℕ}))

-- THE LAW: a value laid into as much of its room as there is, is stored
pub stored_part : (s : List ℕ) (a : Attribute) (v l : List ℕ) (from end : ℕ) → from ≡ min a.offset (length s) → end ≡ min (from + a.room) (length s)
    → length l ≡ end - from → ((k : ℕ) → k < end - from → get_or l k 0 ≡ get_or v k 0) → take from s ++ (l ++ drop (end - from) (drop from s)) ≡ stored s a v
unfolding stored
stored_part s a v l from end f e n h =
    mid_sets s l from (end - from) n (omega arith)
    ∙ ap (sets s from) (fitted_from (end - from) v l n h ∙ sym (fitted_part (end - from) a.room v (omega arith)))
    ∙ go (cases_lt a.offset (length s))
  where
    go : (a.offset < length s) ⊎ (length s ≤ a.offset) → sets s from (take (end - from) (fitted a.room v)) ≡ sets s a.offset (fitted a.room v)
    go (inl h) =
        let here : from ≡ a.offset = omega arith in
        ap (λ p. sets s p (take (end - from) (fitted a.room v))) here ∙ sets_cut (end - from) (fitted a.room v) s a.offset (omega (arith, length_fitted a.room v))
    go (inr h) = sets_out (take (end - from) (fitted a.room v)) s from (omega arith) ∙ sym (sets_out (fitted a.room v) s a.offset h)
