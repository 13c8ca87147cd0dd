-- Which numbers compare otherwise without their sign (specs/Claims/Unsigned.antt). Assumes nothing.
use Rattle.std.specs.Prelude.{None, Option, Some}
use mathlib.Core.Path.{◌≡◌, refl, sym, ap, ◌∙◌, subst}
use mathlib.Core.Bool.{Bool, true, false, not, cond, ◌&&◌, ◌||◌, true≢false, false≢true}
use mathlib.Core.List.{List}
use Prim.Native.Nat.{ℕ, ◌-◌, ◌*◌, ◌^◌, ◌≤◌, ◌<◌}
use native.Mathlib.Omega.{arith}
use native.Mathlib.Nat.{mod-eq_of_lt}
use lib.Pow.{pow_mono}
use lib.Dec.{T, ltb, leb, eqb, eqb→eq}
use lib.IntN.{ℤ, pos, negsuc}
use lib.Signed.{mag}
use borrow.Author.Tests.{leb-true, leb-false, eq-eqb, lt-ltb, le-ltb, le-leb, ne_eqb}
use Rattle.types.specs.Number.{AllBytes, le, unsigned_at, signed_at, signed_of, residue}
use Rattle.types.specs.Ids.{size_of, is_analog, is_float, is_signed}
use Rattle.types.specs.Value.{number_by, number_at}
use Rattle.types.proofs.Numbers.{unsigned_below}
use Rattle.types.proofs.Finite.{by_run}
use Rattle.reporting.specs.declared.entry.Entry.{Entry}
use Rattle.reporting.specs.Due.{dist, bits_of, dist_by, moved_by}
use Rattle.reporting.proofs.Signed.{dist_pp, dist_pn, dist_np, dist_nn}
use Rattle.reporting.specs.Claims.Unsigned.{eight_bytes, keeps_bits, OthersAsBefore, OneSideAsBefore, TwoSidesMoved, AsBefore, OthersDecideAsBefore, SmallChangesAsBefore, OnlyUint64, FromNothingToTheTop, MeterSpeaks}

-- a number below 2^64 is its bits
bits_kept : (n : ℕ) → n < 2 ^ 64 → bits_of (pos n) ≡ n
unfolding residue
bits_kept n h = mod-eq_of_lt h

-- what a number is
given : ℤ → Option ℤ → ℤ
given d (Some v) = v
given d None = d

given_is : (v w : ℤ) → Some w ≡ Some v → w ≡ v
unfolding given
given_is v w e = ap (given v) e

never_none : {A : Type 0} (v : ℤ) → None ≡ Some v → A
never_none v e = go (ap told e)
  where
    told : Option ℤ → Bool
    told (Some w) = true
    told None = false

    go : {A : Type 0} → false ≡ true → A
    go q = absurd (false≢true q)

-- a number that is not negative, and below 2^64
record Natural (v : ℤ) : Type 0 where
  number : ℕ
  is : v ≡ pos number
  below : number < 2 ^ 64

-- it is its bits
natural_kept : (v : ℤ) → Natural v → pos (bits_of v) ≡ v
natural_kept v n = ap (λ (z : ℤ). pos (bits_of z)) n.is ∙ ap pos (bits_kept n.number n.below) ∙ sym n.is

-- so is every number of a type without a sign, unless it has 8 bytes
plain_natural : (x : List ℕ) (p n : ℕ) (v : ℤ) → AllBytes x → eqb n 8 ≡ false → number_by (Some n) false x p ≡ Some v → Natural v
plain_natural x p n v h k e = go (leb n 8) (leb n 7) refl refl e
  where
    go : (a b : Bool) → leb n 8 ≡ a → leb n 7 ≡ b → cond a (Some (cond b (pos (unsigned_at x p n)) (signed_at x p 8))) None ≡ Some v → Natural v
    go true true f g e =
        let small : n ≤ 7 = leb-true n 7 g in
        let m : 2 ^ (8 * n) ≤ 2 ^ 64 = pow_mono {i = 8 * n} {j = 64} (omega arith) in
        record { number = unsigned_at x p n; is = sym (given_is v (pos (unsigned_at x p n)) e); below = omega (arith, unsigned_below x p n h, m) }
    go true false f g e =
        let eight : n ≡ 8 = omega (arith, leb-true n 8 f, leb-false n 7 g) in
        absurd (true≢false (sym (eq-eqb n 8 eight) ∙ k))
    go false b f g e = never_none v e

apart_as_before : (size : Option ℕ) (signed : Bool) (x y : List ℕ) (p q : ℕ) (v w : ℤ) → AllBytes x → AllBytes y → (not signed && eight_bytes size) ≡ false
    → number_by size signed x p ≡ Some v → number_by size signed y q ≡ Some w → dist_by (not signed) v w ≡ dist v w
apart_as_before size true x y p q v w hx hy k e f = refl
apart_as_before (Some n) false x y p q v w hx hy k e f =
    λ i. dist (natural_kept v (plain_natural x p n v hx k e) i) (natural_kept w (plain_natural y q n w hy k f) i)
apart_as_before None false x y p q v w hx hy k e f = never_none v e

pub others_as_before : OthersAsBefore
unfolding number_at
others_as_before t x y p q v w hx hy k e f = apart_as_before (size_of t) (is_signed t) x y p q v w hx hy k e f

-- ---- on one side of the middle and on two

-- the bits of a negative number
bits_of_negative : (n : ℕ) → n < 2 ^ 63 → bits_of (negsuc n) ≡ 18446744073709551615 - n
unfolding residue
bits_of_negative n h = omega (arith, mod-eq_of_lt {n = n} {m = 2 ^ 64} (omega arith))

-- how far apart, by the signs
pp : (a b : ℕ) → a < 2 ^ 63 → b < 2 ^ 63 → dist_by true (pos a) (pos b) ≡ dist (pos a) (pos b)
pp a b h k = λ i. dist (pos (bits_kept a (omega arith) i)) (pos (bits_kept b (omega arith) i))

nn : (a b : ℕ) → a < 2 ^ 63 → b < 2 ^ 63 → dist_by true (negsuc a) (negsuc b) ≡ dist (negsuc a) (negsuc b)
nn a b h k =
    (λ i. dist (pos (bits_of_negative a h i)) (pos (bits_of_negative b k i)))
    ∙ dist_pp (18446744073709551615 - a) (18446744073709551615 - b)
    ∙ omega arith
    ∙ sym (dist_nn a b)

pn : (a b : ℕ) → a < 2 ^ 63 → b < 2 ^ 63 → 1 ≤ dist_by true (pos a) (negsuc b)
pn a b h k =
    subst (λ (n : ℕ). 1 ≤ n) (sym ((λ i. dist (pos (bits_kept a (omega arith) i)) (pos (bits_of_negative b k i))) ∙ dist_pp a (18446744073709551615 - b))) (omega arith)

np : (a b : ℕ) → a < 2 ^ 63 → b < 2 ^ 63 → 1 ≤ dist_by true (negsuc a) (pos b)
np a b h k =
    subst (λ (n : ℕ). 1 ≤ n) (sym ((λ i. dist (pos (bits_of_negative a h i)) (pos (bits_kept b (omega arith) i))) ∙ dist_pp (18446744073709551615 - a) b)) (omega arith)

low : (n : ℕ) → n < 2 ^ 63 → ltb (bits_of (pos n)) (2 ^ 63) ≡ true
low n h = ap (λ (k : ℕ). ltb k (2 ^ 63)) (bits_kept n (omega arith)) ∙ lt-ltb n (2 ^ 63) h

high : (n : ℕ) → n < 2 ^ 63 → ltb (bits_of (negsuc n)) (2 ^ 63) ≡ false
high n h = ap (λ (k : ℕ). ltb k (2 ^ 63)) (bits_of_negative n h) ∙ le-ltb (18446744073709551615 - n) (2 ^ 63) (omega arith)

pub one_side_as_before : OneSideAsBefore
one_side_as_before false v w h k e = refl
one_side_as_before true (pos a) (pos b) h k e = pp a b h k
one_side_as_before true (pos a) (negsuc b) h k e = absurd (true≢false (sym (low a h) ∙ e ∙ high b k))
one_side_as_before true (negsuc a) (pos b) h k e = absurd (false≢true (sym (high a h) ∙ e ∙ low b k))
one_side_as_before true (negsuc a) (negsuc b) h k e = nn a b h k

pub two_sides_moved : TwoSidesMoved
two_sides_moved unsigned (pos a) (pos b) h k n = absurd (n (low a h ∙ sym (low b k)))
two_sides_moved unsigned (negsuc a) (negsuc b) h k n = absurd (n (high a h ∙ sym (high b k)))
two_sides_moved true (pos a) (negsuc b) h k n = pn a b h k
two_sides_moved true (negsuc a) (pos b) h k n = np a b h k
two_sides_moved false (pos a) (negsuc b) h k n = subst (λ (d : ℕ). 1 ≤ d) (sym (dist_pn a b)) (omega arith)
two_sides_moved false (negsuc a) (pos b) h k n = subst (λ (d : ℕ). 1 ≤ d) (sym (dist_np a b)) (omega arith)

-- ---- what is decided

-- the last test of `ripe`
abbrev enough : ℕ → ℕ → Bool
enough change moved = not (eqb moved 0) && leb change moved

-- Only that test knows how far the value has moved.
by_the_move : (e : Entry) (now : ℕ) (v : ℤ)
    → enough e.config.reportable_change (dist_by e.config.unsigned v e.last_value) ≡ enough e.config.reportable_change (dist v e.last_value)
    → AsBefore e now v
unfolding moved_by
by_the_move e now v p =
    let g = e.config in
    let since = now - e.last_time in
    ap (λ (b : Bool). cond (eqb g.max_interval 0xffff) false
    (cond e.marked (cond (ltb since g.min_interval) false (cond (not (eqb g.max_interval 0) && leb g.max_interval since) true b)) true)) p

pub others_decide_as_before : OthersDecideAsBefore
others_decide_as_before e t x y p q now v hx hy k m l w =
    by_the_move e now v
    (ap (enough e.config.reportable_change) (ap (λ (u : Bool). dist_by u v e.last_value) m ∙ others_as_before t y x q p v e.last_value hy hx k w l))

-- two moves of 1 or more, under a change of 0 or 1
small_enough : (c m n : ℕ) → c ≤ 1 → 1 ≤ m → 1 ≤ n → enough c m ≡ enough c n
small_enough c m n h a b = yes m a ∙ sym (yes n b)
  where
    yes : (k : ℕ) → 1 ≤ k → enough c k ≡ true
    yes k a = ap (λ (b : Bool). not b && leb c k) (ne_eqb k 0 (omega arith)) ∙ le-leb c k (omega arith)

module _ (c : ℕ) (unsigned : Bool) (v w : ℤ) (small : c ≤ 1) (hv : mag v < 2 ^ 63) (hw : mag w < 2 ^ 63) where
  abbrev Same : Type 0
  Same = enough c (dist_by unsigned v w) ≡ enough c (dist v w)

  one_side : ltb (bits_of v) (2 ^ 63) ≡ ltb (bits_of w) (2 ^ 63) → Same
  one_side e = ap (enough c) (one_side_as_before unsigned v w hv hw e)

  two_sides : (ltb (bits_of v) (2 ^ 63) ≡ ltb (bits_of w) (2 ^ 63) → ⊥) → Same
  two_sides n = small_enough c _ _ small (two_sides_moved unsigned v w hv hw n) (two_sides_moved false v w hv hw n)

  by_sides : (a b : Bool) → ltb (bits_of v) (2 ^ 63) ≡ a → ltb (bits_of w) (2 ^ 63) ≡ b → Same
  by_sides true true p q = one_side (p ∙ sym q)
  by_sides false false p q = one_side (p ∙ sym q)
  by_sides true false p q = two_sides (λ r. absurd (true≢false (sym p ∙ r ∙ q)))
  by_sides false true p q = two_sides (λ r. absurd (false≢true (sym p ∙ r ∙ q)))

pub small_changes_as_before : SmallChangesAsBefore
small_changes_as_before e now v hl hv small = by_the_move e now v (by_sides e.config.reportable_change e.config.unsigned v e.last_value small hv hl _ _ refl refl)

-- ---- by requests

implied : (a f k q : Bool) → a ≡ true → f ≡ false → k ≡ true → T (not a || (f || (not k || q))) → T q
implied true false true q ha hf hk x = x
implied false f k q ha hf hk x = absurd (false≢true ha)
implied true true k q ha hf hk x = absurd (true≢false hf)
implied true false false q ha hf hk x = absurd (false≢true hk)

-- one test of all the codes
only_27 : (t : ℕ) → t < 256 → T (not (is_analog t) || (is_float t || (not (keeps_bits t) || eqb t 0x27)))
unfolding size_of is_analog is_float is_signed
only_27 t b = by_run (λ (t : ℕ). not (is_analog t) || (is_float t || (not (keeps_bits t) || eqb t 0x27))) 0 256 tt t (omega arith) b

pub only_uint64 : OnlyUint64
only_uint64 t b a f k = eqb→eq t 0x27 (implied (is_analog t) (is_float t) (keeps_bits t) (eqb t 0x27) a f k (only_27 t b))

-- ---- the sub-meter

pub from_nothing_to_the_top : FromNothingToTheTop
unfolding residue
from_nothing_to_the_top = (refl, refl)

pub meter_speaks : MeterSpeaks
unfolding le unsigned_at signed_of signed_at residue size_of is_signed number_at moved_by
meter_speaks = (refl, refl, refl, refl)
