-- The fields of a record: numbers of two bytes, and the first bytes of a list one by one. Assumes nothing.
use Rattle.std.specs.Prelude.{Err, Ok}
use mathlib.Core.Path.{◌≡◌, refl, sym, ap, ◌∙◌}
use mathlib.Core.Bool.{Bool, true, false, cond}
use mathlib.Core.List.{List, [], ◌∷◌, ◌++◌}
use Prim.Native.Nat.{ℕ, zero, suc, ◌+◌, ◌*◌, ◌/◌, ◌%◌, ◌^◌, ◌≤◌, ◌<◌}
use native.Mathlib.Omega.{arith}
use native.Mathlib.Nat.{add-zero, mod-eq_of_lt}
use lib.ListN.{length, get_or, take, drop}
use lib.Seq.{take_at, get_or-drop}
use lib.Dec.{leb, eqb}
use borrow.Author.Tests.{le-leb, leb-true, eqb-false, ne_eqb}
use Rattle.types.specs.Number.{le, bytes_of, unsigned_at, AllBytes}
use Rattle.types.proofs.Numbers.{le_bytes, length_bytes}
use Rattle.frame.specs.declared.answer.Refusal.TheVariants.{RecordCut, NotSuchAReply}
use Rattle.readers.specs.Layout.{up_to, failure_length}
use Rattle.readers.specs.Claims.Sendable.{Failed}
use Rattle.readers.proofs.Spans.{read_is, unread_not}

-- ---- a number

-- what was written is read, whatever follows
pub number_back : (w n : ℕ) (rest : List ℕ) → n < 2 ^ (8 * w) → unsigned_at (bytes_of w n ++ rest) 0 w ≡ n
unfolding unsigned_at
number_back w n rest h = ap le (take_at (bytes_of w n) rest w (length_bytes w n)) ∙ le_bytes w n ∙ mod-eq_of_lt h

-- of two bytes
pub two_back : (n : ℕ) (rest : List ℕ) → n < 2 ^ 16 → unsigned_at (n % 256 ∷ n / 256 % 256 ∷ rest) 0 2 ≡ n
unfolding bytes_of
two_back n rest h = number_back 2 n rest h

module _ (b c : ℕ) (rest : List ℕ) (h : b < 256) (k : c < 256) where
  pub two_below : unsigned_at (b ∷ c ∷ rest) 0 2 < 2 ^ 16
  unfolding unsigned_at le
  two_below = omega arith

  pub two_there : bytes_of 2 (unsigned_at (b ∷ c ∷ rest) 0 2) ≡ b ∷ c ∷ []
  unfolding unsigned_at le bytes_of
  two_there =
      let n : ℕ = b + 256 * (c + 256 * 0) in
      let low : n % 256 ≡ b = omega arith in
      let high : n / 256 ≡ c = omega arith in
      let same : c % 256 ≡ c = omega arith in
      (λ i. low i ∷ high i % 256 ∷ []) ∙ ap (λ (k : ℕ). b ∷ k ∷ []) same

-- ---- the first bytes of a list that has them

pub bytes_take : (n : ℕ) (l : List ℕ) → AllBytes l → AllBytes (take n l)
bytes_take zero l h i = omega arith
bytes_take (suc n) [] h i = h i
bytes_take (suc n) (x ∷ l) h zero = h 0
bytes_take (suc n) (x ∷ l) h (suc i) = bytes_take n l (λ k. h (suc k)) i

abbrev pub firsts : ℕ → List ℕ → List ℕ
firsts zero l = []
firsts (suc n) l = get_or l 0 0 ∷ firsts n (drop 1 l)

abbrev pub behind : ℕ → List ℕ → List ℕ
behind zero l = l
behind (suc n) l = behind n (drop 1 l)

-- the list is these and what lies behind them
pub by_firsts : (n : ℕ) (l : List ℕ) → n ≤ length l → firsts n l ++ behind n l ≡ l
by_firsts zero l h = refl
by_firsts (suc n) [] h = absurd (omega arith)
by_firsts (suc n) (x ∷ l) h = ap (λ (r : List ℕ). x ∷ r) (by_firsts n l (omega arith))

-- the byte at p is the first from there on
pub first_at : (f : List ℕ) (p : ℕ) → get_or f p 0 ≡ get_or (drop p f) 0 0
first_at f p = sym (get_or-drop p f 0 0 ∙ ap (λ (k : ℕ). get_or f k 0) (add-zero p))

-- ---- so many bytes, and a failure of so many

pub up_to_bytes : (n : ℕ) (l : List ℕ) → n ≤ length l → up_to n l ≡ Ok n
unfolding up_to
up_to_bytes n l h = rw (le-leb n (length l) h)

pub up_to_is : (n : ℕ) (l : List ℕ) (m : ℕ) → up_to n l ≡ Ok m → (m ≡ n) × (n ≤ length l)
unfolding up_to
up_to_is n l m e = go (leb n (length l)) refl e
  where
    go : (b : Bool) → leb n (length l) ≡ b → cond b (Ok n) (Err RecordCut) ≡ Ok m → (m ≡ n) × (n ≤ length l)
    go true b e = (sym (read_is n m e), leb-true n (length l) b)
    go false b e = unread_not RecordCut m e

pub failing_bytes : (n : ℕ) (l : List ℕ) → Failed (get_or l 0 0) → n ≤ length l → failure_length n l ≡ Ok n
unfolding failure_length
failing_bytes n l k h = rw (ne_eqb (get_or l 0 0) 0 k) (up_to_bytes n l h)

pub failing_is : (n : ℕ) (l : List ℕ) (m : ℕ) → failure_length n l ≡ Ok m → Failed (get_or l 0 0) × (m ≡ n) × (n ≤ length l)
unfolding failure_length
failing_is n l m e = go (eqb (get_or l 0 0) 0) refl e
  where
    go : (b : Bool) → eqb (get_or l 0 0) 0 ≡ b → cond b (Err NotSuchAReply) (up_to n l) ≡ Ok m → Failed (get_or l 0 0) × (m ≡ n) × (n ≤ length l)
    go true b e = unread_not NotSuchAReply m e
    go false b e = let u = up_to_is n l m e in (eqb-false (get_or l 0 0) 0 b, u.0, u.1)
