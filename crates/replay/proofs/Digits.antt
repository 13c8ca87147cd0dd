-- Laws of digits and their bytes (`specs/Line.antt`). Assumes nothing.
use Rattle.std.specs.Prelude.{None, Option, Some}
use mathlib.Core.Path.{◌≡◌, refl, sym, ap, ◌∙◌}
use mathlib.Core.Bool.{Bool, true, false, cond, ◌&&◌, and-false}
use mathlib.Core.List.{List, [], ◌∷◌, ◌++◌, append_assoc, append-nil}
use mathlib.Core.Logic.{◌⊎◌, inl, inr}
use Prim.Native.Nat.{ℕ, zero, suc, ◌+◌, ◌-◌, ◌*◌, ◌/◌, ◌%◌, ◌≤◌, ◌<◌}
use native.Mathlib.Omega.{arith}
use lib.ListN.{length, get_or, take, drop, set, drop_of_length-le}
use lib.Seq.{get_or-take, get_or-drop}
use lib.Dec.{leb}
use borrow.Author.Tests.{leb-true, le-leb, lt-leb}
use Rattle.std.specs.Simd.{first_chunks}
use Rattle.std.proofs.lemmas.List.{drop_more}
use Rattle.std.proofs.lemmas.Grind.{take-set_at}
use Rattle.types.specs.Ids.{among}
use Rattle.replay.specs.Line.{digit_of, behind, hex}

-- ---- one digit

among_yes : (a b t : ℕ) → a ≤ t → t ≤ b → among a b t ≡ true
among_yes a b t h k = rw (le-leb a t h, le-leb t b k)

among_no : (a b t : ℕ) → (a ≤ t → b < t) → among a b t ≡ false
among_no a b t h = go (leb a t) refl
  where
    go : (x : Bool) → leb a t ≡ x → (x && leb t b) ≡ false
    go true e = lt-leb t b (h (leb-true a t e))
    go false e = refl

pub digit_low : (b : ℕ) → 48 ≤ b → b ≤ 57 → b - 48 ≡ digit_of b
unfolding digit_of
digit_low b h k = rw (among_yes 48 57 b h k)

pub digit_high : (b : ℕ) → 97 ≤ b → b ≤ 102 → b - 97 + 10 ≡ digit_of b
unfolding digit_of
digit_high b h k = rw (among_no 48 57 b (λ x. omega arith), among_yes 97 102 b h k)

pub digit_none : (b : ℕ) → (48 ≤ b → 57 < b) → (97 ≤ b → 102 < b) → 16 ≡ digit_of b
unfolding digit_of
digit_none b h k = rw (among_no 48 57 b h, among_no 97 102 b k)

-- ---- a text of digits

-- what was read before what is read
behind_behind : (a b : List ℕ) (o : Option (List ℕ)) → behind a (behind b o) ≡ behind (a ++ b) o
behind_behind a b None = refl
behind_behind a b (Some more) = ap Some (sym (append_assoc a b more))

-- half a byte too much, or too many bytes
pub hex_none : (n : ℕ) (digits : List ℕ) → (length digits % 2 ≡ 0 → 2 * n < length digits) → None ≡ hex n digits
unfolding hex
hex_none n [] k = absurd (omega (arith, k refl))
hex_none zero (h ∷ more) k = refl
hex_none (suc n) (h ∷ []) k = refl
hex_none (suc n) (h ∷ l ∷ more) k = rw (sym (hex_none n more (λ e. omega (arith, k)))) (go (leb (digit_of h) 15 && leb (digit_of l) 15))
  where
    go : (b : Bool) → None ≡ cond b (behind ((16 * digit_of h + digit_of l) ∷ []) None) None
    go true = refl
    go false = refl

-- digit j of pair i
pair_at : (j k i : ℕ) (digits : List ℕ) → j < 2 → i < k → get_or (get_or (first_chunks 2 k digits) i []) j 0 ≡ get_or digits (2 * i + j) 0
pair_at j zero i digits l h = absurd (omega arith)
pair_at j (suc k) zero digits l h = get_or-take 2 digits j 0 l ∙ ap (λ (n : ℕ). get_or digits n 0) (omega arith)
pair_at j (suc k) (suc i) digits l h = pair_at j k i (drop 2 digits) l (omega arith) ∙ get_or-drop 2 digits (2 * i + j) 0 ∙ ap (λ (n : ℕ). get_or digits n 0) (omega arith)

-- n bytes of a buffer are read: what is left of the digits, behind them, is the whole
abbrev pub Read : List ℕ → List ℕ → ℕ → ℕ → Option (List ℕ) → Type 0
Read digits out n room whole = behind (take n out) (hex (room - n) (drop (2 * n) digits)) ≡ whole

module _ (digits out : List ℕ) (n room : ℕ) (whole : Option (List ℕ)) (h : Read digits out n room whole) where
  -- one more pair of them
  module _ (f : n < room) (k : n < length digits / 2) (pairs : List (List ℕ)) (high low : ℕ)
      (ep : pairs ≡ first_chunks 2 (length digits / 2) digits) (eh : high ≡ digit_of (get_or (get_or pairs n []) 0 0)) (el : low ≡ digit_of (get_or (get_or pairs n []) 1 0)) where
    one : (j : ℕ) → j < 2 → get_or (get_or pairs n []) j 0 ≡ get_or digits (2 * n + j) 0
    one j l = ap (λ (p : List (List ℕ)). get_or (get_or p n []) j 0) ep ∙ pair_at j (length digits / 2) n digits l k

    next : hex (room - n) (drop (2 * n) digits) ≡ cond (leb high 15 && leb low 15) (behind ((16 * high + low) ∷ []) (hex (room - (n + 1)) (drop (2 * (n + 1)) digits))) None
    unfolding hex
    next =
        let z : room - n ≡ suc (room - (n + 1)) = omega arith in
        let e0 : 2 * n ≡ 2 * n + 0 = omega arith in
        let e1 : 2 * n + 1 + 1 ≡ 2 * (n + 1) = omega arith in
        let a : drop (2 * n) digits ≡ get_or digits (2 * n + 0) 0 ∷ drop (2 * n + 1) digits = rw (sym e0) (drop_more digits (2 * n) 0 (omega arith)) in
        let b : drop (2 * n + 1) digits ≡ get_or digits (2 * n + 1) 0 ∷ drop (2 * (n + 1)) digits = rw (sym e1) (drop_more digits (2 * n + 1) 0 (omega arith)) in
        rw (z, a, b, eh ∙ ap digit_of (one 0 (omega arith)), el ∙ ap digit_of (one 1 (omega arith))) refl

    -- one of the two is no digit
    pub read_bad : (15 < high) ⊎ (high ≤ 15) × (15 < low) → None ≡ whole
    read_bad (inl l) = sym (rw (next, lt-leb high 15 l) refl) ∙ h
    read_bad (inr l) = sym (rw (next, lt-leb low 15 l.1, and-false (leb high 15)) refl) ∙ h

    -- one more byte
    pub read_more : n < length out → high ≤ 15 → low ≤ 15 → Read digits (set out n (16 * high + low)) (n + 1) room whole
    read_more g l m =
        let b : ℕ = 16 * high + low in
        let f : hex (room - n) (drop (2 * n) digits) ≡ behind (b ∷ []) (hex (room - (n + 1)) (drop (2 * (n + 1)) digits)) = next ∙ rw (le-leb high 15 l, le-leb low 15 m) refl in
        ap (λ (o : List ℕ). behind o (hex (room - (n + 1)) (drop (2 * (n + 1)) digits))) (take-set_at out n (n + 1) b refl g)
        ∙ sym (behind_behind (take n out) (b ∷ []) (hex (room - (n + 1)) (drop (2 * (n + 1)) digits)))
        ∙ ap (behind (take n out)) (sym f)
        ∙ h

  -- all is read
  pub read_all : (m : ℕ) → m ≡ n → length digits ≤ 2 * n → Some (take m out) ≡ whole
  unfolding hex
  read_all m e k = rw e (sym (rw (drop_of_length-le digits k) (ap Some (append-nil (take n out)))) ∙ h)
