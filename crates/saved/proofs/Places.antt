-- A row and a body at their places, as the code reads and writes them. Assumes nothing.
use Prim.Native.Nat.{ℕ, ◌+◌, ◌*◌, ◌^◌, ◌≤◌, ◌<◌}
use mathlib.Core.Path.{◌≡◌, ap, sym, ◌∙◌}
use mathlib.Core.Bool.{Bool, true, false}
use mathlib.Core.List.{List, [], ◌∷◌, ◌++◌}
use native.Mathlib.Omega.{arith}
use lib.ListN.{length, get_or, drop}
use lib.Seq.{sets}
use Rattle.types.specs.Number.{bytes_of, unsigned_at}
use Rattle.types.proofs.Numbers.{one_byte}
use Rattle.frame.proofs.Buffer.{sets_append}
use Rattle.reporting.specs.Table.{capacity}
use Rattle.reporting.specs.Carried.{total, laid, numbers_in, rows_laid}
use Rattle.reporting.proofs.Carriage.{length_rows}
use Rattle.reporting.proofs.CarriageCode.{numbers-at, puts_laid}
use Rattle.reporting.proofs.CarriageLoops.{rows_snoc}
use Rattle.saved.specs.Saved.{form_of, body_bytes, offset_at, saved_size}

-- ---- the places of the bodies, in either form

pub next_place : (m : Bool) (n i : ℕ) → offset_at (form_of m) n i + body_bytes (form_of m) ≡ offset_at (form_of m) n (i + 1)
next_place true n i = omega arith
next_place false n i = omega arith

pub place_within : (m : Bool) (n i : ℕ) → i < n → offset_at (form_of m) n i + body_bytes (form_of m) ≤ saved_size (form_of m) n
place_within true n i h = omega arith
place_within false n i h = omega arith

pub place_small : (m : Bool) (n i : ℕ) → n ≤ capacity → i ≤ capacity → offset_at (form_of m) n i < 2 ^ 16
place_small true n i h k = omega arith
place_small false n i h k = omega arith

-- a body whose place r was asked for lies in a form of l bytes, told by another name of the same mark
pub place_there : (m m' : Bool) (n i r l : ℕ) → m' ≡ m → r ≡ offset_at (form_of m') n i → i < n → l ≡ saved_size (form_of m) n → r + body_bytes (form_of m') ≤ l
place_there m m' n i r l e p h s =
    let s' : l ≡ saved_size (form_of m') n = s ∙ ap (λ (x : Bool). saved_size (form_of x) n) (sym e) in
    omega (arith, p, s', place_within m' n i h)

-- the contents lie before them
pub rows_before : (m : Bool) (n : ℕ) → 1 + 6 * n ≤ saved_size (form_of m) n
rows_before true n = omega arith
rows_before false n = omega arith

-- a body's first twelve bytes are there, and in a form with marks the thirteenth
pub body_small : (m : Bool) (at l : ℕ) → at + body_bytes (form_of m) ≤ l → at + 12 ≤ l
body_small true at l h = omega arith
body_small false at l h = omega arith

pub mark_within : (m : Bool) (at l : ℕ) → m ≡ true → at + body_bytes (form_of m) ≤ l → at + 12 < l
mark_within m at l e h =
    let b : body_bytes (form_of m) ≡ 13 = ap (λ (x : Bool). body_bytes (form_of x)) e in
    omega (arith, b, h)

-- ---- three numbers of widths u, v and w, one behind the other; the third stands at p

module _ (u v w at p : ℕ) (place : at + u + v ≡ p) where
  pub three_numbers : (bs : List ℕ) → numbers_in (u ∷ v ∷ w ∷ []) (drop at bs) ≡ unsigned_at bs at u ∷ unsigned_at bs (at + u) v ∷ unsigned_at bs p w ∷ []
  three_numbers bs = numbers-at (u ∷ v ∷ w ∷ []) bs at ∙ ap (λ (q : ℕ). unsigned_at bs at u ∷ unsigned_at bs (at + u) v ∷ unsigned_at bs q w ∷ []) place

  pub three_puts : (a b c : ℕ) (l₀ l₁ l₂ l₃ : List ℕ)
      → l₁ ≡ sets l₀ at (bytes_of u a)
      → l₂ ≡ sets l₁ (at + u) (bytes_of v b)
      → l₃ ≡ sets l₂ p (bytes_of w c)
      → l₃ ≡ sets l₀ at (laid (u ∷ v ∷ w ∷ []) (a ∷ b ∷ c ∷ []))
  three_puts a b c l₀ l₁ l₂ l₃ e₁ e₂ e₃ =
      e₃
      ∙ (λ i. sets ((e₂ ∙ ap (λ (l : List ℕ). sets l (at + u) (bytes_of v b)) e₁) i) (sym place i) (bytes_of w c))
      ∙ puts_laid (u ∷ v ∷ w ∷ []) (a ∷ b ∷ c ∷ []) l₀ at

-- ---- a body

-- what its numbers are, with a mark or without
pub record Body (m : Bool) (bs : List ℕ) (at : ℕ) : Type 0 where
  pub minimum : get_or (numbers_in (form_of m).bodies (drop at bs)) 0 0 ≡ unsigned_at bs at 2
  pub maximum : get_or (numbers_in (form_of m).bodies (drop at bs)) 1 0 ≡ unsigned_at bs (at + 2) 2
  pub change : get_or (numbers_in (form_of m).bodies (drop at bs)) 2 0 ≡ unsigned_at bs (at + 4) 8

pub body_numbers : (m : Bool) (bs : List ℕ) (at : ℕ) → Body m bs at
body_numbers true bs at =
    let p : at + 2 + 2 ≡ at + 4 = omega arith in
    let n = numbers-at (2 ∷ 2 ∷ 8 ∷ 1 ∷ []) bs at in
    record { minimum = ap (λ (l : List ℕ). get_or l 0 0) n; maximum = ap (λ (l : List ℕ). get_or l 1 0) n; change = ap (λ (l : List ℕ). get_or l 2 0) n ∙ ap (λ (q : ℕ). unsigned_at bs q 8) p }
body_numbers false bs at =
    let p : at + 2 + 2 ≡ at + 4 = omega arith in
    let n = numbers-at (2 ∷ 2 ∷ 8 ∷ []) bs at in
    record { minimum = ap (λ (l : List ℕ). get_or l 0 0) n; maximum = ap (λ (l : List ℕ). get_or l 1 0) n; change = ap (λ (l : List ℕ). get_or l 2 0) n ∙ ap (λ (q : ℕ). unsigned_at bs q 8) p }

-- and its mark: none is 0
pub mark_there : (bs : List ℕ) (at : ℕ) → get_or bs (at + 12) 0 ≡ get_or (numbers_in (form_of true).bodies (drop at bs)) 3 0
mark_there bs at =
    let p : at + 12 ≡ at + 2 + 2 + 8 = omega arith in
    ap (λ (q : ℕ). get_or bs q 0) p ∙ one_byte bs (at + 2 + 2 + 8) ∙ sym (ap (λ (l : List ℕ). get_or l 3 0) (numbers-at (2 ∷ 2 ∷ 8 ∷ 1 ∷ []) bs at))

pub mark_none : (bs : List ℕ) (at : ℕ) → 0 ≡ get_or (numbers_in (form_of false).bodies (drop at bs)) 3 0
mark_none bs at = sym (ap (λ (l : List ℕ). get_or l 3 0) (numbers-at (2 ∷ 2 ∷ 8 ∷ []) bs at))

-- four numbers written, the fourth behind the first three
pub body_puts : (at a b c d : ℕ) (l₀ l₁ l₂ l₃ l₄ : List ℕ)
    → l₁ ≡ sets l₀ at (bytes_of 2 a)
    → l₂ ≡ sets l₁ (at + 2) (bytes_of 2 b)
    → l₃ ≡ sets l₂ (at + 4) (bytes_of 8 c)
    → l₄ ≡ sets l₃ (at + 12) (bytes_of 1 d)
    → l₄ ≡ sets l₀ at (laid (2 ∷ 2 ∷ 8 ∷ 1 ∷ []) (a ∷ b ∷ c ∷ d ∷ []))
body_puts at a b c d l₀ l₁ l₂ l₃ l₄ e₁ e₂ e₃ e₄ =
    let p : at + 4 ≡ at + 2 + 2 = omega arith in
    let q : at + 12 ≡ at + 2 + 2 + 8 = omega arith in
    e₄
    ∙ (λ i. sets ((e₃ ∙ (λ j. sets ((e₂ ∙ ap (λ (l : List ℕ). sets l (at + 2) (bytes_of 2 b)) e₁) j) (p j) (bytes_of 8 c))) i) (q i) (bytes_of 1 d))
    ∙ puts_laid (2 ∷ 2 ∷ 8 ∷ 1 ∷ []) (a ∷ b ∷ c ∷ d ∷ []) l₀ at

-- ---- rows one behind the other: one more, behind i others

pub put_row : (ws : List ℕ) (from at i : ℕ) (rows : List (List ℕ)) (ns l₀ l₁ l₂ : List ℕ)
    → length rows ≡ i
    → from + i * total ws ≡ at
    → l₁ ≡ sets l₀ from (rows_laid ws rows)
    → l₂ ≡ sets l₁ at (laid ws ns)
    → l₂ ≡ sets l₀ from (rows_laid ws (rows ++ (ns ∷ [])))
put_row ws from at i rows ns l₀ l₁ l₂ n p e₁ e₂ =
    let q : at ≡ from + length (rows_laid ws rows) = sym p ∙ ap (λ (k : ℕ). from + k * total ws) (sym n) ∙ ap (λ (k : ℕ). from + k) (sym (length_rows ws rows)) in
    e₂
    ∙ (λ j. sets (e₁ j) (q j) (laid ws ns))
    ∙ sets_append (rows_laid ws rows) (laid ws ns) l₀ from
    ∙ ap (sets l₀ from) (sym (rows_snoc ws rows ns))
