-- What the code's slots and loops do, against the definitions. Assumes nothing.
use Prim.Native.Nat.{ℕ, ◌+◌, ◌≤◌, ◌<◌}
use mathlib.Core.Path.{◌≡◌, refl, ap, sym, ◌∙◌}
use mathlib.Core.Bool.{true, false, ◌&&◌, ◌||◌}
use mathlib.Core.List.{List, [], ◌∷◌}
use native.Mathlib.Omega.{arith}
use lib.ListN.{get_or, drop}
use lib.Seq.{sets, drop-drop}
use lib.Dec.{leb, eqb}
use borrow.Author.Tests.{eq-eqb, ne_eqb, le-leb, lt-leb}
use Rattle.types.specs.Number.{bytes_of, unsigned_at, signed_at}
use Rattle.types.proofs.Numbers.{one_byte, length_bytes}
use Rattle.frame.proofs.Buffer.{sets_append}
use Rattle.reporting.specs.Carried.{widths, laid, numbers_in, is_slot, entry_of}

-- ---- a slot at a place

-- numbers one behind the other, by their places
abbrev pub numbers_at : List ℕ → List ℕ → ℕ → List ℕ
numbers_at [] bs at = []
numbers_at (w ∷ ws) bs at = unsigned_at bs at w ∷ numbers_at ws bs (at + w)

pub numbers-at : (ws bs : List ℕ) (at : ℕ) → numbers_in ws (drop at bs) ≡ numbers_at ws bs at
unfolding numbers_in unsigned_at
numbers-at [] bs at = refl
numbers-at (w ∷ ws) bs at =
    ap (λ (l : List ℕ). unsigned_at bs at w ∷ numbers_in ws l) (drop-drop w at bs)
    ∙ ap (λ (l : List ℕ). unsigned_at bs at w ∷ l) (numbers-at ws bs (at + w))

module _ (bs : List ℕ) (at : ℕ) where
  -- the places of a slot's numbers
  pub slot_numbers : numbers_in widths (drop at bs) ≡ unsigned_at bs at 2
      ∷ unsigned_at bs (at + 2) 2
      ∷ unsigned_at bs (at + 4) 2
      ∷ unsigned_at bs (at + 6) 2
      ∷ unsigned_at bs (at + 8) 8
      ∷ unsigned_at bs (at + 16) 1
      ∷ unsigned_at bs (at + 17) 1
      ∷ unsigned_at bs (at + 18) 4
      ∷ unsigned_at bs (at + 22) 8
      ∷ []
  slot_numbers =
      let a : at + 2 + 2 ≡ at + 4 = omega arith in
      let b : at + 4 + 2 ≡ at + 6 = omega arith in
      let c : at + 6 + 2 ≡ at + 8 = omega arith in
      let d : at + 8 + 8 ≡ at + 16 = omega arith in
      let e : at + 16 + 1 ≡ at + 17 = omega arith in
      let f : at + 17 + 1 ≡ at + 18 = omega arith in
      let g : at + 18 + 4 ≡ at + 22 = omega arith in
      numbers-at widths bs at ∙ rw (a, b, c, d, e, f, g)

  -- a slot's form, by its mark, flag, time and value
  pub form_at : is_slot (numbers_in widths (drop at bs)) ≡ (leb (get_or bs (at + 16) 0) 1 && (leb (get_or bs (at + 17) 0) 1 && (eqb (get_or bs (at + 17) 0) 1 || (eqb (unsigned_at bs (at + 18) 4) 0 && eqb (unsigned_at bs (at + 22) 8) 0))))
  unfolding is_slot
  form_at = ap is_slot slot_numbers ∙ rw (one_byte bs (at + 16), one_byte bs (at + 17))

  -- by the code's tests of a mark u and a flag f
  module _ (u : ℕ) (eu : u ≡ get_or bs (at + 16) 0) where
    pub form_marks : 1 < u → false ≡ is_slot (numbers_in widths (drop at bs))
    form_marks h = sym (form_at ∙ rw (← eu, lt-leb u 1 h))

    module _ (k : u ≤ 1) (f : ℕ) (ef : f ≡ get_or bs (at + 17) 0) where
      pub form_past : 1 < f → false ≡ is_slot (numbers_in widths (drop at bs))
      form_past h = sym (form_at ∙ rw (← eu, le-leb u 1 k, ← ef, lt-leb f 1 h))

      pub form_marked : f ≡ 1 → true ≡ is_slot (numbers_in widths (drop at bs))
      form_marked h = sym (form_at ∙ rw (← eu, le-leb u 1 k, ← ef, h))

      -- under flag 0 time and value are 0
      module _ (h : f ≤ 1) (j : f ≡ 1 → ⊥) (t v : ℕ) (et : t ≡ unsigned_at bs (at + 18) 4) (ev : v ≡ unsigned_at bs (at + 22) 8) where
        form_none : is_slot (numbers_in widths (drop at bs)) ≡ (eqb t 0 && eqb v 0)
        form_none = form_at ∙ rw (← eu, le-leb u 1 k, ← ef, le-leb f 1 h, ne_eqb f 1 j, ← et, ← ev)

        pub form_timed : (t ≡ 0 → ⊥) → eqb t 0 ≡ is_slot (numbers_in widths (drop at bs))
        form_timed e = sym (form_none ∙ rw (ne_eqb t 0 e))

        pub form_untimed : t ≡ 0 → eqb v 0 ≡ is_slot (numbers_in widths (drop at bs))
        form_untimed e = sym (form_none ∙ rw (eq-eqb t 0 e))

  -- the entry of a slot
  pub entry_at : entry_of (numbers_in widths (drop at bs)) ≡ record {
    key = record { cluster = record { 0 = unsigned_at bs at 2 }; attribute = record { 0 = unsigned_at bs (at + 2) 2 } };
    config = record { min_interval = unsigned_at bs (at + 4) 2; max_interval = unsigned_at bs (at + 6) 2; reportable_change = unsigned_at bs (at + 8) 8; unsigned = eqb (get_or bs (at + 16) 0) 1 };
    marked = eqb (get_or bs (at + 17) 0) 1;
    last_time = unsigned_at bs (at + 18) 4;
    last_value = signed_at bs (at + 22) 8;
  }
  unfolding entry_of signed_at
  entry_at = ap entry_of slot_numbers ∙ rw (one_byte bs (at + 16), one_byte bs (at + 17))

-- numbers written one behind the other
abbrev pub puts : List ℕ → List ℕ → List ℕ → ℕ → List ℕ
puts [] ns l at = l
puts (w ∷ ws) ns l at = puts ws (drop 1 ns) (sets l at (bytes_of w (get_or ns 0 0))) (at + w)

pub puts_laid : (ws ns l : List ℕ) (at : ℕ) → puts ws ns l at ≡ sets l at (laid ws ns)
unfolding laid
puts_laid [] ns l at = refl
puts_laid (w ∷ ws) ns l at =
    puts_laid ws (drop 1 ns) (sets l at (bytes_of w (get_or ns 0 0))) (at + w)
    ∙ ap (λ (k : ℕ). sets (sets l at (bytes_of w (get_or ns 0 0))) (at + k) (laid ws (drop 1 ns))) (sym (length_bytes w (get_or ns 0 0)))
    ∙ sets_append (bytes_of w (get_or ns 0 0)) (laid ws (drop 1 ns)) l at

-- what the nine writes of a slot leave
pub slot_put : (l : List ℕ) (at c a m x d u f t v : ℕ)
    → sets (sets (sets (sets (sets (sets (sets (sets (sets l at (bytes_of 2 c)) (at + 2) (bytes_of 2 a)) (at + 4) (bytes_of 2 m)) (at + 6) (bytes_of 2 x)) (at + 8) (bytes_of 8 d)) (at + 16) (bytes_of 1 u)) (at + 17) (bytes_of 1 f)) (at + 18) (bytes_of 4 t)) (at + 22) (bytes_of 8 v)
    ≡ sets l at (laid widths (c ∷ a ∷ m ∷ x ∷ d ∷ u ∷ f ∷ t ∷ v ∷ []))
slot_put l at c a m x d u f t v =
    let p : at + 4 ≡ at + 2 + 2 = omega arith in
    let q : at + 6 ≡ at + 2 + 2 + 2 = omega arith in
    let r : at + 8 ≡ at + 2 + 2 + 2 + 2 = omega arith in
    let s : at + 16 ≡ at + 2 + 2 + 2 + 2 + 8 = omega arith in
    let w : at + 17 ≡ at + 2 + 2 + 2 + 2 + 8 + 1 = omega arith in
    let y : at + 18 ≡ at + 2 + 2 + 2 + 2 + 8 + 1 + 1 = omega arith in
    let z : at + 22 ≡ at + 2 + 2 + 2 + 2 + 8 + 1 + 1 + 4 = omega arith in
    rw (p, q, r, s, w, y, z) (puts_laid widths (c ∷ a ∷ m ∷ x ∷ d ∷ u ∷ f ∷ t ∷ v ∷ []) l at)

-- the same, write by write
pub slot_puts : (at c a m x d u f t v : ℕ) (l₀ l₁ l₂ l₃ l₄ l₅ l₆ l₇ l₈ l₉ : List ℕ)
    → l₁ ≡ sets l₀ at (bytes_of 2 c)
    → l₂ ≡ sets l₁ (at + 2) (bytes_of 2 a)
    → l₃ ≡ sets l₂ (at + 4) (bytes_of 2 m)
    → l₄ ≡ sets l₃ (at + 6) (bytes_of 2 x)
    → l₅ ≡ sets l₄ (at + 8) (bytes_of 8 d)
    → l₆ ≡ sets l₅ (at + 16) (bytes_of 1 u)
    → l₇ ≡ sets l₆ (at + 17) (bytes_of 1 f)
    → l₈ ≡ sets l₇ (at + 18) (bytes_of 4 t)
    → l₉ ≡ sets l₈ (at + 22) (bytes_of 8 v)
    → l₉ ≡ sets l₀ at (laid widths (c ∷ a ∷ m ∷ x ∷ d ∷ u ∷ f ∷ t ∷ v ∷ []))
slot_puts at c a m x d u f t v l₀ l₁ l₂ l₃ l₄ l₅ l₆ l₇ l₈ l₉ e₁ e₂ e₃ e₄ e₅ e₆ e₇ e₈ e₉ =
    e₉
    ∙ ap (λ (l : List ℕ). sets l (at + 22) (bytes_of 8 v))
    (e₈
    ∙ ap (λ (l : List ℕ). sets l (at + 18) (bytes_of 4 t))
    (e₇
    ∙ ap (λ (l : List ℕ). sets l (at + 17) (bytes_of 1 f))
    (e₆
    ∙ ap (λ (l : List ℕ). sets l (at + 16) (bytes_of 1 u))
    (e₅
    ∙ ap (λ (l : List ℕ). sets l (at + 8) (bytes_of 8 d))
    (e₄
    ∙ ap (λ (l : List ℕ). sets l (at + 6) (bytes_of 2 x))
    (e₃ ∙ ap (λ (l : List ℕ). sets l (at + 4) (bytes_of 2 m)) (e₂ ∙ ap (λ (l : List ℕ). sets l (at + 2) (bytes_of 2 a)) e₁)))))))
    ∙ slot_put l₀ at c a m x d u f t v
