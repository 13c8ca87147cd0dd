-- A kind, as a code's arm gives it, is the definition's; and a fixed size is at most 16. Assumes nothing.
use Rattle.std.specs.Prelude.{None, Some}
use Prim.Native.Nat.{ℕ, ◌+◌, ◌-◌, ◌≤◌, ◌<◌}
use mathlib.Core.Path.{◌≡◌, refl, ap, sym, ◌∙◌}
use mathlib.Core.Bool.{Bool, cond, ◌||◌}
use mathlib.Core.List.{List}
use native.Mathlib.Omega.{arith}
use lib.Dec.{T, eqb, eqb→eq, leb, leb→le}
use borrow.Author.Tests.{ne_eqb}
use types.Run.{OneOf}
use Rattle.types.specs.Ids.{size_of}
use Rattle.types.specs.Ids.{shape_of, shape_by, varied_shape}
use Rattle.types.specs.declared.ids.Shape.{Shape}
use Rattle.types.specs.declared.ids.Shape.TheVariants.{Fixed, Text, LongText, Series, Structure, Unknown}
use Rattle.types.proofs.Finite.{run, keys, by_run, by_keys, by_rest, NoneOf, any_key}

-- a number for each kind, and the kind of a number
abbrev rank : Shape → ℕ
rank (Fixed w) = w + 5
rank Text = 0
rank LongText = 1
rank Series = 2
rank Structure = 3
rank Unknown = 4

abbrev ranked : ℕ → Shape
ranked n = cond (eqb n 0) Text (cond (eqb n 1) LongText (cond (eqb n 2) Series (cond (eqb n 3) Structure (cond (eqb n 4) Unknown (Fixed (n - 5))))))

ranked_rank : (k : Shape) → ranked (rank k) ≡ k
ranked_rank (Fixed w) =
    let e : w + 5 - 5 ≡ w = omega arith in
    simp (ne_eqb (w + 5) 0 (omega arith), ne_eqb (w + 5) 1 (omega arith), ne_eqb (w + 5) 2 (omega arith), ne_eqb (w + 5) 3 (omega arith), ne_eqb (w + 5) 4 (omega arith), e)
ranked_rank Text = refl
ranked_rank LongText = refl
ranked_rank Series = refl
ranked_rank Structure = refl
ranked_rank Unknown = refl

abbrev pub same_form : Shape → Shape → Bool
same_form x y = eqb (rank x) (rank y)

same : (x y : Shape) → T (same_form x y) → x ≡ y
same x y t = sym (ranked_rank x) ∙ ap ranked (eqb→eq (rank x) (rank y) t) ∙ ranked_rank y

abbrev pub right : Shape → ℕ → Bool
right x t = same_form x (varied_shape t)

pub shape_fixed : (t w : ℕ) → size_of t ≡ Some w → Fixed w ≡ shape_of t
unfolding shape_of
shape_fixed t w e = rw e refl

varied : (x : Shape) (t : ℕ) → size_of t ≡ None → T (right x t) → x ≡ shape_of t
unfolding shape_of
varied x t e h = same x (varied_shape t) h ∙ ap (λ z. shape_by z t) (sym e)

pub shape_keys : (x : Shape) (ks : List ℕ) → T (keys (right x) ks) → (t : ℕ) → size_of t ≡ None → OneOf ks t → x ≡ shape_of t
shape_keys x ks p t e o = varied x t e (by_keys (right x) ks p t o)

pub shape_run : (x : Shape) (a n : ℕ) → T (run (right x) a n) → (t : ℕ) → size_of t ≡ None → a ≤ t → t < a + n → x ≡ shape_of t
shape_run x a n p t e h b = varied x t e (by_run (right x) a n p t h b)

pub shape_rest : (x : Shape) (kss : List (List ℕ)) (a n : ℕ) → T (run (λ t. any_key kss t || right x t) a n) → (t : ℕ) → size_of t ≡ None → a ≤ t → t < a + n → NoneOf kss t → x ≡ shape_of t
shape_rest x kss a n p t e h b o = varied x t e (by_rest (right x) kss a n p t h b o)

-- a fixed size is at most 16
ranks_small : (t : ℕ) → t < 256 → rank (shape_of t) ≤ 21
unfolding shape_of size_of
ranks_small t h = leb→le (rank (shape_of t)) 21 (by_run (λ t. leb (rank (shape_of t)) 21) 0 256 tt t (omega arith) (omega arith))

pub fixed_small : (t w : ℕ) → t < 256 → shape_of t ≡ Fixed w → w ≤ 16
fixed_small t w h e = omega (arith, ranks_small t h, ap rank e)
