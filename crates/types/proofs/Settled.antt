-- A cut value is cut only because the slice ends: some bytes behind it settle where it ends, or that it has no extent. Assumes nothing.
use Rattle.std.specs.Prelude.{Err, Ok, Result}
use Prim.Native.Nat.{ℕ, zero, suc, ◌+◌, ◌≤◌, ◌<◌}
use mathlib.Core.Path.{◌≡◌, refl, ap, sym, ◌∙◌, subst}
use mathlib.Core.List.{List, [], ◌++◌, append_assoc}
use native.Mathlib.Omega.{arith}
use native.Mathlib.Nat.{zero-add}
use lib.ListN.{length, get_or, replicate, length-append, length-replicate, get_or-append}
use Rattle.types.specs.Ids.{shape_of}
use Rattle.types.specs.declared.ids.Shape.{Shape}
use Rattle.types.specs.declared.ids.Shape.TheVariants.{Fixed, Text, LongText, Series, Structure, Unknown}
use Rattle.types.specs.Extent.{upto, times, and_then, by_shape, value_at, series, structure, member, count, text, extent_of}
use Rattle.types.specs.declared.extent.NoExtent.{NoExtent}
use Rattle.types.specs.declared.extent.NoExtent.TheVariants.{Cut, Without}
use Rattle.types.specs.Claims.Settled.{NotCut, ExtentSettled}
use Rattle.types.proofs.Extents.{upto_in, upto_end}
use Rattle.types.proofs.Ends.{no_cut}
use Rattle.types.proofs.Follows.{before_more, count_within, member_follows}
use Rattle.types.proofs.Stable.{Keeps, keeps_end, keeps_bytes, keeping, behind_keeps, extent_stable, without_stable}

-- some bytes behind s settle what r says of it at p
abbrev pub Settled : (List ℕ → ℕ → Result ℕ NoExtent) → List ℕ → ℕ → Type 0
Settled r s p = (b : List ℕ) × NotCut (r (s ++ b) p)

-- what r says of a list, it says of a longer one, unless it was cut
abbrev pub Stays : (List ℕ → ℕ → Result ℕ NoExtent) → Type 0
Stays r = (s b : List ℕ) (p : ℕ) → Keeps 0 (r s p) (r (s ++ b) p)

upto_settled : (n : ℕ) (s : List ℕ) (p : ℕ) → Settled (λ s p. upto s p n) s p
upto_settled n s p = (
  replicate (p + n) 0,
  subst NotCut (sym (upto_in (s ++ replicate (p + n) 0) p n (rw (length-append, length-replicate) (omega arith)))) tt,
)

-- first r, then g, which may look at what r has read
then_settled : (r : List ℕ → ℕ → Result ℕ NoExtent) (g : List ℕ → ℕ → Result ℕ NoExtent) (s : List ℕ) (p : ℕ) → Stays r → Settled r s p
    → ((b : List ℕ) (q : ℕ) → r (s ++ b) p ≡ Ok q → Settled g (s ++ b) q) → Settled (λ s p. and_then (r s p) (g s)) s p
then_settled r g s p k h i = go (r (s ++ h.0) p) refl h.1
  where
    go : (x : Result ℕ NoExtent) → r (s ++ h.0) p ≡ x → NotCut x → Settled (λ s p. and_then (r s p) (g s)) s p
    go (Ok q) e n =
        let j = i h.0 q e in
        let f : r (s ++ h.0 ++ j.0) p ≡ Ok q = keeps_end 0 (r (s ++ h.0) p) (r (s ++ h.0 ++ j.0) p) q (k (s ++ h.0) j.0 p) e ∙ ap Ok (zero-add q) in
        let o : NotCut (and_then (r (s ++ h.0 ++ j.0) p) (g (s ++ h.0 ++ j.0))) = subst (λ z. NotCut (and_then z (g (s ++ h.0 ++ j.0)))) (sym f) j.1 in
        (h.0 ++ j.0, subst (λ l. NotCut (and_then (r l p) (g l))) (append_assoc s h.0 j.0) o)
    go (Err Cut) e n = absurd n
    go (Err Without) e n = (h.0, subst (λ z. NotCut (and_then z (g (s ++ h.0)))) (sym e) tt)

times_settled : (r : List ℕ → ℕ → Result ℕ NoExtent) → Stays r → ((s : List ℕ) (p : ℕ) → Settled r s p) → (n : ℕ) (s : List ℕ) (p : ℕ) → Settled (λ s p. times (r s) n p) s p
unfolding times
times_settled r k h zero s p = ([], tt)
times_settled r k h (suc n) s p = then_settled r (λ s. times (r s) n) s p k (h s p) (λ b q e. times_settled r k h n (s ++ b) q)

upto_stays : (n : ℕ) → Stays (λ s p. upto s p n)
upto_stays n s b p = rw zero-add at (keeps_bytes 0 s (s ++ b) (before_more s b) p n)

-- bytes that were read stay as they are
module _ (s b : List ℕ) (p : ℕ) where
  byte_same : p < length s → get_or (s ++ b) p 0 ≡ get_or s p 0
  byte_same h = get_or-append s b 0 p h

  count_same : (n : ℕ) → p + n ≤ length s → count n (s ++ b) p ≡ count n s p
  count_same n h = rw zero-add at (count_within 0 s (s ++ b) (before_more s b) n p h)

text_settled : (n : ℕ) (s : List ℕ) (p : ℕ) → Settled (text n) s p
unfolding text
text_settled n s p =
    then_settled (λ s p. upto s p n) (λ s q. upto s q (count n s p)) s p (upto_stays n) (upto_settled n s p)
    (λ b q e.
    let i = upto_settled (count n (s ++ b) p) (s ++ b) q in
    (i.0, subst (λ m. NotCut (upto (s ++ b ++ i.0) q m)) (sym (count_same (s ++ b) i.0 p n (upto_end (s ++ b) p n q e).0)) i.1))

module _ (v : List ℕ → ℕ → ℕ → Result ℕ NoExtent) (k : (t : ℕ) → Stays (λ s. v s t)) (h : (t : ℕ) (s : List ℕ) (p : ℕ) → Settled (λ s. v s t) s p) where
  series_settled : (s : List ℕ) (p : ℕ) → Settled (λ s. series s (v s)) s p
  unfolding series
  series_settled s p =
      then_settled (λ s p. upto s p 3) (λ s. times (v s (get_or s p 0)) (count 2 s (p + 1))) s p (upto_stays 3) (upto_settled 3 s p)
      (λ b q e.
      let u = upto_end (s ++ b) p 3 q e in
      let i = times_settled (λ l. v l (get_or (s ++ b) p 0)) (k (get_or (s ++ b) p 0)) (h (get_or (s ++ b) p 0)) (count 2 (s ++ b) (p + 1)) (s ++ b) q in
      (i.0, rw (byte_same (s ++ b) i.0 p (omega arith), count_same (s ++ b) i.0 (p + 1) 2 (omega arith)) i.1))

  member_stays : Stays (λ s. member s (v s))
  member_stays s b p = rw zero-add at (member_follows 0 s (s ++ b) (Keeps 0) (keeping 0 s (s ++ b) (before_more s b)) (v s) (v (s ++ b)) (λ t p. rw zero-add (k t s b p)) p)

  member_settled : (s : List ℕ) (p : ℕ) → Settled (λ s. member s (v s)) s p
  unfolding member
  member_settled s p =
      then_settled (λ s p. upto s p 1) (λ s. v s (get_or s p 0)) s p (upto_stays 1) (upto_settled 1 s p)
      (λ b q e.
      let u = upto_end (s ++ b) p 1 q e in
      let i = h (get_or (s ++ b) p 0) (s ++ b) q in
      (i.0, rw (byte_same (s ++ b) i.0 p (omega arith)) i.1))

  structure_settled : (s : List ℕ) (p : ℕ) → Settled (λ s. structure s (v s)) s p
  unfolding structure
  structure_settled s p =
      then_settled (λ s p. upto s p 2) (λ s. times (member s (v s)) (count 2 s p)) s p (upto_stays 2) (upto_settled 2 s p)
      (λ b q e.
      let u = upto_end (s ++ b) p 2 q e in
      let i = times_settled (λ s. member s (v s)) member_stays member_settled (count 2 (s ++ b) p) (s ++ b) q in
      (i.0, rw (count_same (s ++ b) i.0 p 2 u.0) i.1))

shape_settled : (f : Shape) (a b : List ℕ → ℕ → Result ℕ NoExtent) (s : List ℕ) (p : ℕ) → Settled a s p → Settled b s p → Settled (λ s p. by_shape s p f (a s p) (b s p)) s p
unfolding by_shape
shape_settled (Fixed n) a b s p ha hb = upto_settled n s p
shape_settled Text a b s p ha hb = text_settled 1 s p
shape_settled LongText a b s p ha hb = text_settled 2 s p
shape_settled Series a b s p ha hb = ha
shape_settled Structure a b s p ha hb = hb
shape_settled Unknown a b s p ha hb = ([], tt)

value_settled : (d t : ℕ) (s : List ℕ) (p : ℕ) → Settled (λ s. value_at d s t) s p
unfolding value_at
value_settled zero t s p = shape_settled (shape_of t) (λ _ _. (Err Without)) (λ _ _. (Err Without)) s p ([], tt) ([], tt)
value_settled (suc d) t s p =
    shape_settled (shape_of t) (λ s. series s (value_at d s)) (λ s. structure s (value_at d s)) s p
    (series_settled (λ s. value_at d s) (λ t s b p. behind_keeps d s b t p) (λ t s p. value_settled d t s p) s p)
    (structure_settled (λ s. value_at d s) (λ t s b p. behind_keeps d s b t p) (λ t s p. value_settled d t s p) s p)

no_without : {A : Type 0} → ◌≡◌ {A = Result ℕ NoExtent} (Err Cut) (Err Without) → A
no_without h = let z : ◌≡◌ {A = ℕ} 0 1 = cc in absurd (omega arith)

-- THE LAW: some bytes behind any slice settle any value
pub extent_settled : ExtentSettled
extent_settled s p t = value_settled 15 t s p

-- and a value that is cut with more bytes was cut without them
pub cut_before : (a b : List ℕ) (p t : ℕ) → extent_of (a ++ b) p t ≡ Err Cut → extent_of a p t ≡ Err Cut
cut_before a b p t c = go (extent_of a p t) refl
  where
    go : (x : Result ℕ NoExtent) → extent_of a p t ≡ x → x ≡ Err Cut
    go (Ok e) h = no_cut e (sym c ∙ extent_stable a b p t e h)
    go (Err Cut) h = refl
    go (Err Without) h = no_without (sym c ∙ without_stable a b p t h)
