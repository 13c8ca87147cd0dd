-- A pass in which a record's status is the same at every moment: its failures are those of the records, each by itself (specs/Claims/Failing.antt). Assumes nothing.
use mathlib.Core.Path.{◌≡◌, refl, sym, ap, ◌∙◌}
use mathlib.Core.Bool.{Bool, true, false, cond}
use mathlib.Core.List.{List, [], ◌∷◌, ◌++◌, append_assoc, append-nil}
use Prim.Native.Nat.{ℕ, ◌+◌}
use native.Mathlib.Omega.{arith}
use lib.ListN.{length, length-append}
use lib.Dec.{eqb}
use borrow.Author.Tests.{le-leb}
use Rattle.frame.specs.declared.status.Status.{Status}
use Rattle.frame.specs.Status.{status_code}
use Rattle.frame.specs.Walk.{Ending, done, cut, Way, through, broken, stopped, walk, reached, All}
use Rattle.frame.specs.Encoded.{encode_all, fits}
use Rattle.frame.specs.Failures.{Doing, Sofar, sofar, also, done_with}
use Rattle.frame.specs.Claims.Failing.{failing_by}
use Rattle.frame.proofs.Encoded.{encode_all_append, fits_within}
use Rattle.frame.proofs.States.{folded}

-- a test that fewer failures pass, too
abbrev pub Closed : {F : Type 0} → (List F → Bool) → Type 0
Closed {F} fine = (a b : List F) → fine (a ++ b) ≡ true → fine a ≡ true

pub fits_closed : {F : Type 0} (bytes : F → List ℕ) (room head : ℕ) → Closed (fits bytes room head)
unfolding fits
fits_closed bytes room head a b e =
    let k = fits_within bytes room head (a ++ b) e in
    le-leb (head + length (encode_all bytes a)) room (omega (arith, k, ap length (encode_all_append bytes a b), length-append (encode_all bytes a) (encode_all bytes b)))

-- where a walk that took every record ends
abbrev pub over : {S : Type 0} → Ending → S → Way S
over done x = through x
over cut x = broken x

pub record Halts {S : Type 0} (w : Way S) : Type 0 where
  pub before : S
  pub after : S
  pub is : w ≡ stopped before after

-- the failures of records and then of others
pub failing_append : {R F : Type 0} (status : R → Status) (fails : Status → R → F) (a b : List R) → failing_by status fails (a ++ b) ≡ failing_by status fails a ++ failing_by status fails b
unfolding failing_by
failing_append status fails [] b = refl
failing_append {F = F} status fails (r ∷ a) b = go (eqb (status_code (status r)) 0) (failing_append status fails a b)
  where
    f : F
    f = fails (status r) r

    go : (c : Bool) → failing_by status fails (a ++ b) ≡ failing_by status fails a ++ failing_by status fails b
        → cond c (failing_by status fails (a ++ b)) (f ∷ failing_by status fails (a ++ b)) ≡ cond c (failing_by status fails a) (f ∷ failing_by status fails a) ++ failing_by status fails b
    go true e = e
    go false e = ap (λ (l : List F). f ∷ l) e

-- the records that a walk takes, with these failures before them: the one at which it stops too
abbrev pub takes : {R F : Type 0} → (R → Status) → (Status → R → F) → (List F → Bool) → List F → List R → List R
takes status fails fine l [] = []
takes status fails fine l (r ∷ rs) = r ∷ cond (fine (also l (status r) (fails (status r) r))) (takes status fails fine (also l (status r) (fails (status r) r)) rs) []

-- one failure more
module _ {R F : Type 0} (status : R → Status) (fails : Status → R → F) (l : List F) (r : R) (rs : List R) where
  pub also_failing : also l (status r) (fails (status r) r) ++ failing_by status fails rs ≡ l ++ failing_by status fails (r ∷ rs)
  unfolding failing_by
  also_failing = go (eqb (status_code (status r)) 0)
    where
      f : F
      f = fails (status r) r

      rest : List F
      rest = failing_by status fails rs

      go : (b : Bool) → cond b l (l ++ (f ∷ [])) ++ rest ≡ l ++ cond b rest (f ∷ rest)
      go true = refl
      go false = append_assoc l (f ∷ []) rest

module _ {S R F : Type 0} (doing : Doing S R F) (P : S → Type 0) (Q : R → Type 0) (status : R → Status) (same : (s : S) (r : R) → P s → Q r → (doing.does s r).status ≡ status r)
    (keep : (s : S) (r : R) → P s → Q r → P (doing.does s r).state) (fine : List F → Bool) (closed : Closed fine) where
  abbrev goes : Sofar S F → Ending → List R → Way (Sofar S F)
  goes x e rs = walk (done_with doing) (λ y. fine y.failures) x e rs

  abbrev failing : List R → List F
  failing rs = failing_by status doing.fails rs

  abbrev with : List F → R → List F
  with l r = also l (status r) (doing.fails (status r) r)

  turned : (s : S) (l : List F) (r : R) → P s → Q r → done_with doing (sofar s l) r ≡ sofar (doing.does s r).state (with l r)
  unfolding done_with
  turned s l r p q = ap (λ (w : Status). sofar (doing.does s r).state (also l w (doing.fails w r))) (same s r p q)

  -- a record is taken, or the walk stops at it
  turn : (e : Ending) (r : R) (rs : List R) (s : S) (l : List F) → P s → Q r → (b : Bool) → fine (with l r) ≡ b
      → goes (sofar s l) e (r ∷ rs) ≡ cond b (goes (sofar (doing.does s r).state (with l r)) e rs) (stopped (sofar s l) (sofar (doing.does s r).state (with l r)))
  unfolding walk
  turn e r rs s l p q b k =
      let t : S = (doing.does s r).state in
      ap (λ (x : Sofar S F). cond (fine x.failures) (goes x e rs) (stopped (sofar s l) x)) (turned s l r p q)
      ∙ ap (λ (c : Bool). cond c (goes (sofar t (with l r)) e rs) (stopped (sofar s l) (sofar t (with l r)))) k

  -- they fit, all of them: every record is taken
  pub all-fit : (e : Ending) (rs : List R) (s : S) (l : List F) → P s → All Q rs → fine (l ++ failing rs) ≡ true → goes (sofar s l) e rs ≡ over e (sofar (folded doing s rs) (l ++ failing rs))
  unfolding walk failing_by
  all-fit done [] s l p q f = ap (λ (k : List F). through (sofar s k)) (sym (append-nil l))
  all-fit cut [] s l p q f = ap (λ (k : List F). broken (sofar s k)) (sym (append-nil l))
  all-fit e (r ∷ rs) s l p q f =
      let m : with l r ++ failing rs ≡ l ++ failing (r ∷ rs) = also_failing status doing.fails l r rs in
      let k : fine (with l r ++ failing rs) ≡ true = ap fine m ∙ f in
      turn e r rs s l p q.0 true (closed (with l r) (failing rs) k)
      ∙ all-fit e rs (doing.does s r).state (with l r) (keep s r p q.0) q.1 k
      ∙ ap (λ (y : List F). over e (sofar (folded doing (doing.does s r).state rs) y)) m

  never : {A : Type 0} → true ≡ false → A
  never e = let z : ◌≡◌ {A = ℕ} 0 1 = cc in absurd (omega arith)

  -- they do not: the walk stops
  pub some_halts : (e : Ending) (rs : List R) (s : S) (l : List F) → P s → All Q rs → fine l ≡ true → fine (l ++ failing rs) ≡ false → Halts (goes (sofar s l) e rs)
  unfolding failing_by
  some_halts e [] s l p q f g = never (sym f ∙ ap fine (sym (append-nil l)) ∙ g)
  some_halts e (r ∷ rs) s l p q f g =
      go (fine (with l r)) refl
      (λ k. some_halts e rs (doing.does s r).state (with l r) (keep s r p q.0) q.1 k (ap fine (also_failing status doing.fails l r rs) ∙ g))
    where
      go : (b : Bool) → fine (with l r) ≡ b → (fine (with l r) ≡ true → Halts (goes (sofar (doing.does s r).state (with l r)) e rs)) → Halts (goes (sofar s l) e (r ∷ rs))
      go true k rec = let h = rec k in record { before = h.before; after = h.after; is = turn e r rs s l p q.0 true k ∙ h.is }
      go false k rec = record { before = sofar s l; after = sofar (doing.does s r).state (with l r); is = turn e r rs s l p q.0 false k }

  -- either way the state is what the records leave that it takes
  pub taken_leave : (e : Ending) (rs : List R) (s : S) (l : List F) → P s → All Q rs → (reached (goes (sofar s l) e rs)).state ≡ folded doing s (takes status doing.fails fine l rs)
  unfolding walk
  taken_leave done [] s l p q = refl
  taken_leave cut [] s l p q = refl
  taken_leave e (r ∷ rs) s l p q = go (fine (with l r)) refl (taken_leave e rs (doing.does s r).state (with l r) (keep s r p q.0) q.1)
    where
      go : (b : Bool) → fine (with l r) ≡ b
          → (reached (goes (sofar (doing.does s r).state (with l r)) e rs)).state ≡ folded doing (doing.does s r).state (takes status doing.fails fine (with l r) rs)
          → (reached (goes (sofar s l) e (r ∷ rs))).state ≡ folded doing (doing.does s r).state (cond b (takes status doing.fails fine (with l r) rs) [])
      go true k rec = ap (λ (w : Way (Sofar S F)). (reached w).state) (turn e r rs s l p q.0 true k) ∙ rec
      go false k rec = ap (λ (w : Way (Sofar S F)). (reached w).state) (turn e r rs s l p q.0 false k)
