-- A pass over the records: those behind it and those ahead are all. Assumes nothing.
use Rattle.std.specs.Prelude.{slice_get, Option, None, Some, Err, Ok, Result}
use mathlib.Core.Path.{◌≡◌, refl, sym, ap, ◌∙◌}
use mathlib.Core.List.{List, [], ◌∷◌, ◌++◌, append_assoc, append-nil}
use Prim.Native.Nat.{ℕ, zero, suc, ◌+◌, ◌-◌, ◌≤◌, ◌<◌}
use native.Mathlib.Omega.{arith}
use lib.Seq.{take_all}
use lib.ListN.{length, take, drop, length-append, length-drop}
use Rattle.frame.specs.declared.answer.Refusal.{Refusal}
use Rattle.readers.specs.declared.pass.Span.{Span}
use Rattle.readers.specs.Reading.{mapped, span, spans_from}
use Rattle.readers.specs.Inside.{swept}
use Rattle.readers.proofs.Spans.{Advancing, spans_done, spans_stop, spans_step}

abbrev pub behind : List Span → Result (List Span) Refusal → Result (List Span) Refusal
behind xs y = mapped (λ ys. xs ++ ys) y

behind_none : (y : Result (List Span) Refusal) → y ≡ behind [] y
behind_none (Ok ys) = refl
behind_none (Err why) = refl

behind_more : (xs : List Span) (x : Span) (y : Result (List Span) Refusal) → behind xs (mapped (λ ys. x ∷ ys) y) ≡ behind (xs ++ (x ∷ [])) y
behind_more xs x (Ok ys) = ap (λ zs. Ok zs) (sym (append_assoc xs (x ∷ []) ys))
behind_more xs x (Err why) = refl

-- an element of a list to which one was added
at_last : {A : Type 0} (l : List A) (x : A) (k : ℕ) → length l ≡ k → slice_get (l ++ (x ∷ [])) k ≡ Some x
at_last [] x zero e = refl
at_last [] x (suc k) e = absurd (omega arith)
at_last (y ∷ l) x zero e = absurd (omega arith)
at_last (y ∷ l) x (suc k) e = at_last l x k (omega arith)

at_other : {A : Type 0} (l : List A) (x : A) (k : ℕ) → (length l ≡ k → ⊥) → slice_get (l ++ (x ∷ [])) k ≡ slice_get l k
at_other [] x zero h = absurd (h refl)
at_other [] x (suc k) h = refl
at_other (y ∷ l) x zero h = refl
at_other (y ∷ l) x (suc k) h = at_other l x k (λ e. h (omega arith))

module _ (one : List ℕ → Result ℕ Refusal) (f : List ℕ) (k from : ℕ) where
  -- so many records lie before here, and record k lies there, if it is one of them
  pub record Passed (here count : ℕ) (kth : Option Span) : Type 0 where
    pub before : List Span
    pub same : spans_from one f from ≡ behind before (spans_from one f here)
    pub counts : length before ≡ count
    pub there : slice_get before k ≡ kth
    pub few : count ≤ here

  pub passed_none : Passed from 0 None
  passed_none = record { before = []; same = behind_none (spans_from one f from); counts = refl; there = refl; few = omega arith }

  module _ (here count : ℕ) (kth : Option Span) (x : Passed here count kth) where
    pub passed_all : length f ≤ here → Ok (record { count = count; kth = kth }) ≡ swept k (spans_from one f from)
    passed_all h =
        let all : spans_from one f from ≡ Ok x.before = x.same ∙ ap (behind x.before) (spans_done one f here h) ∙ ap Ok (append-nil x.before) in
        (λ i. Ok (record { count = sym x.counts i; kth = sym x.there i })) ∙ ap (swept k) (sym all)

    -- the length of what begins here, as it is lent
    module _ (y : Result ℕ Refusal) (g : y ≡ one (take (length f - here) (drop here f))) (h : here < length f) where
      length_is : y ≡ one (drop here f)
      length_is = g ∙ ap one (take_all (length f - here) (drop here f) (omega (arith, length-drop here f)))

      pub passed_refused : (why : Refusal) → y ≡ Err why → Err why ≡ swept k (spans_from one f from)
      passed_refused why e = ap (swept k) (sym (x.same ∙ ap (behind x.before) (spans_stop one f here why h (sym length_is ∙ e))))

      module _ (a : Advancing one) (n : ℕ) (e : y ≡ Ok n) where
        pub passed_ahead : (0 < n) × (here + n ≤ length f)
        passed_ahead =
            let u = a (drop here f) n (sym length_is ∙ e) in
            let v : length (drop here f) ≡ length f - here = length-drop here f in
            (u.0, omega (arith, u.1, v))

        step_same : spans_from one f from ≡ behind (x.before ++ (span here n ∷ [])) (spans_from one f (here + n))
        step_same =
            x.same
            ∙ ap (behind x.before) (spans_step one f a here n h (sym length_is ∙ e))
            ∙ behind_more x.before (span here n) (spans_from one f (here + n))

        one_more : (o : Option Span) → slice_get (x.before ++ (span here n ∷ [])) k ≡ o → Passed (here + n) (count + 1) o
        one_more o there =
            record {
              before = x.before ++ (span here n ∷ []);
              same = step_same;
              counts = length-append x.before (span here n ∷ []) ∙ ap (λ (m : ℕ). m + 1) x.counts;
              there = there;
              few = omega (arith, x.few, passed_ahead.0);
            }

        -- this record is record k
        pub passed_here : (o : Option Span) → count ≡ k → o ≡ Some (span here n) → Passed (here + n) (count + 1) o
        passed_here o c u = one_more o (at_last x.before (span here n) k (x.counts ∙ c) ∙ sym u)

        -- it is not
        pub passed_on : (o : Option Span) → (count ≡ k → ⊥) → o ≡ kth → Passed (here + n) (count + 1) o
        passed_on o c u = one_more o (at_other x.before (span here n) k (λ e. c (sym x.counts ∙ e)) ∙ x.there ∙ sym u)
