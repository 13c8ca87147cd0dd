-- Laws of the count over a list (`specs/Tally.antt`). Assumes nothing.
use Rattle.std.specs.Prelude.{None, Option, Some}
use mathlib.Core.Path.{◌≡◌, refl, sym, ap, ◌∙◌}
use mathlib.Core.Bool.{Bool, true, false, cond}
use mathlib.Core.List.{List, [], ◌∷◌}
use Prim.Native.Nat.{ℕ, zero, suc, ◌+◌, ◌≤◌}
use native.Mathlib.Omega.{arith}
use lib.ListN.{length, get_or, replicate}
use lib.Seq.{get_or-set_same, get_or-set_other, set_out}
use lib.Dec.{ltb, eqb, eqb-suc-zero}
use borrow.Author.Tests.{ltb-true, ltb-false, eqb-true, eqb-false}
use Rattle.replay.specs.Line.{onto, split, newline}
use Rattle.replay.specs.Verdict.{judged}
use Rattle.replay.specs.Tally.{row_of, raise, start, counted, nothing, closed, turn, tally_from, tally_of}
use Rattle.replay.specs.Inside.{AtMost, cut}
use Rattle.replay.specs.declared.verdict.Verdict.{Verdict}
use Rattle.replay.specs.declared.verdict.Verdict.TheVariants.{Case, Last}
use Rattle.replay.specs.declared.tally.Tally.{Tally}
use Rattle.replay.proofs.Words.{cut_less, split_whole, split_next, split_some, Word}

-- ---- bounds

pub at_most_none : (n : ℕ) → AtMost 0 (replicate n 0)
at_most_none zero k = omega arith
at_most_none (suc n) zero = omega arith
at_most_none (suc n) (suc k) = at_most_none n k

pub at_most_more : (counts : List ℕ) (n letter : ℕ) → AtMost n counts → AtMost (n + 1) (raise counts letter)
at_most_more counts n letter h k = go (eqb k (row_of letter)) refl (ltb (row_of letter) (length counts)) refl
  where
    go : (b : Bool) → eqb k (row_of letter) ≡ b → (x : Bool) → ltb (row_of letter) (length counts) ≡ x → get_or (raise counts letter) k 0 ≤ n + 1
    go true e true l =
        let f = eqb-true k (row_of letter) e in
        let s = get_or-set_same counts (row_of letter) (get_or counts (row_of letter) 0 + 1) 0 (ltb-true _ _ l) in
        let a = h (row_of letter) in
        rw f (omega (arith, s, a))
    go true e false l =
        let s = ap (λ (c : List ℕ). get_or c k 0) (set_out counts (row_of letter) (get_or counts (row_of letter) 0 + 1) (ltb-false _ _ l)) in
        let a = h k in
        omega (arith, s, a)
    go false e x l =
        let s = get_or-set_other counts (row_of letter) k (get_or counts (row_of letter) 0 + 1) 0 (eqb-false k (row_of letter) e) in
        let a = h k in
        omega (arith, s, a)

pub at_most_one : (counts : List ℕ) (n : ℕ) → AtMost n counts → AtMost (n + 1) counts
at_most_one counts n h k = let a = h k in omega (arith, a)

pub at_most_if : (b : Bool) (counts : List ℕ) (n letter : ℕ) → AtMost n counts → AtMost (n + 1) (cond b (raise counts letter) counts)
at_most_if true counts n letter h = at_most_more counts n letter h
at_most_if false counts n letter h = at_most_one counts n h

-- ---- the list

-- nothing stands behind the last newline
pub nothing_is : (s : List ℕ) → eqb (length s) 0 ≡ nothing (split newline s)
unfolding split
nothing_is [] = refl
nothing_is (b ∷ s) = eqb-suc-zero (length s) ∙ go (eqb b newline) (split_some newline s)
  where
    none : (ws : List (List ℕ)) → Word ws → false ≡ nothing ([] ∷ ws)
    none [] w = let z : ◌≡◌ {A = ℕ} 0 1 = cc w.is in absurd (omega arith)
    none (x ∷ ws) w = refl

    longer : (ws : List (List ℕ)) → false ≡ nothing (onto b ws)
    longer [] = refl
    longer (x ∷ ws) = refl

    go : (e : Bool) → Word (split newline s) → false ≡ nothing (cond e ([] ∷ split newline s) (onto b (split newline s)))
    go true w = none (split newline s) w
    go false w = longer (split newline s)

-- so far it was counted: what is left of the list, counted on, is the whole
pub record Counting (list : List ℕ) (t : Tally) (left : List ℕ) : Type 0 where
  pub is : tally_from t (split newline left) ≡ tally_of list
  pub agree : AtMost t.lines t.agree
  pub all : AtMost t.lines t.of
  pub few : t.lines + length left ≤ length list

pub counting_first : (list : List ℕ) → Counting list start list
counting_first list = record { is = refl; agree = at_most_none 32; all = at_most_none 32; few = omega arith }

tally_turn : (t : Tally) (line : List ℕ) (ws : List (List ℕ)) → Word ws → tally_from t (line ∷ ws) ≡ turn t (judged line) ws (λ u. tally_from u ws)
unfolding tally_from
tally_turn t line [] w = let z : ◌≡◌ {A = ℕ} 0 1 = cc w.is in absurd (omega arith)
tally_turn t line (x ∷ ws) w = refl

module _ (list : List ℕ) (t : Tally) (left : List ℕ) (g : Counting list t left) where
  -- no line ends
  pub counting_cut : cut newline left ≡ None → t ≡ tally_of list
  unfolding tally_from
  counting_cut h = ap (tally_from t) (split_whole newline left h) ∙ g.is

  module _ (line after : List ℕ) (e : cut newline left ≡ Some (line, after)) (v : Option Verdict) (ev : v ≡ judged line) where
    -- what is said of the line decides what is to be counted
    turned : (w : Option Verdict) → v ≡ w → turn t w (split newline after) (λ u. tally_from u (split newline after)) ≡ tally_of list
    turned w h =
        ap (λ (x : Option Verdict). turn t x (split newline after) (λ u. tally_from u (split newline after))) (sym h ∙ ev)
        ∙ sym (tally_turn t line (split newline after) (split_some newline after))
        ∙ ap (tally_from t) (split_next newline left line after e)
        ∙ g.is

    pub counting_bad : v ≡ None → t ≡ tally_of list
    counting_bad h = turned None h

    pub counting_last : (count : ℕ) → v ≡ Some (Last count) → closed t count (split newline after) ≡ tally_of list
    counting_last count h = turned (Some (Last count)) h

    pub counting_more : (letter : ℕ) (agrees : Bool) → v ≡ Some (Case letter agrees) → Counting list (counted t letter agrees) after
    unfolding counted
    counting_more letter agrees h =
        record {
          is = turned (Some (Case letter agrees)) h;
          agree = at_most_if agrees t.agree t.lines letter g.agree;
          all = at_most_more t.of t.lines letter g.all;
          few = omega (arith, cut_less newline left line after e, g.few);
        }
