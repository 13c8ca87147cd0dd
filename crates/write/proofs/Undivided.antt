-- The two passes of an undivided write: from what the inner functions say to the definition. Assumes nothing.
use Rattle.std.specs.Prelude.{Err, Ok, Option, Result, Some}
use mathlib.Core.Path.{◌≡◌, sym, ap, ◌∙◌, subst}
use mathlib.Core.Bool.{Bool, true, false, cond}
use mathlib.Core.List.{List, [], ◌∷◌, ◌++◌}
use Prim.Native.Nat.{ℕ}
use native.Mathlib.Omega.{arith}
use lib.ListN.{length}
use borrow.Author.Tests.{eqb-true, eqb-false}
use Rattle.types.specs.Number.{zeros}
use Rattle.frame.specs.declared.header.ZclHeader.{ZclHeader}
use Rattle.frame.specs.declared.answer.Refusal.{Refusal}
use Rattle.frame.specs.declared.command_identifier.CommandIdentifier.TheVariants.{WriteAttributesResponse}
use Rattle.frame.specs.declared.failures.Unfinished.{Unfinished}
use Rattle.frame.specs.Header.{reply_head}
use Rattle.frame.specs.Inside.Buffer.{putting, put, Shows}
use Rattle.frame.specs.Answer.{no_state, seen}
use Rattle.frame.specs.Walk.{Way, through}
use Rattle.frame.specs.Encoded.{encode_all, fits}
use Rattle.frame.specs.Failures.{Sofar, sofar, pass, concluded, headed}
use Rattle.frame.specs.Inside.Failures.{concluded_at}
use Rattle.frame.specs.Inside.Passes.{Listed, Passes, Passed}
use Rattle.frame.proofs.Listings.{none_listed, head_ends, concludes}
use Rattle.frame.proofs.Passes.{headed_in}
use Rattle.write.specs.Request.{records}
use Rattle.write.specs.Reply.{Failure, encode}
use Rattle.write.specs.Write.{checking, written_all, settled, write_undivided}
use Rattle.write.specs.Inside.{is_clean}
use Rattle.write.proofs.Turns.{some}

-- ---- what the first pass leads to

module _ (writes : List ℕ → List ℕ) (start : ℕ) (head : List ℕ) (way : Way (Sofar (List ℕ) Failure)) (s d : List ℕ) (k : start ≡ length head) where
  -- no failure: the records are written
  clean_by : (out : ℕ) (fs : List Failure) → way ≡ through (sofar s fs) → Shows d out (head ++ encode_all encode fs) → fs ≡ []
      → Listed encode (settled writes way) head out (writes s) d
  clean_by out fs w h z = record {
    failures = [];
    is = ap (settled writes) (w ∙ ap (λ (l : List Failure). through (sofar s l)) z);
    shows = subst (λ (l : List Failure). Shows d out (head ++ encode_all encode l)) z h;
  }

  -- some: they are not
  listed_by : (out : ℕ) → (out ≡ start → ⊥) → (fs : List Failure) → way ≡ through (sofar s fs) → Shows d out (head ++ encode_all encode fs)
      → Listed encode (settled writes way) head out s d
  listed_by out n [] w h = absurd (n (head_ends encode some d start out head k h))
  listed_by out n (f ∷ fs) w h = record { failures = f ∷ fs; is = ap (settled writes) w; shows = h }

  never : {A : Type 0} → false ≡ true → A
  never e = let y : ◌≡◌ {A = ℕ} 0 1 = cc in absurd (omega arith)

  settled_passes : (first : Result ℕ Unfinished) → Passes encode way head first s d → (b : Bool) → is_clean first start ≡ b → Passes encode (settled writes way) head first (cond b (writes s) s) d
  settled_passes (Ok out) w true e =
      clean_by out w.failures w.is w.shows (none_listed encode some d start out head k w.failures w.shows (eqb-true out start e))
  settled_passes (Ok out) w false e = listed_by out (eqb-false out start e) w.failures w.is w.shows
  settled_passes (Err Unfinished.Cut) w true e = never e
  settled_passes (Err Unfinished.Cut) w false e = record { failures = w.failures; is = ap (settled writes) w.is }
  settled_passes (Err Unfinished.Full) w true e = never e
  settled_passes (Err Unfinished.Full) w false e = record { last = w.last; failures = w.failures; is = ap (settled writes) w.is }

-- ---- the whole command, behind its header and the first pass

module _ (request : ZclHeader) (s : List ℕ) (room : ℕ) (r : Option ℕ) (after : List ℕ) (p : putting r after ≡ put (zeros room) 0 (reply_head request WriteAttributesResponse)) (body : List ℕ)
    (start : ℕ) (e : r ≡ Some start) (first : Result ℕ Unfinished) (t d : List ℕ) (w : Passed (checking 8 request) (records body) start s after first t d) (l : length d ≡ length after)
    (clean : Bool) (c : clean ≡ is_clean first start) (u : List ℕ) (z : u ≡ cond clean (written_all 8 request body t) t) where
  abbrev way : List ℕ → Way (Sofar (List ℕ) Failure)
  way h = pass (checking 8 request) (fits encode room (length h)) (records body) s

  abbrev leads : List ℕ → Way (Sofar (List ℕ) Failure)
  leads h = settled (written_all 8 request body) (way h)

  abbrev head : List ℕ
  head = reply_head request WriteAttributesResponse

  begun : (Shows after start head × (length after ≡ room)) × (concluded encode room head (leads head) ≡ headed request WriteAttributesResponse s room (λ h. concluded encode room h (leads h)))
  begun = headed_in request WriteAttributesResponse s room r after p (λ h. concluded encode room h (leads h)) start e

  passes : Passes encode (way head) head first t d
  passes = subst (λ (n : ℕ). Passes encode (pass (checking 8 request) (fits encode n (length head)) (records body) s) head first t d) begun.0.1 (w head begun.0.0)

  led : Passes encode (leads head) head first u d
  led = subst (λ (x : List ℕ). Passes encode (leads head) head first x d) (sym z) (settled_passes (written_all 8 request body) start head (way head) t d begun.0.0.place first passes clean (sym c))

  pub undivided_run : (x : Result ℕ Refusal) (d2 : List ℕ) → seen x d2 no_state ≡ concluded_at d start first → seen x d2 u ≡ write_undivided 8 s request body room
  unfolding write_undivided
  undivided_run x d2 q =
      concludes encode some d start first x d2 q head (leads head) u begun.0.0.place led
      ∙ ap (λ (n : ℕ). concluded encode n head (leads head)) (l ∙ begun.0.1)
      ∙ begun.1
