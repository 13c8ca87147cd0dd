-- What every answer leaves: a refusal leaves the reply buffer all zeros, and 1, 2, 3, 7 and 8 leave store and table as they were; the
-- buffer is always the reply and zeros, of the length it had. Assumes nothing.
use mathlib.Core.Path.{◌≡◌, refl, sym, ap, ◌∙◌, subst}
use mathlib.Core.Bool.{Bool}
use mathlib.Core.List.{List, [], ◌++◌}
use Prim.Native.Nat.{ℕ}
use native.Mathlib.Omega.{arith}
use Rattle.frame.specs.declared.answer.Refusal.{Refusal}
use Rattle.frame.specs.Answer.{refusal_number, Outcome, refused}
use Rattle.frame.proofs.Codes.{refusal_same, refusal_nonzero}
use Rattle.reporting.specs.Table.{Table}
use Rattle.server.specs.Serve.{State, state, serve}
use Rattle.server.specs.Claims.Left.{Early, RefusalClears, ReplyThenZeros, ReplyLength, Untouched}
use Rattle.server.proofs.Cases.{Own, apart, serve_case}
use Rattle.server.proofs.Shapes.{Shape, replies, refuses, commanded_shape}
use Rattle.server.proofs.Says.{Says, sends, declines, says_clears, says_zeros, says_long}

-- THE WAYS of a request: refused before any command, with store and table as they came; or as a command's outcome is
pub data Ways (room : ℕ) (s : List ℕ) (t : Table) (o : Outcome State) : Type 0 where
  first : (why : Refusal) → Early why → o ≡ refused room why (state s t) → Ways room s t o
  then : (head : List ℕ) → Shape head room o → Ways room s t o

pub serve_ways : (form limit : ℕ) (s : List ℕ) (unicast : Bool) (room cluster : ℕ) (frame : List ℕ) (t : Table) → Ways room s t (serve form limit s t cluster unicast frame room)
serve_ways form limit s unicast room =
    serve_case form limit s unicast room (Ways room s) (λ t why e. first why e refl) (λ l h body c. then _ (commanded_shape form limit s l unicast h body room c))

-- ---- what each way leaves

abbrev number : Outcome State → ℕ
number o = o.number

module _ (room : ℕ) (s : List ℕ) (t : Table) (o : Outcome State) where
  -- as any call, it replies or refuses
  says : Ways room s t o → Says [] room o
  says (first why h e) = declines why (e ∙ ap (refused room why) (sym (ap (λ (x : Outcome State). x.state) e)))
  says (then head (replies rest h e)) = sends (head ++ rest) h e
  says (then head (refuses why h e)) = declines why e

  -- 1, 2, 3, 7 and 8 leave store and table as they were
  as_it_was : Ways room s t o → (why : Refusal) → Early why → o.number ≡ refusal_number why → o.state ≡ state s t
  as_it_was (first v h e) why w k = ap (λ (x : Outcome State). x.state) e
  as_it_was (then head (replies rest h e)) why w k = absurd (omega (arith, refusal_nonzero why, ap number e, k))
  as_it_was (then head (refuses v h e)) why w k = absurd (apart why w (subst Own (refusal_same v why (sym (ap number e) ∙ k)) h))

-- ---- THE LAWS, for every request

request-says : (form limit : ℕ) (s : List ℕ) (t : Table) (cluster : ℕ) (unicast : Bool) (frame : List ℕ) (room : ℕ) → Says [] room (serve form limit s t cluster unicast frame room)
request-says form limit s t cluster unicast frame room = says room s t _ (serve_ways form limit s unicast room cluster frame t)

pub refusal_clears : RefusalClears
refusal_clears form limit s t cluster unicast frame room = says_clears [] room _ (request-says form limit s t cluster unicast frame room)

pub reply_then_zeros : ReplyThenZeros
reply_then_zeros form limit s t cluster unicast frame room = says_zeros [] room _ (request-says form limit s t cluster unicast frame room)

pub reply_length : ReplyLength
reply_length form limit s t cluster unicast frame room = says_long [] room _ (request-says form limit s t cluster unicast frame room)

pub untouched : Untouched
untouched form limit s t cluster unicast frame room = as_it_was room s t _ (serve_ways form limit s unicast room cluster frame t)
