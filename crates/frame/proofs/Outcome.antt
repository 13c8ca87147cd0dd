-- Laws of outcomes: what a caller sees of a call tells which answer, buffer and state it was. Assumes nothing.
use Rattle.std.specs.Prelude.{Err, Ok, Option, Result}
use mathlib.Core.Path.{◌≡◌, sym, ap, ◌∙◌}
use mathlib.Core.List.{List}
use Prim.Native.Nat.{ℕ}
use native.Mathlib.Omega.{arith}
use lib.ListN.{length}
use Rattle.types.specs.Number.{zeros}
use Rattle.frame.specs.Reply.{padded}
use Rattle.frame.specs.Inside.Buffer.{Putting, putting, Shows}
use Rattle.frame.specs.Answer.{answer_number, answer_length, Outcome, no_state, within, seen, replied, refused}
use Rattle.frame.specs.declared.answer.Refusal.{Refusal}
use Rattle.frame.proofs.Codes.{refusal_same, refusal_nonzero}

-- an answer is told by its number and length
pub answer_same : (a b : Result ℕ Refusal) → answer_number a ≡ answer_number b → answer_length a ≡ answer_length b → a ≡ b
answer_same (Ok m) (Ok n) e f = ap Ok f
answer_same (Ok m) (Err w) e f = absurd (omega (arith, refusal_nonzero w))
answer_same (Err v) (Ok n) e f = absurd (omega (arith, refusal_nonzero v))
answer_same (Err v) (Err w) e f = ap Err (refusal_same v w e)

module _ {S : Type 0} where
  -- one outcome is of one answer, one buffer and one state
  pub seen_same : (a b : Result ℕ Refusal) (d e : List ℕ) (s t : S) → seen a d s ≡ seen b e t → (a ≡ b) × ((d ≡ e) × (s ≡ t))
  seen_same a b d e s t p =
      let same = answer_same a b (ap (λ (o : Outcome S). o.number) p) (ap (λ (o : Outcome S). o.size) p) in
      (same, (ap (λ (o : Outcome S). o.reply) p, ap (λ (o : Outcome S). o.state) p))

  -- where a definition gives the outcome there is only one call's end that meets it
  pub only_one : (o : Outcome S) (a b : Result ℕ Refusal) (d e : List ℕ) (s t : S) → seen a d s ≡ o → seen b e t ≡ o → (a ≡ b) × ((d ≡ e) × (s ≡ t))
  only_one o a b d e s t p q = seen_same a b d e s t (p ∙ sym q)

  -- a buffer that shows a reply is that reply's outcome
  pub seen_reply : (room : ℕ) (d : List ℕ) (n : ℕ) (out : List ℕ) (s : S) → Shows d n out → length d ≡ room → seen (Ok n) d s ≡ replied room out s
  seen_reply room d n out s w l =
      let r : d ≡ padded room out = w.bytes ∙ ap (λ (k : ℕ). padded k out) l in
      λ i. record { number = 0; size = w.place i; reply = r i; state = s }

  -- a buffer of zeros is a refusal's outcome
  pub seen_refused : (room : ℕ) (d : List ℕ) (why : Refusal) (s : S) → d ≡ zeros room → seen (Err why) d s ≡ refused room why s
  seen_refused room d why s z = ap (λ (l : List ℕ). seen (Err why) l s) z

-- the same of a call that changes no state
pub only_answer : (o : Outcome (Unit {0})) (a b : Result ℕ Refusal) (d e : List ℕ) → seen a d no_state ≡ o → seen b e no_state ≡ o → (a ≡ b) × (d ≡ e)
only_answer o a b d e p q = let w = only_one o a b d e no_state no_state p q in (w.0, w.1.0)

-- a refusal is one whatever the state
pub refused_with : {S : Type 0} (r : Result ℕ Refusal) (d : List ℕ) (room : ℕ) (why : Refusal) (s : S) → seen r d no_state ≡ refused room why no_state → seen r d s ≡ refused room why s
refused_with r d room why s e = ap (within (λ u. s)) e

-- what a put leaves tells its answer and its buffer
pub putting_same : (p q : Option ℕ) (d e : List ℕ) → putting p d ≡ putting q e → (p ≡ q) × (d ≡ e)
putting_same p q d e h = (ap (λ (x : Putting). x.answer) h, ap (λ (x : Putting). x.buffer) h)
