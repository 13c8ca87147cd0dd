-- A call replies, behind a head, or refuses, whatever else it may change; so its reply buffer is left as the claims say. Assumes nothing.
use mathlib.Core.Path.{◌≡◌, sym, ap, ◌∙◌}
use mathlib.Core.Bool.{Bool, true, false, cond}
use mathlib.Core.List.{List, ◌++◌}
use Prim.Native.Nat.{ℕ, ◌≤◌}
use native.Mathlib.Omega.{arith}
use lib.ListN.{length, take, length-replicate}
use Rattle.frame.specs.declared.header.ZclHeader.{ZclHeader}
use Rattle.frame.specs.declared.command_identifier.CommandIdentifier.{CommandIdentifier}
use Rattle.frame.specs.declared.answer.Refusal.{Refusal}
use Rattle.frame.specs.Header.{reply_head}
use Rattle.frame.specs.Reply.{padded}
use Rattle.frame.specs.Answer.{Outcome, replied, refused}
use Rattle.frame.proofs.Buffer.{length_padded, take_padded}
use Rattle.frame.proofs.Codes.{refusal_nonzero}
use Rattle.server.specs.Claims.Left.{Clears, ThenZeros, AsLong}
use Rattle.server.specs.Claims.Starts.{Starts}
use Rattle.server.proofs.Shapes.{Shape, replies, refuses}

pub data Says {S : Type 0} (head : List ℕ) (room : ℕ) (o : Outcome S) : Type 0 where
  sends : (rest : List ℕ) → length (head ++ rest) ≤ room → o ≡ replied room (head ++ rest) o.state → Says head room o
  declines : (why : Refusal) → o ≡ refused room why o.state → Says head room o

module _ {S : Type 0} (head : List ℕ) (room : ℕ) where
  pub says_either : (b : Bool) (x y : Outcome S) → Says head room x → Says head room y → Says head room (cond b x y)
  says_either true x y h k = h
  says_either false x y h k = k

  module _ (o : Outcome S) where
    pub says_clears : Says head room o → Clears room o
    says_clears (sends rest h e) k = absurd (k (ap (λ (x : Outcome S). x.number) e))
    says_clears (declines why e) k = (ap (λ (x : Outcome S). x.reply) e, ap (λ (x : Outcome S). x.size) e)

    pub says_zeros : Says head room o → ThenZeros room o
    says_zeros (sends rest h e) k =
        let out : List ℕ = head ++ rest in
        let r : o.reply ≡ padded room out = ap (λ (x : Outcome S). x.reply) e in
        let z : o.size ≡ length out = ap (λ (x : Outcome S). x.size) e in
        (omega arith, r ∙ ap (padded room) (sym (ap (λ (m : ℕ). take m o.reply) z ∙ ap (take (length out)) r ∙ take_padded room out)))
    says_zeros (declines why e) k = absurd (omega (arith, refusal_nonzero why, ap (λ (x : Outcome S). x.number) e, k))

    pub says_long : Says head room o → AsLong room o
    says_long (sends rest h e) = ap (λ (x : Outcome S). length x.reply) e ∙ length_padded room (head ++ rest) h
    says_long (declines why e) = ap (λ (x : Outcome S). length x.reply) e ∙ length-replicate room 0

-- what the head of a reply says of its first three bytes
pub says_starts : {S : Type 0} (h : ZclHeader) (command : CommandIdentifier) (room : ℕ) (o : Outcome S) → Says (reply_head h command) room o → Starts h.sequence_number command o
unfolding reply_head
says_starts {S} h command room o (sends rest k e) n =
    let out : List ℕ = reply_head h command ++ rest in
    let r : o.reply ≡ padded room out = ap (λ (x : Outcome S). x.reply) e in
    let z : o.size ≡ length out = ap (λ (x : Outcome S). x.size) e in
    ap (take 3) (ap (λ (m : ℕ). take m o.reply) z ∙ ap (take (length out)) r ∙ take_padded room out)
says_starts {S} h command room o (declines why e) n = absurd (omega (arith, refusal_nonzero why, ap (λ (x : Outcome S). x.number) e, n))

-- ---- a command's outcome

pub shape_says : {S : Type 0} (head : List ℕ) (room : ℕ) (o : Outcome S) → Shape head room o → Says head room o
shape_says head room o (replies rest h e) = sends rest h e
shape_says head room o (refuses why h e) = declines why e
