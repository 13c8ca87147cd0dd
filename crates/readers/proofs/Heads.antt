-- The body of a frame: behind a reply's three bytes, and what follows from there. Assumes nothing.
use Rattle.frame.specs.declared.answer.Refusal.{Refusal}
use Rattle.std.specs.Prelude.{Err, Ok, Result}
use mathlib.Core.Path.{◌≡◌, refl, ap, ◌∙◌}
use mathlib.Core.List.{List, ◌++◌}
use Prim.Native.Nat.{ℕ}
use native.Mathlib.Omega.{arith}
use lib.ListN.{drop}
use borrow.Author.Tests.{eq-eqb}
use Rattle.frame.specs.declared.header.ZclHeader.{ZclHeader}
use Rattle.frame.specs.declared.command_identifier.CommandIdentifier.{CommandIdentifier}
use Rattle.frame.specs.CommandIdentifier.{command_code}
use Rattle.frame.specs.Header.{reply_head, frame_type_of}
use Rattle.frame.proofs.Headers.{header_plain}
use Rattle.readers.specs.Reading.{and_then, body_by, body_of}
use Rattle.readers.proofs.Spans.{unread_not}

module _ (request : ZclHeader) (command : CommandIdentifier) (l : List ℕ) where
  -- THE BODY OF A REPLY lies behind its three bytes
  pub body_at : body_of command (reply_head request command ++ l) ≡ Ok 3
  unfolding body_of reply_head frame_type_of
  body_at =
      ap (body_by command) (header_plain (reply_head request command ++ l) refl (omega arith))
      ∙ rw (eq-eqb (command_code command) (command_code command) refl)

  pub body_is : drop 3 (reply_head request command ++ l) ≡ l
  unfolding reply_head
  body_is = refl

-- a frame that is read has a body, and what is read is read from there
pub from_body : {A : Type 0} (b : Result ℕ Refusal) (reader : ℕ → Result A Refusal) (x : A) → and_then b reader ≡ Ok x → (p : ℕ) × (b ≡ Ok p) × (reader p ≡ Ok x)
from_body (Ok p) reader x e = (p, refl, e)
from_body (Err why) reader x e = unread_not why x e
