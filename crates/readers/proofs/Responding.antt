-- A Default Response, both ways: its two bytes, whatever lies behind them. Assumes nothing.
use Rattle.frame.specs.declared.answer.Refusal.{Refusal}
use Rattle.std.specs.Prelude.{Err, Ok, Result}
use mathlib.Core.Path.{◌≡◌, refl, sym, ap, ◌∙◌}
use mathlib.Core.Bool.{Bool, true, false, cond}
use mathlib.Core.List.{List, [], ◌∷◌, ◌++◌}
use Prim.Native.Nat.{ℕ, suc, ◌+◌, ◌≤◌}
use native.Mathlib.Omega.{arith}
use native.Mathlib.Numerals.{add-one}
use lib.ListN.{length, get_or, take, drop}
use lib.Seq.{drop-cons}
use lib.Dec.{leb}
use borrow.Author.Tests.{le-leb, leb-true}
use Rattle.frame.specs.declared.answer.Refusal.TheVariants.{RecordCut}
use Rattle.frame.specs.declared.command_identifier.CommandIdentifier.TheVariants.{DefaultResponse}
use Rattle.frame.specs.declared.header.ZclHeader.{ZclHeader}
use Rattle.frame.specs.Header.{reply_head}
use Rattle.readers.specs.Reading.{and_then, body_of}
use Rattle.readers.specs.Replies.{Response, response_at, default_response_of}
use Rattle.readers.specs.Claims.Back.{response_bytes}
use Rattle.readers.proofs.Spans.{read_is, unread_not}
use Rattle.readers.proofs.Heads.{body_at, from_body}

abbrev response : ℕ → ℕ → Response
response command status = record { command = command; status = status }

-- WHAT WAS WRITTEN is read back, and more is ignored
pub response_back : (request : ZclHeader) (x : Response) (more : List ℕ)
    → default_response_of (reply_head request DefaultResponse ++ response_bytes x ++ more) ≡ Ok x
unfolding default_response_of reply_head
response_back request x more =
    let f : List ℕ = reply_head request DefaultResponse ++ response_bytes x ++ more in
    ap (λ (b : Result ℕ Refusal). and_then b (response_at f)) (body_at request DefaultResponse (x.command ∷ x.status ∷ more))
    ∙ ap (λ (b : Bool). cond b (Ok x) (Err RecordCut)) (le-leb 5 (length f) (omega arith))

-- the two bytes that are there
two_at : (f : List ℕ) (p : ℕ) → p + 2 ≤ length f → take 2 (drop p f) ≡ get_or f p 0 ∷ get_or f (p + 1) 0 ∷ []
two_at f p h =
    ap (take 2) (drop-cons f p 0 (omega arith) ∙ ap (λ (l : List ℕ). get_or f p 0 ∷ l) (drop-cons f (suc p) 0 (omega arith)))
    ∙ ap (λ (k : ℕ). get_or f p 0 ∷ get_or f k 0 ∷ []) (sym (add-one p))

-- WHAT IS ACCEPTED was so written
pub response_only : (f : List ℕ) (x : Response) → default_response_of f ≡ Ok x
    → (p : ℕ) × (body_of DefaultResponse f ≡ Ok p) × (take 2 (drop p f) ≡ response_bytes x)
unfolding default_response_of
response_only f x e =
    let w = from_body (body_of DefaultResponse f) (response_at f) x e in
    (w.0, w.1, go w.0 (leb (w.0 + 2) (length f)) refl w.2)
  where
    go : (p : ℕ) (b : Bool) → leb (p + 2) (length f) ≡ b → cond b (Ok (response (get_or f p 0) (get_or f (p + 1) 0))) (Err RecordCut) ≡ Ok x
        → take 2 (drop p f) ≡ response_bytes x
    go p true b e = two_at f p (leb-true (p + 2) (length f) b) ∙ ap response_bytes (read_is (response (get_or f p 0) (get_or f (p + 1) 0)) x e)
    go p false b e = unread_not RecordCut x e
