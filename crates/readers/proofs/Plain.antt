-- Replies that are nothing but records, both ways, over the record. Assumes nothing.
use Rattle.frame.specs.declared.answer.Refusal.{Refusal}
use Rattle.std.specs.Prelude.{Err, Ok, Result}
use mathlib.Core.Path.{◌≡◌, refl, sym, ap, ◌∙◌}
use mathlib.Core.List.{List, ◌++◌}
use Prim.Native.Nat.{ℕ}
use lib.ListN.{drop}
use Rattle.types.specs.Number.{AllBytes}
use Rattle.frame.specs.Walk.{All}
use Rattle.frame.specs.declared.command_identifier.CommandIdentifier.{CommandIdentifier}
use Rattle.frame.specs.declared.header.ZclHeader.{ZclHeader}
use Rattle.frame.specs.Header.{reply_head}
use Rattle.frame.specs.Encoded.{encode_all}
use Rattle.readers.specs.declared.layout.Layout.{Layout}
use Rattle.readers.specs.Layout.{length_of}
use Rattle.readers.specs.declared.pass.Span.{Span}
use Rattle.readers.specs.Reading.{and_then, body_of, spans_from, records_of}
use Rattle.readers.specs.Replies.{spans_of}
use Rattle.readers.specs.Claims.Back.{BothWays}
use Rattle.readers.proofs.Codec.{Codec, records_back, records_only}
use Rattle.readers.proofs.Heads.{body_at, body_is, from_body}

-- records of a body's spans are found behind the body's start
pub records-from : {R : Type 0} (decode : List ℕ → R) (f : List ℕ) (b : Result ℕ Refusal) (spans : ℕ → Result (List Span) Refusal)
    → records_of decode f (and_then b spans) ≡ and_then b (λ p. records_of decode f (spans p))
unfolding records_of
records-from decode f (Ok p) spans = refl
records-from decode f (Err why) spans = refl

module _ {R : Type 0} (command : CommandIdentifier) (layout : Layout) (decode : List ℕ → R) (encode : R → List ℕ) (Good : R → Type 0)
    (codec : Codec (length_of layout) decode encode Good) where
  plain_back : (request : ZclHeader) (rs : List R) → All Good rs
      → (let f = reply_head request command ++ encode_all encode rs in records_of decode f (spans_of command layout f) ≡ Ok rs)
  unfolding spans_of
  plain_back request rs h =
      let f : List ℕ = reply_head request command ++ encode_all encode rs in
      ap (λ (b : Result ℕ Refusal). records_of decode f (and_then b (spans_from (length_of layout) f))) (body_at request command (encode_all encode rs))
      ∙ records_back (length_of layout) decode encode Good codec f rs 3 h (body_is request command (encode_all encode rs))

  plain_only : (f : List ℕ) (rs : List R) → AllBytes f → records_of decode f (spans_of command layout f) ≡ Ok rs
      → All Good rs × ((p : ℕ) × (body_of command f ≡ Ok p) × (drop p f ≡ encode_all encode rs))
  unfolding spans_of
  plain_only f rs bytes e =
      let w = from_body (body_of command f) (λ p. records_of decode f (spans_from (length_of layout) f p)) rs
      (sym (records-from decode f (body_of command f) (spans_from (length_of layout) f)) ∙ e) in
      let u = records_only (length_of layout) decode encode Good codec f bytes w.0 rs w.2 in
      (u.0, (w.0, w.1, u.1))

  pub plain_both : BothWays (λ f. records_of decode f (spans_of command layout f)) command (encode_all encode) (All Good)
  plain_both = (plain_back, plain_only)
