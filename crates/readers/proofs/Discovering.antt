-- A discover reply, both ways: a complete byte of 0 or 1, and the attributes behind it. Assumes nothing.
use Rattle.frame.specs.declared.answer.Refusal.{Refusal}
use Rattle.std.specs.Prelude.{Err, Ok, Result}
use mathlib.Core.Path.{◌≡◌, refl, sym, ap, ◌∙◌, subst}
use mathlib.Core.Bool.{Bool, true, false, cond}
use mathlib.Core.List.{List, ◌∷◌, ◌++◌}
use Prim.Native.Nat.{ℕ, suc, ◌+◌, ◌-◌, ◌≤◌, ◌<◌}
use native.Mathlib.Omega.{arith}
use native.Mathlib.Numerals.{add-one}
use lib.ListN.{length, get_or, drop, length-drop}
use lib.Seq.{drop-cons, drop-drop}
use lib.Dec.{leb}
use borrow.Author.Tests.{le-leb, lt-leb, leb-true, leb-false}
use Rattle.types.specs.Number.{AllBytes}
use Rattle.frame.specs.declared.answer.Refusal.TheVariants.{RecordCut, NotSuchAReply}
use Rattle.frame.specs.declared.command_identifier.CommandIdentifier.TheVariants.{DiscoverAttributesResponse}
use Rattle.frame.specs.declared.header.ZclHeader.{ZclHeader}
use Rattle.frame.specs.Header.{reply_head}
use Rattle.frame.specs.Encoded.{encode_all}
use Rattle.discover.specs.Discover as Discover
use Rattle.readers.specs.declared.layout.Layout.TheVariants.{Discovered}
use Rattle.readers.specs.Layout.{length_of}
use Rattle.readers.specs.Reading.{mapped, and_then, body_of, spans_from, records_of}
use Rattle.readers.specs.Replies.{Discovery, discovered_record, discovery, discovery_at, discovered_from, discover_reply_of}
use Rattle.readers.specs.Claims.Sendable.{DiscoverySendable}
use Rattle.readers.specs.Claims.Back.{discovery_bytes}
use Rattle.readers.proofs.Codec.{records_back, records_only}
use Rattle.readers.proofs.Spans.{read_is, unread_not}
use Rattle.readers.proofs.Heads.{body_at, body_is, from_body}
use Rattle.readers.proofs.Fields.{first_at}
use Rattle.readers.proofs.CodecFixed.{Fits, discovered_codec}

module _ (f : List ℕ) (p : ℕ) (d : Discovery) where
  at_back : DiscoverySendable d → drop p f ≡ discovery_bytes d → discovery_at f p ≡ Ok d
  unfolding discovered_from records_of
  at_back h e =
      let n : length f - p ≡ length (discovery_bytes d) = sym (length-drop p f) ∙ ap length e in
      let z : get_or f p 0 ≡ d.complete = first_at f p ∙ ap (λ (l : List ℕ). get_or l 0 0) e in
      let rest : drop (p + 1) f ≡ encode_all Discover.encode d.attributes = sym (drop-drop 1 p f) ∙ ap (drop 1) e in
      let few : get_or f p 0 ≤ 1 = omega (arith, h.0) in
      rw (lt-leb (length f) p (omega arith), le-leb (get_or f p 0) 1 few)
      (ap (mapped (discovery (get_or f p 0)))
      (records_back (length_of Discovered) discovered_record Discover.encode Fits discovered_codec f d.attributes (p + 1) h.1 rest)
      ∙ ap (λ (k : ℕ). Ok (discovery k d.attributes)) z)

  at_only : AllBytes f → discovery_at f p ≡ Ok d → DiscoverySendable d × (drop p f ≡ discovery_bytes d)
  unfolding discovered_from records_of
  at_only bytes e = go (leb (length f) p) refl (leb (get_or f p 0) 1) refl e
    where
      listed : p < length f → get_or f p 0 ≤ 1 → (x : Result (List Discover.Discovered) Refusal)
          → records_of discovered_record f (spans_from (length_of Discovered) f (p + 1)) ≡ x
          → mapped (discovery (get_or f p 0)) x ≡ Ok d → DiscoverySendable d × (drop p f ≡ discovery_bytes d)
      listed b c (Ok rs) r e =
          let u = records_only (length_of Discovered) discovered_record Discover.encode Fits discovered_codec f bytes (p + 1) rs r in
          let s : drop (suc p) f ≡ encode_all Discover.encode rs = ap (λ (k : ℕ). drop k f) (sym (add-one p)) ∙ u.1 in
          let all : drop p f ≡ get_or f p 0 ∷ encode_all Discover.encode rs = drop-cons f p 0 b ∙ ap (λ (l : List ℕ). get_or f p 0 ∷ l) s in
          subst (λ (y : Discovery). DiscoverySendable y × (drop p f ≡ discovery_bytes y)) (read_is (discovery (get_or f p 0) rs) d e) ((c, u.0), all)
      listed b c (Err why) r e = unread_not why d e

      go : (a : Bool) → leb (length f) p ≡ a → (c : Bool) → leb (get_or f p 0) 1 ≡ c
          → mapped (discovery (get_or f p 0))
          (records_of discovered_record f (cond a (Err RecordCut) (cond c (spans_from (length_of Discovered) f (p + 1)) (Err NotSuchAReply))))
          ≡ Ok d
          → DiscoverySendable d × (drop p f ≡ discovery_bytes d)
      go true a c b e = unread_not RecordCut d e
      go false a true b e =
          listed (leb-false (length f) p a) (leb-true (get_or f p 0) 1 b) (records_of discovered_record f (spans_from (length_of Discovered) f (p + 1))) refl e
      go false a false b e = unread_not NotSuchAReply d e

-- WHAT WAS WRITTEN is read back
pub discover_back : (request : ZclHeader) (d : Discovery) → DiscoverySendable d
    → discover_reply_of (reply_head request DiscoverAttributesResponse ++ discovery_bytes d) ≡ Ok d
unfolding discover_reply_of
discover_back request d h =
    let f : List ℕ = reply_head request DiscoverAttributesResponse ++ discovery_bytes d in
    ap (λ (b : Result ℕ Refusal). and_then b (discovery_at f)) (body_at request DiscoverAttributesResponse (discovery_bytes d))
    ∙ at_back f 3 d h (body_is request DiscoverAttributesResponse (discovery_bytes d))

-- WHAT IS ACCEPTED was so written
pub discover_only : (f : List ℕ) (d : Discovery) → AllBytes f → discover_reply_of f ≡ Ok d
    → DiscoverySendable d × ((p : ℕ) × (body_of DiscoverAttributesResponse f ≡ Ok p) × (drop p f ≡ discovery_bytes d))
unfolding discover_reply_of
discover_only f d bytes e =
    let w = from_body (body_of DiscoverAttributesResponse f) (discovery_at f) d e in
    let u = at_only f w.0 d bytes w.2 in
    (u.0, (w.0, w.1, u.1))
