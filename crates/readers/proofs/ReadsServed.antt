-- Reading the reply to a read gives the records that were made for its ids. Assumes nothing.
use mathlib.Core.Path.{◌≡◌, subst}
use mathlib.Core.Bool.{Bool, true}
use mathlib.Core.List.{List}
use Prim.Native.Nat.{ℕ, ◌+◌, ◌<◌, ◌^◌}
use lib.ListN.{length}
use Rattle.types.specs.Number.{unsigned_at, AllBytes}
use Rattle.types.proofs.Numbers.{unsigned_below}
use Rattle.frame.specs.declared.header.ZclHeader.{ZclHeader}
use Rattle.frame.specs.declared.command_identifier.CommandIdentifier.TheVariants.{ReadAttributes, ReadAttributesResponse}
use Rattle.frame.specs.Header.{reply_head}
use Rattle.frame.specs.Walk.{item, All}
use Rattle.frame.specs.Encoded.{encode_all}
use Rattle.frame.proofs.Sized.{up_to_is}
use Rattle.store.specs.Contents.{name_of}
use Rattle.store.specs.Layout.{is_store}
use Rattle.read.specs.Read.{ReadRecord, encode, id_at, ids_from, record_for, read_of}
use Rattle.server.specs.Serve.{commanded}
use Rattle.readers.specs.Replies.{read_reply_of}
use Rattle.readers.specs.Claims.Sendable.{ReadSendable}
use Rattle.readers.specs.Claims.Back.{ReadReplies}
use Rattle.readers.specs.Claims.Served.{read_made, ReadServed}
use Rattle.readers.proofs.Wholes.{found_whole}
use Rattle.readers.proofs.Outs.{shortened_sends}
use Rattle.readers.proofs.Finding.{made_read}
use Rattle.readers.proofs.Keeping.{every_read, keeps_shortened}
use Rattle.readers.proofs.Answers.{Commands, serves_by}

-- an id of a request is of two bytes
id_below : (body : List ℕ) → AllBytes body → (p id q : ℕ) → id_at body p ≡ item id q → id < 2 ^ 16
unfolding id_at
id_below body b p id q e =
    let w = up_to_is body (p + 2) (unsigned_at body p 2) id q e in
    subst (λ (x : ℕ). x < 2 ^ 16) w.1.0 (unsigned_below body p 2 b)

makes : (form : ℕ) (s : List ℕ) (h : ZclHeader) → is_store form s ≡ true
    → (fit : ReadRecord → Bool) (id : ℕ) → id < 2 ^ 16 → ReadSendable (record_for form s h fit id)
makes form s h store fit id b =
    made_read form s h ReadSendable id (λ a e. (b, found_whole form s (name_of h.manufacturer_code.0 id) a store e)) (λ status k. (b, k)) fit

sent : Commands ReadAttributesResponse (encode_all encode) (All ReadSendable) ReadAttributes read_made
unfolding commanded read_of reply_head
sent form limit s l unicast h body room t store =
    record {
      sendable = keeps_shortened encode (record_for form s h) room 3 ReadSendable (λ id. id < 2 ^ 16) (makes form s h store) (ids_from body 0)
          (every_read (id_at body) (length body) (λ id. id < 2 ^ 16) (id_below body t.1));
      sends = shortened_sends encode (record_for form s h) (reply_head h ReadAttributesResponse) (ids_from body 0) room;
    }

-- THE PROMISE
pub read_served : ReadReplies → ReadServed
read_served back = serves_by read_reply_of ReadAttributesResponse (encode_all encode) (All ReadSendable) back.0 ReadAttributes read_made sent
