-- Reading the reply to a Discover Attributes gives the attributes that were listed, and whether these were all. Assumes nothing.
use mathlib.Core.Bool.{Bool, true, false, cond}
use mathlib.Core.List.{List, [], ◌∷◌, ◌++◌}
use Prim.Native.Nat.{ℕ, zero, suc, ◌+◌, ◌-◌, ◌*◌, ◌≤◌, ◌<◌, ◌^◌, min, ◌/◌}
use native.Mathlib.Omega.{arith}
use lib.ListN.{length, take, get_or}
use lib.Dec.{leb, eqb}
use Rattle.frame.specs.Walk.{All}
use Rattle.types.specs.Number.{unsigned_at, AllBytes}
use Rattle.types.proofs.Numbers.{unsigned_below}
use Rattle.frame.specs.declared.command_identifier.CommandIdentifier.TheVariants.{DiscoverAttributes, DiscoverAttributesResponse}
use Rattle.frame.specs.declared.answer.Refusal.TheVariants.{RecordCut, ReplyTooLong}
use Rattle.frame.specs.Header.{reply_head}
use Rattle.frame.specs.Answer.{no_state}
use Rattle.store.specs.declared.lookup.Attribute.{Attribute}
use Rattle.store.specs.Contents.{attribute_at, attributes_from, attributes_of}
use Rattle.discover.specs.Discover.{Discovered, at_or_after, listed, complete_byte, discovered_all, discover_reply, discover_of}
use Rattle.server.specs.Serve.{commanded}
use Rattle.readers.specs.Replies.{Discovery, discovery, discover_reply_of}
use Rattle.readers.specs.Claims.Sendable.{DiscoverySendable}
use Rattle.readers.specs.Claims.Back.{discovery_bytes, DiscoverReplies}
use Rattle.readers.specs.Claims.Served.{discovery_made, DiscoverServed}
use Rattle.readers.proofs.Outs.{Sends, sends_replied, sends_tested}
use Rattle.readers.proofs.Answers.{Commands, serves_by}

-- ---- the ids of a store's attributes are of two bytes, and so are those of the ones that are listed

abbrev Named : Attribute → Type 0
Named a = a.name.0 < 2 ^ 16

module _ (form : ℕ) (s : List ℕ) (bytes : AllBytes s) where
  named_at : (i : ℕ) → Named (attribute_at form s i)
  unfolding attribute_at
  named_at i = unsigned_below s (4 + i * form) 2 bytes

  named_from : (n i : ℕ) → All Named (attributes_from form s n i)
  unfolding attributes_from
  named_from zero i = tt
  named_from (suc n) i = (named_at i, named_from n (suc i))

  named_all : All Named (attributes_of form s)
  unfolding attributes_of
  named_all = named_from _ 0

named_after : (start : ℕ) (l : List Attribute) → All Named l → All Named (at_or_after start l)
unfolding at_or_after
named_after start [] h = tt
named_after start (a ∷ l) h = go (leb start a.name.0) (named_after start l h.1)
  where
    go : (b : Bool) → All Named (at_or_after start l) → All Named (cond b (a ∷ at_or_after start l) (at_or_after start l))
    go true w = (h.0, w)
    go false w = w

named_taken : (n : ℕ) (l : List Attribute) → All Named l → All Named (take n l)
named_taken zero l h = tt
named_taken (suc n) [] h = tt
named_taken (suc n) (a ∷ l) h = (h.0, named_taken n l h.1)

named_discovered : (l : List Attribute) → All Named l → All (λ (r : Discovered). r.id < 2 ^ 16) (discovered_all l)
unfolding discovered_all
named_discovered [] h = tt
named_discovered (a ∷ l) h = (h.0, named_discovered l h.1)

-- ---- the reply

complete_below : (all some : List Attribute) → complete_byte all some ≤ 1
unfolding complete_byte
complete_below all some = go (eqb (length some) (length all))
  where
    go : (b : Bool) → cond b 1 0 ≤ 1
    go true = omega arith
    go false = omega arith

-- some of the attributes from a name on
abbrev made : ℕ → ℕ → List Attribute → Discovery
made room maximum asked = let some : List Attribute = listed 3 room maximum asked in discovery (complete_byte asked some) (discovered_all some)

made_good : (room maximum start : ℕ) (l : List Attribute) → All Named l → DiscoverySendable (made room maximum (at_or_after start l))
unfolding listed
made_good room maximum start l h =
    let asked : List Attribute = at_or_after start l in
    let n : ℕ = min maximum (room / 3) in
    (complete_below asked (take n asked), named_discovered (take n asked) (named_taken n asked (named_after start l h)))

reply_sends : (room : ℕ) (head : List ℕ) (all : List Attribute) (maximum : ℕ)
    → Sends (discover_reply room head all maximum) (head ++ discovery_bytes (made (room - (length head + 1)) maximum all))
unfolding discover_reply
reply_sends room head all maximum = sends_tested room (leb (length head + 1) room) _ ReplyTooLong no_state _ (sends_replied room _ no_state)

sent : Commands DiscoverAttributesResponse discovery_bytes DiscoverySendable DiscoverAttributes discovery_made
unfolding commanded discover_of reply_head
sent form limit s l unicast h body room t store =
    record {
      sendable = made_good (room - 4) (get_or body 2 0) (unsigned_at body 0 2) (attributes_of form s) (named_all form s t.0);
      sends = sends_tested room (leb 3 (length body)) _ RecordCut no_state _
          (reply_sends room (reply_head h DiscoverAttributesResponse) (at_or_after (unsigned_at body 0 2) (attributes_of form s)) (get_or body 2 0));
    }

-- THE PROMISE
pub discover_served : DiscoverReplies → DiscoverServed
discover_served back = serves_by discover_reply_of DiscoverAttributesResponse discovery_bytes DiscoverySendable back.0 DiscoverAttributes discovery_made sent
