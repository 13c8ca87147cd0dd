-- The command: its body, its header, and the list. Assumes nothing.
use Rattle.std.specs.Prelude.{Err, None, Ok, Option, Some}
use mathlib.Core.Path.{◌≡◌, ap, ◌∙◌, subst}
use mathlib.Core.List.{List, [], ◌∷◌, ◌++◌}
use Prim.Native.Nat.{ℕ, ◌+◌, ◌-◌, ◌/◌, ◌≤◌, ◌<◌, min}
use native.Mathlib.Omega.{arith}
use lib.ListN.{length, get_or, take, length-append, length-replicate}
use borrow.Author.Tests.{le-leb, lt-leb}
use Rattle.types.specs.Number.{zeros, unsigned_at}
use Rattle.frame.specs.Inside.Buffer.{putting, put}
use Rattle.frame.specs.Header.{reply_head}
use Rattle.frame.specs.Answer.{no_state, seen, replied, refused}
use Rattle.frame.specs.declared.header.ZclHeader.{ZclHeader}
use Rattle.frame.specs.declared.command_identifier.CommandIdentifier.TheVariants.{DiscoverAttributesResponse}
use Rattle.frame.specs.declared.answer.Refusal.TheVariants.{RecordCut, ReplyTooLong}
use Rattle.frame.proofs.Buffer.{PutAt, shows_cleared, shows_put, shows_full}
use Rattle.frame.proofs.Outcome.{seen_reply, seen_refused}
use Rattle.store.specs.declared.lookup.Attribute.{Attribute}
use Rattle.store.specs.Contents.{name_of, attributes_of}
use Rattle.discover.specs.Discover.{at_or_after, listed, complete_byte, discover_reply, discover_of}
use Rattle.discover.specs.Inside.{records_of, Fills, list_of, Lists}
use Rattle.discover.proofs.Choice.{listed_within}

module _ (s : List ℕ) (request : ZclHeader) (body : List ℕ) (room : ℕ) where
  abbrev head : List ℕ
  head = reply_head request DiscoverAttributesResponse

  -- those at or after the start, and those of them that are listed
  abbrev pub all : List Attribute
  all = at_or_after (name_of request.manufacturer_code.0 (unsigned_at body 0 2)) (attributes_of 8 s)

  abbrev pub some : List Attribute
  some = listed 3 (room - (length head + 1)) (get_or body 2 0) all

  abbrev whole : List ℕ
  whole = head ++ complete_byte all some ∷ records_of some

  -- a body without start and maximum
  pub discover_cut : (d : List ℕ) → d ≡ zeros room → length body < 3 → seen (Err RecordCut) d no_state ≡ discover_of 8 s request body room
  unfolding discover_of
  discover_cut d z h = seen_refused room d RecordCut no_state z ∙ rw (lt-leb 3 (length body) h)

  module _ (h : 3 ≤ length body) where
    by_body : discover_reply room head all (get_or body 2 0) ≡ discover_of 8 s request body room
    unfolding discover_of
    by_body = rw (le-leb 3 (length body) h)

    too_long : room < length head + 1 → refused room ReplyTooLong no_state ≡ discover_reply room head all (get_or body 2 0)
    unfolding discover_reply
    too_long k = rw (lt-leb (length head + 1) room k)

    fits_in : length head + 1 ≤ room → replied room whole no_state ≡ discover_reply room head all (get_or body 2 0)
    unfolding discover_reply
    fits_in k = rw (le-leb (length head + 1) room k)

    -- the reply never is longer than the room
    whole_within : length head + 1 ≤ room → length whole ≤ room
    whole_within k =
        let n : length whole ≡ length head + length (complete_byte all some ∷ records_of some) = length-append head (complete_byte all some ∷ records_of some) in
        let w : length (records_of some) ≤ room - (length head + 1) = listed_within (room - (length head + 1)) (get_or body 2 0) all in
        omega arith

    -- a cleared buffer, and the header put there
    module _ (d₀ : List ℕ) (z : d₀ ≡ zeros room) (r₁ : Option ℕ) (d₁ : List ℕ) (p : putting r₁ d₁ ≡ put d₀ 0 head) where
      len : length d₀ ≡ room
      len = ap length z ∙ length-replicate room 0

      -- it does not fit
      pub discover_headless : r₁ ≡ None → seen (Err ReplyTooLong) d₁ no_state ≡ discover_of 8 s request body room
      discover_headless q =
          let w = shows_full d₀ 0 [] head r₁ d₁ (shows_cleared room d₀ z) p q in
          let l : length d₀ ≡ room = len in
          seen_refused room d₁ ReplyTooLong no_state (w.1 ∙ z) ∙ too_long (omega (arith, w.0)) ∙ by_body

      module _ (from : ℕ) (q : r₁ ≡ Some from) where
        headed : PutAt d₀ [] head from d₁
        headed = shows_put d₀ 0 [] head r₁ from d₁ (shows_cleared room d₀ z) p q

        -- the place behind the header, and the room
        from_is : from ≡ length head
        from_is = headed.shows.place

        pub room_is : length d₁ ≡ room
        room_is = headed.same ∙ len

        refused_as : (d : List ℕ) → length d ≡ room → room < length head + 1 → refused (length d) ReplyTooLong no_state ≡ discover_of 8 s request body room
        refused_as d l k = ap (λ (m : ℕ). refused m ReplyTooLong no_state) l ∙ too_long k ∙ by_body

        -- it fits, but nothing behind it
        pub discover_full : length d₁ ≤ from → refused (length d₁) ReplyTooLong no_state ≡ discover_of 8 s request body room
        discover_full k = refused_as d₁ room_is (omega (arith, room_is, from_is))

        -- the numbers that the code has of the list, and the list put behind the header
        module _ (start m n : ℕ) (es : start ≡ name_of request.manufacturer_code.0 (unsigned_at body 0 2)) (em : m ≡ get_or body 2 0) (en : n ≡ min m ((length d₁ - from - 1) / 3))
            (k : from < length d₁) (r₂ : Option ℕ) (d₂ : List ℕ) (lists : Lists s start n d₁ from r₂ d₂) where
          taken : take n all ≡ some
          unfolding listed
          taken =
              let j : length d₁ - from - 1 ≡ room - (length head + 1) = omega (arith, room_is, from_is) in
              ap (λ (i : ℕ). take i all) (en ∙ ap (λ (i : ℕ). min i ((length d₁ - from - 1) / 3)) em ∙ ap (λ (i : ℕ). min (get_or body 2 0) (i / 3)) j)

          room_left : length head + 1 ≤ room
          room_left = omega (arith, room_is, from_is)

          shown : head ++ list_of (at_or_after start (attributes_of 8 s)) n ≡ whole
          shown =
              ap (λ (i : ℕ). head ++ list_of (at_or_after i (attributes_of 8 s)) n) es ∙ ap (λ (l : List Attribute). head ++ complete_byte all l ∷ records_of l) taken

          fills : (r : Option ℕ) → r₂ ≡ r → Fills whole room r d₂
          fills r e =
              subst (λ (x : Option ℕ). Fills whole room x d₂) e
              (subst (λ (l : List ℕ). Fills l room r₂ d₂) shown (subst (λ (i : ℕ). Fills (head ++ list_of (at_or_after start (attributes_of 8 s)) n) i r₂ d₂) room_is (lists head headed.shows)))

          -- there was room for the list
          pub discover_listless : r₂ ≡ None → refused (length d₂) ReplyTooLong no_state ≡ discover_of 8 s request body room
          discover_listless e =
              let w : room < length whole = fills None e in
              absurd (omega (arith, whole_within room_left))

          -- all is put
          pub discover_listed : (o : ℕ) → r₂ ≡ Some o → length d₂ ≡ length d₁ → seen (Ok o) d₂ no_state ≡ discover_of 8 s request body room
          discover_listed o e l =
              seen_reply room d₂ o whole no_state (fills (Some o) e) (l ∙ room_is) ∙ fits_in room_left ∙ by_body
