-- The ways of a Default Response: nothing to send, no room, or the header and two bytes. Assumes nothing.
use Rattle.std.specs.Prelude.{None, Ok, Option, Result, Some}
use mathlib.Core.Path.{◌≡◌, refl, ap, ◌∙◌}
use mathlib.Core.Bool.{Bool, true, false, not, ◌&&◌, and-false}
use mathlib.Core.List.{List, [], ◌∷◌}
use Prim.Native.Nat.{ℕ, ◌≤◌, ◌<◌}
use native.Mathlib.Omega.{arith}
use lib.ListN.{length, length-append, length-replicate}
use borrow.Author.Tests.{le-leb, lt-leb}
use Rattle.types.specs.Number.{zeros}
use Rattle.frame.specs.Inside.Buffer.{putting, put}
use Rattle.frame.specs.Header.{reply_head}
use Rattle.frame.specs.Status.{status_code}
use Rattle.frame.specs.Answer.{no_state, seen, replied, refused}
use Rattle.frame.specs.declared.header.ZclHeader.{ZclHeader}
use Rattle.frame.specs.declared.command_identifier.CommandIdentifier.TheVariants.{DefaultResponse}
use Rattle.frame.specs.declared.status.Status.{Status}
use Rattle.frame.specs.declared.answer.Refusal.{Refusal}
use Rattle.frame.specs.declared.answer.Refusal.TheVariants.{ReplyTooLong, NothingToSend}
use Rattle.frame.proofs.Buffer.{PutAt, shows_cleared, shows_put, shows_full}
use Rattle.frame.proofs.Outcome.{seen_reply}
use Rattle.server.specs.DefaultResponse.{silences, default_reply, default_response}

module _ (request : ZclHeader) (unicast : Bool) (status : Status) (room : ℕ) where
  abbrev out : List ℕ
  out = default_reply request status

  abbrev silenced : Bool
  silenced = silences request.frame_control.0 status

  -- ---- what the definition says

  unsent : (unicast && not silenced) ≡ false → refused room NothingToSend no_state ≡ default_response request unicast status room
  unfolding default_response
  unsent e = rw e

  module _ (u : unicast ≡ true) (q : silenced ≡ false) where
    spoken : (unicast && not silenced) ≡ true
    spoken = ap (λ (b : Bool). b && not silenced) u ∙ ap not q

    roomless : room < length out → refused room ReplyTooLong no_state ≡ default_response request unicast status room
    unfolding default_response
    roomless h = rw (spoken, lt-leb (length out) room h)

    sent : length out ≤ room → replied room out no_state ≡ default_response request unicast status room
    unfolding default_response
    sent h = rw (spoken, le-leb (length out) room h)

  -- ---- what the buffer holds

  module _ (a : Result ℕ Refusal) (d : List ℕ) where
    -- the request was not unicast
    pub default_many : unicast ≡ false → seen a d no_state ≡ refused room NothingToSend no_state → seen a d no_state ≡ default_response request unicast status room
    default_many u e = e ∙ unsent (ap (λ (b : Bool). b && not silenced) u)

    -- it asked for silence
    pub default_silenced : silenced ≡ true → seen a d no_state ≡ refused room NothingToSend no_state → seen a d no_state ≡ default_response request unicast status room
    default_silenced q e = e ∙ unsent (ap (λ (b : Bool). unicast && not b) q ∙ and-false unicast)

  abbrev head : List ℕ
  head = reply_head request DefaultResponse

  -- the header is put into a cleared buffer
  module _ (u : unicast ≡ true) (q : silenced ≡ false) (r : Option ℕ) (d₁ : List ℕ) (p : putting r d₁ ≡ put (zeros room) 0 head) where
    cleared : length (zeros room) ≡ room
    cleared = length-replicate room 0

    -- it does not fit
    pub default_headless : r ≡ None → (a : Result ℕ Refusal) (d : List ℕ) → seen a d no_state ≡ refused (length d₁) ReplyTooLong no_state → seen a d no_state ≡ default_response request unicast status room
    unfolding default_reply
    default_headless full a d e =
        let w = shows_full (zeros room) 0 [] head r d₁ (shows_cleared room (zeros room) refl) p full in
        let l : length (zeros room) ≡ room = cleared in
        e ∙ ap (λ (n : ℕ). refused n ReplyTooLong no_state) (ap length w.1 ∙ l) ∙ roomless u q (omega (arith, w.0, length-append head (request.command_identifier.0 ∷ status_code status ∷ [])))

    -- command and status behind it
    module _ (from : ℕ) (at : r ≡ Some from) (code : ℕ) (f : code ≡ status_code status) (r₂ : Option ℕ) (d₂ : List ℕ)
        (p₂ : putting r₂ d₂ ≡ put d₁ from (request.command_identifier.0 ∷ code ∷ [])) where
      headed : PutAt (zeros room) [] head from d₁
      headed = shows_put (zeros room) 0 [] head r from d₁ (shows_cleared room (zeros room) refl) p at

      puts : putting r₂ d₂ ≡ put d₁ from (request.command_identifier.0 ∷ status_code status ∷ [])
      puts = p₂ ∙ ap (λ (k : ℕ). put d₁ from (request.command_identifier.0 ∷ k ∷ [])) f

      -- they do not fit
      pub default_full : r₂ ≡ None → (a : Result ℕ Refusal) (d : List ℕ) → seen a d no_state ≡ refused (length d₂) ReplyTooLong no_state → seen a d no_state ≡ default_response request unicast status room
      unfolding default_reply
      default_full full a d e =
          let w = shows_full d₁ from head (request.command_identifier.0 ∷ status_code status ∷ []) r₂ d₂ headed.shows puts full in
          let l : length d₁ ≡ room = headed.same ∙ cleared in
          e ∙ ap (λ (n : ℕ). refused n ReplyTooLong no_state) (ap length w.1 ∙ l) ∙ roomless u q (omega (arith, w.0))

      -- they fit
      pub default_sent : (n : ℕ) → r₂ ≡ Some n → seen (Ok n) d₂ no_state ≡ default_response request unicast status room
      unfolding default_reply
      default_sent n fits =
          let w : PutAt d₁ head (request.command_identifier.0 ∷ status_code status ∷ []) n d₂ = shows_put d₁ from head (request.command_identifier.0 ∷ status_code status ∷ []) r₂ n d₂ headed.shows puts fits in
          let l : length d₁ ≡ room = headed.same ∙ cleared in
          seen_reply room d₂ n out no_state w.shows (w.same ∙ l) ∙ sent u q (omega (arith, w.fits))
