-- From what a command sends to what is read of it: where its bytes are those of a reply's content that can be sent, reading gives that
-- content. Assumes nothing.
use Rattle.frame.specs.declared.answer.Refusal.{Refusal}
use Rattle.std.specs.Prelude.{Ok, Result}
use mathlib.Core.Path.{◌≡◌, sym, ap, ◌∙◌}
use mathlib.Core.Bool.{Bool, true}
use mathlib.Core.List.{List, ◌++◌}
use Prim.Native.Nat.{ℕ}
use lib.ListN.{take, drop}
use Rattle.types.proofs.Numbers.{bytes_drop}
use Rattle.frame.specs.declared.header.ZclHeader.{ZclHeader}
use Rattle.frame.specs.declared.command_identifier.CommandIdentifier.{CommandIdentifier}
use Rattle.frame.specs.Header.{reply_head}
use Rattle.frame.specs.Answer.{Outcome, seen}
use Rattle.store.specs.Layout.{is_store}
use Rattle.reporting.specs.declared.entry.Entry.{Entry}
use Rattle.reporting.specs.Table.{holding}
use Rattle.server.specs.Serve.{State, commanded, serve}
use Rattle.server.specs.Claims.Asks.{Asks}
use Rattle.readers.specs.Claims.Back.{ReadsBack}
use Rattle.readers.specs.Claims.Served.{OfRequest, Typed, Answered, Serves}
use Rattle.readers.proofs.Reaching.{Reached, by_command}
use Rattle.readers.proofs.Outs.{out_of, Sends}

-- what is seen of an outcome are its bytes, and its number is 0
module _ {S : Type 0} (o : Outcome S) (size : ℕ) (reply : List ℕ) (after : S) (e : seen (Ok size) reply after ≡ o) where
  pub seen_zero : o.number ≡ 0
  seen_zero = sym (ap (λ (x : Outcome S). x.number) e)

  pub seen_out : take size reply ≡ out_of o
  seen_out = ap out_of e

-- ---- what is sent: a reply's command, the bytes of its content, and which content can be sent

module _ {A : Type 0} (reply : CommandIdentifier) (bytes : A → List ℕ) (Sendable : A → Type 0) where
  -- this content, if anything
  pub record Sent {S : Type 0} (h : ZclHeader) (o : Outcome S) (x : A) : Type 0 where
    pub sendable : Sendable x
    pub sends : Sends o (reply_head h reply ++ bytes x)

  -- by a command, for every store, table, request and room
  abbrev pub Commands : CommandIdentifier → OfRequest A → Type 0
  Commands command made =
      (form limit : ℕ) (s : List ℕ) (l : List Entry) (unicast : Bool) (h : ZclHeader) (body : List ℕ) (room : ℕ)
      → Typed s body l → is_store form s ≡ true
      → Sent h (commanded form limit s (holding l) unicast h body room command) (made form limit s l h body room)

-- every frame that asks so, and is answered, reached a command
abbrev pub Reaches : CommandIdentifier → (List ℕ → ZclHeader → Type 0) → Type 0
Reaches command Asking =
    (form limit : ℕ) (s : List ℕ) (l : List Entry) (cluster : ℕ) (unicast : Bool) (frame : List ℕ) (room : ℕ) (h : ZclHeader)
    → Asking frame h → (serve form limit s (holding l) cluster unicast frame room).number ≡ 0
    → Reached form s (serve form limit s (holding l) cluster unicast frame room)
    (commanded form limit s (holding l) unicast h (drop h.body frame) room command)

-- ---- what is read of it

module _ {A : Type 0} (reader : List ℕ → Result A Refusal) (reply : CommandIdentifier) (bytes : A → List ℕ) (Sendable : A → Type 0)
    (back : ReadsBack reader reply bytes Sendable) where
  pub read_sent : {S : Type 0} (h : ZclHeader) (o : Outcome S) (x : A) → Sent reply bytes Sendable h o x
      → (size : ℕ) (d : List ℕ) (after : S) → seen (Ok size) d after ≡ o → reader (take size d) ≡ Ok x
  read_sent h o x w size d after e =
      ap reader (seen_out o size d after e ∙ w.sends (seen_zero o size d after e)) ∙ back h x w.sendable

  pub answered_by : (command : CommandIdentifier) (Asking : List ℕ → ZclHeader → Type 0) (made : OfRequest A)
      → Reaches command Asking → Commands reply bytes Sendable command made → Answered Asking reader made
  answered_by command Asking made reaching k form limit s l cluster unicast frame room h t a size d after e =
      let o : Outcome State = serve form limit s (holding l) cluster unicast frame room in
      let body : List ℕ = drop h.body frame in
      let r = reaching form limit s l cluster unicast frame room h a (seen_zero o size d after e) in
      let typed : Typed s body l = (t.0, bytes_drop frame h.body t.1, t.2) in
      read_sent h (commanded form limit s (holding l) unicast h body room command) (made form limit s l h body room)
      (k form limit s l unicast h body room typed r.store) size d after (e ∙ r.is)

  pub serves_by : (command : CommandIdentifier) (made : OfRequest A) → Commands reply bytes Sendable command made → Serves command reader made
  serves_by command made =
      answered_by command (Asks command) made
      (λ form limit s l cluster unicast frame room h. by_command form limit s l cluster unicast frame room h command)
