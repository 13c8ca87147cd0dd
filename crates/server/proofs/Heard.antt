-- Frames of one command with one header, in every room: refused before the command, or answered by it. Assumes nothing.
use mathlib.Core.Path.{◌≡◌, refl, ap, ◌∙◌}
use mathlib.Core.Bool.{Bool, true, false}
use mathlib.Core.List.{List, ◌++◌}
use Prim.Native.Nat.{ℕ}
use lib.ListN.{drop}
use lib.Seq.{drop-append-le}
use lib.Dec.{eqb}
use borrow.Author.Tests.{eq-eqb}
use Rattle.frame.specs.declared.header.ZclHeader.{ZclHeader}
use Rattle.frame.specs.declared.command_identifier.CommandIdentifier.{CommandIdentifier}
use Rattle.frame.specs.declared.answer.Refusal.{Refusal}
use Rattle.frame.specs.declared.answer.Refusal.TheVariants.{OtherCluster, NotAStore, NotATable}
use Rattle.frame.specs.Header.{header_of}
use Rattle.frame.specs.Answer.{Outcome, within, refused}
use Rattle.frame.proofs.Headers.{header_body, header_behind}
use Rattle.store.specs.Contents.{cluster_of}
use Rattle.store.specs.Layout.{is_store}
use Rattle.reporting.specs.declared.entry.Entry.{Entry}
use Rattle.reporting.specs.Table.{Table, holding, bad}
use Rattle.server.specs.Serve.{State, state, commanded, typed, by_header, tabled, serve}
use Rattle.server.specs.Claims.Asks.{Asks}
use Rattle.server.specs.Claims.Left.{Early}

-- a table that is one
abbrev pub Holding : Table → Type 0
Holding (holding l) = Unit {0}
Holding (bad u) = ⊥

-- ---- frames with one header, in every room: refused before the command, or, with a table that is one, answered by it

pub data Heard (form limit : ℕ) (s : List ℕ) (t : Table) (cluster : ℕ) (unicast : Bool) (h : ZclHeader) (c : CommandIdentifier) : Type 0 where
  refuses : (why : Refusal) → Early why → ((frame : List ℕ) (room : ℕ) → Asks c frame h → serve form limit s t cluster unicast frame room ≡ refused room why (state s t))
      → Heard form limit s t cluster unicast h c
  hears : Holding t → ((frame : List ℕ) (room : ℕ) → Asks c frame h → serve form limit s t cluster unicast frame room ≡ commanded form limit s t unicast h (drop h.body frame) room c)
      → Heard form limit s t cluster unicast h c

module _ (form limit : ℕ) (s : List ℕ) (cluster : ℕ) (unicast : Bool) (h : ZclHeader) (c : CommandIdentifier) where
  by-header : (t : Table) (frame : List ℕ) (room : ℕ) → Asks c frame h
      → by_header form limit s t unicast frame room (header_of frame) ≡ commanded form limit s t unicast h (drop h.body frame) room c
  unfolding by_header typed
  by-header t frame room a =
      ap (by_header form limit s t unicast frame room) a.header
      ∙ ap (typed form limit s t unicast h (drop h.body frame) room) a.global
      ∙ ap (commanded form limit s t unicast h (drop h.body frame) room) a.command

  -- a store of this cluster, and a table that is one
  pub reaches : (l : List Entry) → is_store form s ≡ true → cluster ≡ cluster_of s → (frame : List ℕ) (room : ℕ) → Asks c frame h
      → serve form limit s (holding l) cluster unicast frame room ≡ commanded form limit s (holding l) unicast h (drop h.body frame) room c
  unfolding serve tabled
  reaches l e f frame room a = rw (e, eq-eqb cluster (cluster_of s) f) (by-header (holding l) frame room a)

  no_store : (t : Table) → is_store form s ≡ false → Heard form limit s t cluster unicast h c
  unfolding serve
  no_store t e = refuses NotAStore refl (λ frame room a. rw e)

  heard_of : (t : Table) → is_store form s ≡ true → (b : Bool) → eqb cluster (cluster_of s) ≡ b → Heard form limit s t cluster unicast h c
  unfolding serve tabled
  heard_of (bad u) e b f = refuses NotATable refl (λ frame room a. rw e)
  heard_of (holding l) e false f = refuses OtherCluster refl (λ frame room a. rw (e, f))
  heard_of (holding l) e true f = hears tt (λ frame room a. rw (e, f) (by-header (holding l) frame room a))

  pub heard : (t : Table) → Heard form limit s t cluster unicast h c
  heard t = go (is_store form s) refl
    where
      go : (b : Bool) → is_store form s ≡ b → Heard form limit s t cluster unicast h c
      go true e = heard_of t e (eqb cluster (cluster_of s)) refl
      go false e = no_store t e

-- more bytes behind a frame: the same header, and the body goes on
module _ (c : CommandIdentifier) (frame b : List ℕ) (h : ZclHeader) (a : Asks c frame h) where
  pub asks_behind : Asks c (frame ++ b) h
  asks_behind = record { header = header_behind frame b h a.header; global = a.global; command = a.command }

  body_behind : drop h.body (frame ++ b) ≡ drop h.body frame ++ b
  body_behind = drop-append-le h.body frame b (header_body frame h a.header).0

-- a frame that reaches its command, alone and with more behind it, where the command's own state lies within store and table
module _ {S : Type 0} (form limit : ℕ) (s : List ℕ) (t : Table) (cluster : ℕ) (unicast : Bool) (frame : List ℕ) (h : ZclHeader) (c : CommandIdentifier) (asks : Asks c frame h)
    (puts : S → State) (by : List ℕ → ℕ → Outcome S) (is : (body : List ℕ) (room : ℕ) → commanded form limit s t unicast h body room c ≡ within puts (by body room))
    (f : (frame : List ℕ) (room : ℕ) → Asks c frame h → serve form limit s t cluster unicast frame room ≡ commanded form limit s t unicast h (drop h.body frame) room c) where
  pub alone : (room : ℕ) → serve form limit s t cluster unicast frame room ≡ within puts (by (drop h.body frame) room)
  alone room = f frame room asks ∙ is (drop h.body frame) room

  pub more_of : (b : List ℕ) (room : ℕ) → serve form limit s t cluster unicast (frame ++ b) room ≡ within puts (by (drop h.body frame ++ b) room)
  more_of b room =
      f (frame ++ b) room (asks_behind c frame b h asks) ∙ is (drop h.body (frame ++ b)) room ∙ ap (λ (l : List ℕ). within puts (by l room)) (body_behind c frame b h asks)
