-- A request that was answered reached its command: every refusal before that has a number other than 0. Assumes nothing.
use Rattle.std.specs.Prelude.{Option, Some}
use mathlib.Core.Path.{◌≡◌, refl, sym, ap, ◌∙◌}
use mathlib.Core.Bool.{Bool, true, false, cond}
use mathlib.Core.List.{List}
use Prim.Native.Nat.{ℕ}
use native.Mathlib.Omega.{arith}
use lib.ListN.{drop}
use lib.Dec.{eqb}
use Rattle.frame.specs.declared.header.ZclHeader.{ZclHeader}
use Rattle.frame.specs.declared.header.FrameType.{FrameType}
use Rattle.frame.specs.declared.command_identifier.CommandIdentifier.{CommandIdentifier}
use Rattle.frame.specs.declared.command_identifier.CommandIdentifier.TheVariants.{ReadAttributesResponse}
use Rattle.frame.specs.declared.answer.Refusal.{Refusal}
use Rattle.frame.specs.declared.answer.Refusal.TheVariants.{OtherCluster, NotAStore}
use Rattle.frame.specs.Header.{frame_type_of, header_of}
use Rattle.frame.specs.Answer.{Outcome, refused}
use Rattle.frame.proofs.Codes.{refusal_nonzero}
use Rattle.store.specs.Contents.{cluster_of}
use Rattle.store.specs.Layout.{is_store}
use Rattle.reporting.specs.declared.entry.Entry.{Entry}
use Rattle.reporting.specs.Table.{holding}
use Rattle.server.specs.Serve.{State, state, commanded, typed, by_header, tabled, serve}
use Rattle.server.specs.Claims.Asks.{Asks, AsksCluster}

-- an outcome that is a refusal where a test fails: with the number 0 the test passed, and it is the other one
pub passed : {S : Type 0} (room : ℕ) (b : Bool) (x : Outcome S) (why : Refusal) (s : S) → (cond b x (refused room why s)).number ≡ 0
    → (b ≡ true) × (cond b x (refused room why s) ≡ x)
passed room true x why s e = (refl, refl)
passed room false x why s e = absurd (omega (arith, refusal_nonzero why))

-- the store was one, and this is the outcome
pub record Reached (form : ℕ) (s : List ℕ) (served there : Outcome State) : Type 0 where
  pub store : is_store form s ≡ true
  pub is : served ≡ there

module _ (form limit : ℕ) (s : List ℕ) (l : List Entry) (cluster : ℕ) (unicast : Bool) (frame : List ℕ) (room : ℕ) (h : ZclHeader) where
  abbrev served : Outcome State
  served = serve form limit s (holding l) cluster unicast frame room

  abbrev reaches : FrameType → Outcome State
  reaches k = typed form limit s (holding l) unicast h (drop h.body frame) room k

  abbrev commands : CommandIdentifier → Outcome State
  commands c = commanded form limit s (holding l) unicast h (drop h.body frame) room c

  -- through the store, the table and the cluster to the header
  by_type : header_of frame ≡ Some h → served.number ≡ 0 → Reached form s served (reaches (frame_type_of h.frame_control.0))
  unfolding serve tabled by_header
  by_type e z =
      let x : Option ZclHeader → Outcome State = by_header form limit s (holding l) unicast frame room in
      let t : Outcome State = cond (eqb cluster (cluster_of s)) (x (header_of frame)) (refused room OtherCluster (state s (holding l))) in
      let p = passed room (is_store form s) t NotAStore (state s (holding l)) z in
      let q = passed room (eqb cluster (cluster_of s)) (x (header_of frame)) OtherCluster (state s (holding l))
      (ap (λ (o : Outcome State). o.number) (sym p.1) ∙ z) in
      record { store = p.0; is = p.1 ∙ q.1 ∙ ap x e }

  -- a global command is done
  pub by_command : (c : CommandIdentifier) → Asks c frame h → served.number ≡ 0 → Reached form s served (commands c)
  unfolding typed
  by_command c a z =
      let r = by_type a.header z in
      record { store = r.store; is = r.is ∙ ap reaches a.global ∙ ap commands a.command }

  -- a cluster command is answered as one that is not supported
  pub by_cluster : AsksCluster frame h → served.number ≡ 0 → Reached form s served (commands ReadAttributesResponse)
  unfolding typed commanded
  by_cluster a z =
      let r = by_type a.header z in
      record { store = r.store; is = r.is ∙ ap reaches a.cluster }
