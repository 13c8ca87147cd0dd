-- Two laws of every request and of the responder: neither control bits 3 to 7 nor the manufacturer code affect the answer. Assumes nothing.
use Rattle.std.specs.Prelude.{None, Option, Some}
use mathlib.Core.Path.{◌≡◌, refl, sym, ap, ◌∙◌}
use mathlib.Core.Bool.{Bool, true, false, cond, ◌&&◌}
use mathlib.Core.List.{List, ◌∷◌}
use Prim.Native.Nat.{ℕ, suc, ◌+◌, ◌/◌, ◌%◌, ◌≤◌, ◌<◌}
use native.Mathlib.Omega.{arith}
use lib.ListN.{length, get_or, drop}
use lib.Dec.{leb, eqb}
use borrow.Author.Tests.{leb-true, leb-false, le-leb, lt-leb, eq-eqb, ne_eqb}
use Rattle.frame.specs.declared.header.ZclHeader.{ZclHeader}
use Rattle.frame.specs.declared.header.FrameType.{FrameType}
use Rattle.frame.specs.declared.header.FrameType.TheVariants.{GlobalCommand, ClusterCommand, Reserved}
use Rattle.frame.specs.declared.command_identifier.CommandIdentifier.TheVariants.{DefaultResponse}
use Rattle.frame.specs.declared.status.Status.TheVariants.{UnsupportedCluster}
use Rattle.frame.specs.declared.answer.Refusal.TheVariants.{OtherCluster, HeaderShort, NothingToSend, NotAStore}
use Rattle.frame.specs.CommandIdentifier.{command_code}
use Rattle.frame.specs.Header.{frame_type_of, is_global, has_code, header_of}
use Rattle.frame.specs.Answer.{Outcome, no_state, refused}
use Rattle.frame.proofs.Headers.{header_plain, header_coded, header_short, header_coded_short}
use Rattle.store.specs.Contents.{cluster_of}
use Rattle.store.specs.Layout.{is_store}
use Rattle.reporting.specs.Table.{Table, holding, bad}
use Rattle.server.specs.DefaultResponse.{default_response}
use Rattle.server.specs.Serve.{State, state, typed, by_header, tabled, serve}
use Rattle.server.specs.Claims.Indifferent.{ControlBitsDoNotMatter, ManufacturerCodeDoesNotMatter, ResponderControlBitsDoNotMatter, ResponderManufacturerCodeDoesNotMatter}
use Rattle.server.specs.UnsupportedCluster.{is_served, is_default_response, respond, unsupported_cluster}
use Rattle.server.proofs.Sees.{bare, default_sees, typed_sees}

-- a request with this sequence number and command, and no more of a header
abbrev numbered : ℕ → ℕ → ZclHeader
numbered sequence command =
    record {
      frame_control = record { 0 = 0 };
      manufacturer_code = record { 0 = 0 };
      sequence_number = sequence;
      command_identifier = record { 0 = command };
      body = 0;
    }

-- ---- the bits

type_bits : (control other : ℕ) → control % 4 ≡ other % 4 → frame_type_of control ≡ frame_type_of other
unfolding frame_type_of
type_bits control other e = ap (λ (k : ℕ). cond (eqb k 0) GlobalCommand (cond (eqb k 1) ClusterCommand Reserved)) e

code_bit : (control other : ℕ) → control % 8 ≡ other % 8 → has_code control ≡ has_code other
code_bit control other e =
    let q : control / 4 % 2 ≡ other / 4 % 2 = omega (arith, e) in
    ap (λ (k : ℕ). eqb k 1) q

two_more : (n : ℕ) → leb 4 (suc (suc n)) ≡ leb 2 n
two_more n = go (leb 2 n) refl
  where
    go : (x : Bool) → leb 2 n ≡ x → leb 4 (suc (suc n)) ≡ x
    go true l = le-leb 4 (suc (suc n)) (omega (arith, leb-true 2 n l))
    go false l = lt-leb 4 (suc (suc n)) (omega (arith, leb-false 2 n l))

-- ---- whatever is made of a frame, if it goes by the frame's type, the bare header and the body

module _ {X : Type 0} (made : List ℕ → Option ZclHeader → X) (by : FrameType → ZclHeader → List ℕ → X) (short : X)
    (sees : (frame : List ℕ) (h : ZclHeader) → made frame (Some h) ≡ by (frame_type_of h.frame_control.0) (bare h) (drop h.body frame))
    (cut : (frame : List ℕ) → made frame None ≡ short) where
  -- a frame by what lies behind its control byte: past a code of so many bytes, sequence, command, body
  abbrev behind : FrameType → ℕ → List ℕ → X
  behind k n rest = cond (leb (n + 2) (length rest)) (by k (numbered (get_or rest n 0) (get_or rest (n + 1) 0)) (drop (n + 2) rest)) short

  by_length : (control : ℕ) (rest : List ℕ) (coded : Bool) → has_code control ≡ coded → (b : Bool) → leb (cond coded 2 0 + 2) (length rest) ≡ b
      → made (control ∷ rest) (header_of (control ∷ rest))
      ≡ cond b (by (frame_type_of control) (numbered (get_or rest (cond coded 2 0) 0) (get_or rest (cond coded 2 0 + 1) 0)) (drop (cond coded 2 0 + 2) rest)) short
  by_length control rest true e true l =
      let h : 4 ≤ length rest = leb-true 4 (length rest) l in
      ap (made (control ∷ rest)) (header_coded (control ∷ rest) e (omega arith)) ∙ sees (control ∷ rest) _
  by_length control rest true e false l =
      let h : length rest < 4 = leb-false 4 (length rest) l in
      ap (made (control ∷ rest)) (header_coded_short (control ∷ rest) e (omega arith)) ∙ cut (control ∷ rest)
  by_length control rest false e true l =
      let h : 2 ≤ length rest = leb-true 2 (length rest) l in
      ap (made (control ∷ rest)) (header_plain (control ∷ rest) e (omega arith)) ∙ sees (control ∷ rest) _
  by_length control rest false e false l =
      let h : length rest < 2 = leb-false 2 (length rest) l in
      ap (made (control ∷ rest)) (header_short (control ∷ rest) (omega arith)) ∙ cut (control ∷ rest)

  header_behind : (control : ℕ) (rest : List ℕ) (coded : Bool) → has_code control ≡ coded
      → made (control ∷ rest) (header_of (control ∷ rest)) ≡ behind (frame_type_of control) (cond coded 2 0) rest
  header_behind control rest coded e = by_length control rest coded e (leb (cond coded 2 0 + 2) (length rest)) refl

  -- control bits 3 to 7
  bits_alike : (control other : ℕ) (rest : List ℕ) → control % 8 ≡ other % 8
      → made (control ∷ rest) (header_of (control ∷ rest)) ≡ made (other ∷ rest) (header_of (other ∷ rest))
  bits_alike control other rest e =
      header_behind control rest (has_code control) refl
      ∙ ap (λ (k : FrameType). behind k (cond (has_code control) 2 0) rest) (type_bits control other (omega (arith, e)))
      ∙ sym (header_behind other rest (has_code control) (sym (code_bit control other e)))

  -- the manufacturer code
  code_alike : (control a b : ℕ) (rest : List ℕ) → control / 4 % 2 ≡ 0
      → made ((control + 4) ∷ a ∷ b ∷ rest) (header_of ((control + 4) ∷ a ∷ b ∷ rest)) ≡ made (control ∷ rest) (header_of (control ∷ rest))
  code_alike control a b rest e =
      header_behind (control + 4) (a ∷ b ∷ rest) true coded
      ∙ ap (λ (k : FrameType). behind k 2 (a ∷ b ∷ rest)) (type_bits (control + 4) control (omega arith))
      ∙ ap (λ (x : Bool). cond x (by (frame_type_of control) (numbered (get_or rest 0 0) (get_or rest 1 0)) (drop 2 rest)) short) (two_more (length rest))
      ∙ sym (header_behind control rest false plain)
    where
      coded : has_code (control + 4) ≡ true
      coded = let q : (control + 4) / 4 % 2 ≡ 1 = omega (arith, e) in eq-eqb ((control + 4) / 4 % 2) 1 q

      plain : has_code control ≡ false
      plain = ne_eqb (control / 4 % 2) 1 (λ q. absurd (omega (arith, e, q)))

-- ---- a request

module _ (form limit : ℕ) (s : List ℕ) where
  module _ (t : Table) (unicast : Bool) (room : ℕ) where
    abbrev served_by : FrameType → ZclHeader → List ℕ → Outcome State
    served_by k h body = typed form limit s t unicast h body room k

    request_sees : (frame : List ℕ) (h : ZclHeader)
        → by_header form limit s t unicast frame room (Some h) ≡ served_by (frame_type_of h.frame_control.0) (bare h) (drop h.body frame)
    unfolding by_header
    request_sees frame h = typed_sees form limit s t unicast h (drop h.body frame) room (frame_type_of h.frame_control.0)

    request_cut : (frame : List ℕ) → by_header form limit s t unicast frame room None ≡ refused room HeaderShort (state s t)
    unfolding by_header
    request_cut frame = refl

  module _ (cluster : ℕ) (unicast : Bool) (room : ℕ) (frame other : List ℕ)
      (same : (t : Table) → by_header form limit s t unicast frame room (header_of frame) ≡ by_header form limit s t unicast other room (header_of other)) where
    tabled_alike : (t : Table) → tabled form limit s cluster unicast frame room t ≡ tabled form limit s cluster unicast other room t
    unfolding tabled
    tabled_alike (holding l) =
        ap (λ (o : Outcome State). cond (eqb cluster (cluster_of s)) o (refused room OtherCluster (state s (holding l)))) (same (holding l))
    tabled_alike (bad t) = refl

    -- what holds from the header on holds from the start
    served_alike : (t : Table) → serve form limit s t cluster unicast frame room ≡ serve form limit s t cluster unicast other room
    unfolding serve
    served_alike t = ap (λ (o : Outcome State). cond (is_store form s) o (refused room NotAStore (state s t))) (tabled_alike t)

pub control_bits : ControlBitsDoNotMatter
control_bits form limit s t cluster unicast room control other rest e =
    served_alike form limit s cluster unicast room (control ∷ rest) (other ∷ rest)
    (λ u. bits_alike (λ frame r. by_header form limit s u unicast frame room r) (served_by form limit s u unicast room) _ (request_sees form limit s u unicast room) (request_cut form limit s u unicast room) control other rest e) t

pub manufacturer_code : ManufacturerCodeDoesNotMatter
manufacturer_code form limit s t cluster unicast room control a b rest e =
    served_alike form limit s cluster unicast room ((control + 4) ∷ a ∷ b ∷ rest) (control ∷ rest)
    (λ u. code_alike (λ frame r. by_header form limit s u unicast frame room r) (served_by form limit s u unicast room) _ (request_sees form limit s u unicast room) (request_cut form limit s u unicast room) control a b rest e) t

-- ---- the responder

module _ (unicast : Bool) (room : ℕ) where
  abbrev responded_by : FrameType → ZclHeader → List ℕ → Outcome (Unit {0})
  responded_by k h body =
      cond (is_global k && eqb h.command_identifier.0 (command_code DefaultResponse)) (refused room NothingToSend no_state) (default_response h unicast UnsupportedCluster room)

  response_sees : (frame : List ℕ) (h : ZclHeader) → respond unicast room (Some h) ≡ responded_by (frame_type_of h.frame_control.0) (bare h) (drop h.body frame)
  unfolding respond
  response_sees frame h = ap (cond (is_default_response h) (refused room NothingToSend no_state)) (default_sees UnsupportedCluster refl h unicast room)

  response_cut : (frame : List ℕ) → respond unicast room None ≡ refused room HeaderShort no_state
  unfolding respond
  response_cut frame = refl

responded_alike : (served : List ℕ) (cluster : ℕ) (unicast : Bool) (room : ℕ) (frame other : List ℕ) → respond unicast room (header_of frame) ≡ respond unicast room (header_of other)
    → unsupported_cluster served cluster unicast frame room ≡ unsupported_cluster served cluster unicast other room
unfolding unsupported_cluster
responded_alike served cluster unicast room frame other e = ap (cond (is_served cluster served) (refused room NothingToSend no_state)) e

pub responder_control_bits : ResponderControlBitsDoNotMatter
responder_control_bits served cluster unicast room control other rest e =
    responded_alike served cluster unicast room (control ∷ rest) (other ∷ rest)
    (bits_alike (λ frame r. respond unicast room r) (responded_by unicast room) _ (response_sees unicast room) (response_cut unicast room) control other rest e)

pub responder_manufacturer_code : ResponderManufacturerCodeDoesNotMatter
responder_manufacturer_code served cluster unicast room control a b rest e =
    responded_alike served cluster unicast room ((control + 4) ∷ a ∷ b ∷ rest) (control ∷ rest)
    (code_alike (λ frame r. respond unicast room r) (responded_by unicast room) _ (response_sees unicast room) (response_cut unicast room) control a b rest e)
