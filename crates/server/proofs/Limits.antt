-- Requests and direct calls under two limits (specs/Claims/Limits.antt): only Configure Reporting looks at the limit. Assumes nothing.
use Rattle.std.specs.Prelude.{None, Option, Some}
use mathlib.Core.Path.{◌≡◌, refl, ap, ◌∙◌}
use mathlib.Core.Bool.{cond}
use mathlib.Core.List.{List, [], ◌∷◌}
use Prim.Native.Nat.{ℕ, ◌≤◌}
use native.Mathlib.Omega.{arith}
use lib.ListN.{length, drop}
use lib.Dec.{eqb}
use Rattle.frame.specs.declared.header.ZclHeader.{ZclHeader}
use Rattle.frame.specs.declared.header.FrameType.{FrameType}
use Rattle.frame.specs.declared.header.FrameType.TheVariants.{GlobalCommand, ClusterCommand, Reserved}
use Rattle.frame.specs.declared.command_identifier.CommandIdentifier.{CommandIdentifier}
use Rattle.frame.specs.declared.command_identifier.CommandIdentifier.TheVariants.{ReadAttributes, ReadAttributesResponse, WriteAttributes, WriteAttributesUndivided, WriteAttributesResponse, WriteAttributesNoResponse, ConfigureReporting, ConfigureReportingResponse, ReadReportingConfiguration, ReadReportingConfigurationResponse, ReportAttributes, DefaultResponse, DiscoverAttributes, DiscoverAttributesResponse, Other}
use Rattle.frame.specs.declared.answer.Refusal.TheVariants.{OtherCluster, NotAStore}
use Rattle.frame.specs.Header.{frame_type_of, header_of}
use Rattle.frame.specs.CommandIdentifier.{command_of}
use Rattle.frame.specs.Answer.{Outcome, within, refused}
use Rattle.store.specs.Contents.{cluster_of}
use Rattle.store.specs.Layout.{is_store}
use Rattle.reporting.specs.declared.entry.Entry.{Entry}
use Rattle.reporting.specs.Table.{capacity, holding, entries_of}
use Rattle.reporting.proofs.Limits.{agree}
use Rattle.configure.specs.Configure.{configure_of}
use Rattle.configure.specs.Claims.Limits.{FrameWithin}
use Rattle.configure.proofs.Limits.{configure_limits_agree}
use Rattle.server.specs.Serve.{State, state, tabling, commanded, typed, by_header, tabled, serve}
use Rattle.server.specs.Claims.History.{Request, requested, Use, request, direct, turn, used, uses}
use Rattle.server.specs.Claims.Limits.{served, RequestWithin, ServeLimitsAgree, outcome, said, given, all_given, UseWithin, UsesWithin, UsesLimitsAgree, UsesSixteenAsBefore}

module _ (small large : ℕ) (order : small ≤ large) (r : Request) (l : List Entry) (h : RequestWithin small large r l) where
  -- ---- by the command

  abbrev asked : ℕ → ZclHeader → CommandIdentifier → Outcome State
  asked limit x c = commanded 8 limit r.store (holding l) r.unicast x (drop x.body r.frame) r.room c

  by_command : (x : ZclHeader) (c : CommandIdentifier) → (c ≡ ConfigureReporting → FrameWithin 8 small large r.store l x (drop x.body r.frame) r.room) → asked small x c ≡ asked large x c
  unfolding commanded configure_of
  by_command x ReadAttributes w = refl
  by_command x ReadAttributesResponse w = refl
  by_command x WriteAttributes w = refl
  by_command x WriteAttributesUndivided w = refl
  by_command x WriteAttributesResponse w = refl
  by_command x WriteAttributesNoResponse w = refl
  by_command x ConfigureReporting w =
      ap (λ (o : Outcome (List Entry)). tabling r.store (within holding o)) (configure_limits_agree 8 small large r.store l x (drop x.body r.frame) r.room order (w refl))
  by_command x ConfigureReportingResponse w = refl
  by_command x ReadReportingConfiguration w = refl
  by_command x ReadReportingConfigurationResponse w = refl
  by_command x ReportAttributes w = refl
  by_command x DefaultResponse w = refl
  by_command x DiscoverAttributes w = refl
  by_command x DiscoverAttributesResponse w = refl
  by_command x (Other b) w = refl

  by_type : (x : ZclHeader) (k : FrameType) → header_of r.frame ≡ Some x → frame_type_of x.frame_control.0 ≡ k
      → typed 8 small r.store (holding l) r.unicast x (drop x.body r.frame) r.room k ≡ typed 8 large r.store (holding l) r.unicast x (drop x.body r.frame) r.room k
  unfolding typed
  by_type x GlobalCommand p q = by_command x (command_of x.command_identifier.0) (λ c. h x (record { header = p; global = q; command = c }))
  by_type x ClusterCommand p q = refl
  by_type x Reserved p q = refl

  by-header : (x : Option ZclHeader) → header_of r.frame ≡ x → by_header 8 small r.store (holding l) r.unicast r.frame r.room x ≡ by_header 8 large r.store (holding l) r.unicast r.frame r.room x
  unfolding by_header
  by-header (Some x) p = by_type x (frame_type_of x.frame_control.0) p refl
  by-header None p = refl

  served_same : served small r l ≡ served large r l
  unfolding serve tabled
  served_same =
      ap
      (λ (o : Outcome State).
      cond (is_store 8 r.store) (cond (eqb r.cluster (cluster_of r.store)) o (refused r.room OtherCluster (state r.store (holding l)))) (refused r.room NotAStore (state r.store (holding l))))
      (by-header (header_of r.frame) refl)

pub serve_limits_agree : ServeLimitsAgree
serve_limits_agree small large r l order h = served_same small large order r l h

-- ---- uses

first_few : (small large : ℕ) (us : List Use) (l : List Entry) → UsesWithin small large us l → length l ≤ small
first_few small large [] l h = h
first_few small large (u ∷ us) l h = h.0

record Same (small large : ℕ) (u : Use) (l : List Entry) : Type 0 where
  gives : given small u l ≡ given large u l
  leaves : used small u l ≡ used large u l

use_same : (small large : ℕ) (u : Use) (l : List Entry) → small ≤ large → length l ≤ small → UseWithin small large u l → length (used large u l) ≤ small → Same small large u l
unfolding requested
use_same small large (request r) l order few h k =
    let s = serve_limits_agree small large r l order h in
    record { gives = ap outcome s; leaves = ap (λ (o : Outcome State). entries_of o.state.table) s }
use_same small large (direct c) l order few h k = let a = agree small large order l few c k in record { gives = ap said a.said; leaves = a.left }
use_same small large (turn u) l order few h k = record { gives = refl; leaves = refl }

pub uses_limits_agree : UsesLimitsAgree
uses_limits_agree small large [] l order h = (refl, refl)
uses_limits_agree small large (u ∷ us) l order h =
    let a = use_same small large u l order h.0 h.1.0 (first_few small large us (used large u l) h.1.1) in
    let more = uses_limits_agree small large us (used large u l) order h.1.1 in (
      (λ i. a.gives i ∷ (ap (all_given small us) a.leaves ∙ more.0) i),
      ap (uses small us) a.leaves ∙ more.1,
    )

pub uses_sixteen_as_before : UsesSixteenAsBefore
uses_sixteen_as_before us h = uses_limits_agree 16 capacity us [] (omega arith) h
