-- A served request is its events, and leaves a table of entries again; so requests, direct calls and turns, one after the other, are their events.
-- Assumes nothing.
use Rattle.std.specs.Prelude.{None, Option, Some}
use mathlib.Core.Path.{◌≡◌, refl, sym, ap, ◌∙◌, subst}
use mathlib.Core.Bool.{Bool, true, false, cond, ◌&&◌}
use mathlib.Core.List.{List, [], ◌∷◌}
use Prim.Native.Nat.{ℕ}
use native.Mathlib.Omega.{arith}
use lib.ListN.{drop}
use lib.Dec.{eqb}
use borrow.Author.Tests.{ne_eqb}
use denote.Enum.Declared.{tag_of}
use Rattle.frame.specs.declared.header.ZclHeader.{ZclHeader}
use Rattle.frame.specs.declared.header.FrameType.{FrameType}
use Rattle.frame.specs.declared.header.FrameType.TheVariants.{GlobalCommand, ClusterCommand, Reserved}
use Rattle.frame.specs.declared.command_identifier.CommandIdentifier.{CommandIdentifier}
use Rattle.frame.specs.declared.command_identifier.CommandIdentifier.TheVariants.{ReadAttributes, ReadAttributesResponse, WriteAttributes, WriteAttributesUndivided, WriteAttributesResponse, WriteAttributesNoResponse, ConfigureReporting, ConfigureReportingResponse, ReadReportingConfiguration, ReadReportingConfigurationResponse, ReportAttributes, DefaultResponse, DiscoverAttributes, DiscoverAttributesResponse, Other}
use Rattle.frame.specs.declared.answer.Refusal.TheVariants.{OtherCluster, NotAStore}
use Rattle.frame.specs.Header.{frame_type_of, header_of, is_global}
use Rattle.frame.specs.CommandIdentifier.{command_code, command_of}
use Rattle.frame.specs.Answer.{refused}
use Rattle.frame.specs.contracts.command_identifier.CommandIdentifier as command-identifier
use Rattle.frame.proofs.Codes.{code_of, of_code}
use Rattle.store.specs.Contents.{cluster_of}
use Rattle.store.specs.Layout.{is_store}
use Rattle.reporting.specs.declared.entry.Entry.{Entry}
use Rattle.reporting.specs.Table.{Table, holding, entries_of}
use Rattle.reporting.specs.Claims.Events.{Event, Leads}
use Rattle.reporting.proofs.Histories.{call_is, leads_then}
use Rattle.report.proofs.Rows.{turn_leads}
use Rattle.configure.specs.Configure.{configure_of}
use Rattle.configure.specs.Claims.History.{configure_events}
use Rattle.configure.proofs.History.{configure_leads}
use Rattle.server.specs.Serve.{state, commanded, typed, by_header, tabled, serve}
use Rattle.server.specs.Claims.History.{Request, requested, headed_events, request_events, Use, request, direct, turn, used, use_events, uses, uses_events, UsesAreEvents}
use Rattle.server.proofs.Cases.{commanded_case, serve_case}

-- no events leave the entries
nothing : (limit : ℕ) (l : List Entry) → Leads limit [] l l
nothing limit l = record { honest = tt; table = refl }

-- ---- a request

module _ (limit : ℕ) (r : Request) (l : List Entry) where
  module _ (h : ZclHeader) where
    -- what the header's body would be as a Configure Reporting frame
    abbrev own : List Event
    own = configure_events 8 limit r.store l h (drop h.body r.frame) r.room

    -- only Configure Reporting changes the table, and only it has the code 06
    by_command : (c : CommandIdentifier) → command_of (command_code c) ≡ c
        → Leads limit (cond (eqb (command_code c) (command_code ConfigureReporting)) own []) l
        (entries_of (commanded 8 limit r.store (holding l) r.unicast h (drop h.body r.frame) r.room c).state.table)
    unfolding commanded configure_of command_of
    by_command ReadAttributes e = nothing limit l
    by_command ReadAttributesResponse e = nothing limit l
    by_command WriteAttributes e = nothing limit l
    by_command WriteAttributesUndivided e = nothing limit l
    by_command WriteAttributesResponse e = nothing limit l
    by_command WriteAttributesNoResponse e = nothing limit l
    by_command ConfigureReporting e = configure_leads 8 limit r.store l h (drop h.body r.frame) r.room
    by_command ConfigureReportingResponse e = nothing limit l
    by_command ReadReportingConfiguration e = nothing limit l
    by_command ReadReportingConfigurationResponse e = nothing limit l
    by_command ReportAttributes e = nothing limit l
    by_command DefaultResponse e = nothing limit l
    by_command DiscoverAttributes e = nothing limit l
    by_command DiscoverAttributesResponse e = nothing limit l
    by_command (Other b) e =
        subst (λ (x : Bool). Leads limit (cond x own []) l l)
        (sym (ne_eqb b 6 (λ q. let z : 6 ≡ 14 = ap (tag_of command-identifier.the_type) (ap command_of (sym q) ∙ e) in omega (arith, z))))
        (nothing limit l)

    by_type : (k : FrameType)
        → Leads limit (cond (is_global k && eqb h.command_identifier.0 (command_code ConfigureReporting)) own []) l
        (entries_of (typed 8 limit r.store (holding l) r.unicast h (drop h.body r.frame) r.room k).state.table)
    unfolding typed
    by_type GlobalCommand =
        let b : ℕ = h.command_identifier.0 in
        subst
        (λ (n : ℕ). Leads limit (cond (eqb n (command_code ConfigureReporting)) own []) l
        (entries_of (commanded 8 limit r.store (holding l) r.unicast h (drop h.body r.frame) r.room (command_of b)).state.table))
        (code_of b) (by_command (command_of b) (of_code b))
    by_type ClusterCommand = nothing limit l
    by_type Reserved = nothing limit l

  by-header : (x : Option ZclHeader) → Leads limit (headed_events limit r l x) l (entries_of (by_header 8 limit r.store (holding l) r.unicast r.frame r.room x).state.table)
  unfolding by_header
  by-header (Some h) = by_type h (frame_type_of h.frame_control.0)
  by-header None = nothing limit l

  -- A REQUEST IS ITS EVENTS
  pub request_is : Leads limit (request_events limit r l) l (requested limit r l)
  unfolding request_events requested serve tabled
  request_is = go (is_store 8 r.store) (eqb r.cluster (cluster_of r.store))
    where
      go : (a b : Bool)
          → Leads limit (cond (a && b) (headed_events limit r l (header_of r.frame)) []) l
          (entries_of
          (cond a
          (cond b (by_header 8 limit r.store (holding l) r.unicast r.frame r.room (header_of r.frame)) (refused r.room OtherCluster (state r.store (holding l))))
          (refused r.room NotAStore (state r.store (holding l)))).state.table)
      go true true = by-header (header_of r.frame)
      go true false = nothing limit l
      go false b = nothing limit l

-- ---- what a request leaves is again a table of entries, so that the next use starts from it

abbrev Held : Table → Type 0
Held t = t ≡ holding (entries_of t)

module _ (limit : ℕ) (r : Request) where
  commanded_held : (l : List Entry) (h : ZclHeader) (body : List ℕ) (c : CommandIdentifier)
      → Held (commanded 8 limit r.store (holding l) r.unicast h body r.room c).state.table
  unfolding configure_of
  commanded_held l h body =
      commanded_case 8 limit r.store (holding l) r.unicast body r.room (λ f. Held (f h).state.table)
      (record { read = refl; write = refl; undivided = refl; silently = refl; configure = refl; configuration = refl; discover = refl; response = refl; other = refl })

  pub request_holds : (l : List Entry) → (serve 8 limit r.store (holding l) r.cluster r.unicast r.frame r.room).state.table ≡ holding (requested limit r l)
  unfolding requested
  request_holds l =
      serve_case 8 limit r.store r.unicast r.room (λ t o. Held t → Held o.state.table) (λ t why e h. h) (λ l h body c e. commanded_held l h body c) r.cluster r.frame (holding l) refl

-- ---- uses

pub use_is : (limit : ℕ) (u : Use) (l : List Entry) → Leads limit (use_events limit u l) l (used limit u l)
use_is limit (request r) l = request_is limit r l
use_is limit (direct c) l = call_is limit c l
use_is limit (turn u) l = turn_leads 8 limit u l

pub uses_are_events : UsesAreEvents
uses_are_events limit [] l = nothing limit l
uses_are_events limit (u ∷ us) l =
    leads_then limit (use_events limit u l) (uses_events limit us (used limit u l)) l (used limit u l) (uses limit us (used limit u l)) (use_is limit u l)
    (uses_are_events limit us (used limit u l))
