-- One case split for each of the server's definitions: what holds of every refusal before a command, and of every command, holds of every
-- request. Assumes nothing.
use Rattle.std.specs.Prelude.{None, Option, Some}
use mathlib.Core.Path.{◌≡◌, refl, sym, ◌∙◌, subst}
use mathlib.Core.Bool.{Bool, true, false, cond}
use mathlib.Core.List.{List}
use Prim.Native.Nat.{ℕ}
use lib.Dec.{eqb}
use Rattle.frame.specs.declared.header.ZclHeader.{ZclHeader}
use Rattle.frame.specs.declared.header.FrameType.{FrameType}
use Rattle.frame.specs.declared.header.FrameType.TheVariants.{GlobalCommand, ClusterCommand, Reserved}
use Rattle.frame.specs.declared.command_identifier.CommandIdentifier.{CommandIdentifier}
use Rattle.frame.specs.declared.command_identifier.CommandIdentifier.TheVariants.{ReadAttributes, ReadAttributesResponse, WriteAttributes, WriteAttributesUndivided, WriteAttributesResponse, WriteAttributesNoResponse, ConfigureReporting, ConfigureReportingResponse, ReadReportingConfiguration, ReadReportingConfigurationResponse, ReportAttributes, DefaultResponse, DiscoverAttributes, DiscoverAttributesResponse, Other}
use Rattle.frame.specs.declared.answer.Refusal.{Refusal}
use Rattle.frame.specs.declared.answer.Refusal.TheVariants.{OtherCluster, HeaderShort, ReservedFrameType, NothingToSend, NotAStore, NotATable}
use Rattle.frame.specs.Header.{header_of}
use Rattle.frame.specs.CommandIdentifier.{command_of}
use Rattle.frame.specs.Answer.{Outcome, no_state, refused}
use Rattle.store.specs.Contents.{cluster_of}
use Rattle.store.specs.Layout.{is_store}
use Rattle.reporting.specs.declared.entry.Entry.{Entry}
use Rattle.reporting.specs.Table.{Table, holding, bad}
use Rattle.read.specs.Read.{read_of}
use Rattle.write.specs.Write.{write_attributes, write_undivided, write_silently}
use Rattle.discover.specs.Discover.{discover_of}
use Rattle.configure.specs.Configure.{configure_of}
use Rattle.configure.specs.Configuration.{configuration_of}
use Rattle.server.specs.Serve.{State, state, neither, storing, tabling, unsupported, commanded, typed, by_header, tabled, serve}
use Rattle.server.specs.Claims.Left.{When, before, inside, never, when, Early}

-- ---- the seven commands, the Default Response and the rest, as functions of the request's header

module _ (form limit : ℕ) (s : List ℕ) (t : Table) (unicast : Bool) (body : List ℕ) (room : ℕ) (P : (ZclHeader → Outcome State) → Type 0) where
  pub record Each : Type 0 where
    pub read : P (λ h. neither s t (read_of form s h body room))
    pub write : P (λ h. storing t (write_attributes form s h body room))
    pub undivided : P (λ h. storing t (write_undivided form s h body room))
    pub silently : P (λ h. storing t (write_silently form s h body room))
    pub configure : P (λ h. tabling s (configure_of form limit s t h body room))
    pub configuration : P (λ h. neither s t (configuration_of form s t h body room))
    pub discover : P (λ h. neither s t (discover_of form s h body room))
    pub response : P (λ h. neither s t (refused room NothingToSend no_state))
    pub other : P (λ h. unsupported s t unicast h room)

  pub commanded_case : Each → (c : CommandIdentifier) → P (λ h. commanded form limit s t unicast h body room c)
  unfolding commanded
  commanded_case e ReadAttributes = e.read
  commanded_case e WriteAttributes = e.write
  commanded_case e WriteAttributesUndivided = e.undivided
  commanded_case e WriteAttributesNoResponse = e.silently
  commanded_case e ConfigureReporting = e.configure
  commanded_case e ReadReportingConfiguration = e.configuration
  commanded_case e DiscoverAttributes = e.discover
  commanded_case e ReadAttributesResponse = e.other
  commanded_case e WriteAttributesResponse = e.other
  commanded_case e ConfigureReportingResponse = e.other
  commanded_case e ReadReportingConfigurationResponse = e.other
  commanded_case e ReportAttributes = e.other
  commanded_case e DefaultResponse = e.response
  commanded_case e DiscoverAttributesResponse = e.other
  commanded_case e (Other b) = e.other

-- ---- a request

-- refused by a command itself
abbrev pub Own : Refusal → Type 0
Own why = when why ≡ inside

abbrev IsBefore : When → Type 0
IsBefore before = Unit {0}
IsBefore inside = ⊥
IsBefore never = ⊥

pub apart : (why : Refusal) → Early why → Own why → ⊥
apart why e o = subst IsBefore (sym e ∙ o) tt

module _ (form limit : ℕ) (s : List ℕ) (unicast : Bool) (room : ℕ) (Q : Table → Outcome State → Type 0)
    (early : (t : Table) (why : Refusal) → Early why → Q t (refused room why (state s t))) where
  either : (t : Table) (b : Bool) (x : Outcome State) (why : Refusal) → Early why → Q t x → Q t (cond b x (refused room why (state s t)))
  either t true x why e q = q
  either t false x why e q = early t why e

  -- of one frame: by what it gets where 7, 8 and 1 let it pass
  module _ (cluster : ℕ) (frame : List ℕ) (passed : (l : List Entry) → Q (holding l) (by_header form limit s (holding l) unicast frame room (header_of frame))) where
    tabled_case : (t : Table) → Q t (tabled form limit s cluster unicast frame room t)
    unfolding tabled
    tabled_case (holding l) = either (holding l) (eqb cluster (cluster_of s)) _ OtherCluster refl (passed l)
    tabled_case (bad t) = early (bad t) NotATable refl

    pub passed_case : (t : Table) → Q t (serve form limit s t cluster unicast frame room)
    unfolding serve
    passed_case t = either t (is_store form s) _ NotAStore refl (tabled_case t)

  -- of every frame: by what every command does
  module _ (own : (l : List Entry) (h : ZclHeader) (body : List ℕ) (c : CommandIdentifier) → Q (holding l) (commanded form limit s (holding l) unicast h body room c)) where
    typed_case : (l : List Entry) (h : ZclHeader) (body : List ℕ) (k : FrameType) → Q (holding l) (typed form limit s (holding l) unicast h body room k)
    unfolding typed commanded
    typed_case l h body GlobalCommand = own l h body (command_of h.command_identifier.0)
    typed_case l h body ClusterCommand = own l h body ReadAttributesResponse
    typed_case l h body Reserved = early (holding l) ReservedFrameType refl

    header_case : (l : List Entry) (frame : List ℕ) (r : Option ZclHeader) → Q (holding l) (by_header form limit s (holding l) unicast frame room r)
    unfolding by_header
    header_case l frame (Some h) = typed_case l h _ _
    header_case l frame None = early (holding l) HeaderShort refl

    pub serve_case : (cluster : ℕ) (frame : List ℕ) (t : Table) → Q t (serve form limit s t cluster unicast frame room)
    serve_case cluster frame = passed_case cluster frame (λ l. header_case l frame (header_of frame))
