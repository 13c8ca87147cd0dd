-- The commands by their tags, and those that need no table. Assumes nothing.
use mathlib.Core.Path.{◌≡◌, refl}
use mathlib.Core.Bool.{Bool, false, ◌&&◌, true≢false}
use mathlib.Core.List.{List, [], ◌∷◌}
use Prim.Native.Nat.{ℕ}
use types.Run.{OneOf, miss}
use denote.Enum.Declared.{tag_of}
use Rattle.frame.specs.declared.header.ZclHeader.{ZclHeader}
use Rattle.frame.specs.declared.header.FrameType.{FrameType}
use Rattle.frame.specs.declared.header.FrameType.TheVariants.{GlobalCommand, ClusterCommand, Reserved}
use Rattle.frame.specs.declared.command_identifier.CommandIdentifier.{CommandIdentifier}
use Rattle.frame.specs.declared.command_identifier.CommandIdentifier.TheVariants.{ReadAttributes, ReadAttributesResponse, WriteAttributes, WriteAttributesUndivided, WriteAttributesResponse, WriteAttributesNoResponse, ConfigureReporting, ConfigureReportingResponse, ReadReportingConfiguration, ReadReportingConfigurationResponse, ReportAttributes, DefaultResponse, DiscoverAttributes, DiscoverAttributesResponse, Other}
use Rattle.frame.specs.Header.{frame_type_of, is_global}
use Rattle.frame.specs.CommandIdentifier.{command_of}
use Rattle.frame.specs.contracts.command_identifier.CommandIdentifier as command-identifier
use Rattle.reporting.specs.Table.{Table}
use Rattle.server.specs.Serve.{storing, unsupported, commanded, typed}
use Rattle.server.specs.Claims.WithoutTable.{uses_table, store_alone, TableNotNeeded}

-- ---- all but the seven and the Default Response

abbrev rest : List ℕ
rest = 1 ∷ 4 ∷ 7 ∷ 9 ∷ 10 ∷ 13 ∷ 14 ∷ []

module _ (form limit : ℕ) (s : List ℕ) (t : Table) (unicast : Bool) (h : ZclHeader) (body : List ℕ) (room : ℕ) where
  pub rest_unsupported : (c : CommandIdentifier) → OneOf (1 ∷ 4 ∷ 7 ∷ 9 ∷ 10 ∷ 13 ∷ 14 ∷ []) (tag_of command-identifier.the_type c) → unsupported s t unicast h room ≡ commanded form limit s t unicast h body room c
  unfolding commanded
  rest_unsupported ReadAttributes o = absurd (miss rest 0 tt o)
  rest_unsupported ReadAttributesResponse o = refl
  rest_unsupported WriteAttributes o = absurd (miss rest 2 tt o)
  rest_unsupported WriteAttributesUndivided o = absurd (miss rest 3 tt o)
  rest_unsupported WriteAttributesResponse o = refl
  rest_unsupported WriteAttributesNoResponse o = absurd (miss rest 5 tt o)
  rest_unsupported ConfigureReporting o = absurd (miss rest 6 tt o)
  rest_unsupported ConfigureReportingResponse o = refl
  rest_unsupported ReadReportingConfiguration o = absurd (miss rest 8 tt o)
  rest_unsupported ReadReportingConfigurationResponse o = refl
  rest_unsupported ReportAttributes o = refl
  rest_unsupported DefaultResponse o = absurd (miss rest 11 tt o)
  rest_unsupported DiscoverAttributes o = absurd (miss rest 12 tt o)
  rest_unsupported DiscoverAttributesResponse o = refl
  rest_unsupported (Other b) o = refl

-- ---- a frame that needs no table

module _ (form limit other : ℕ) (s : List ℕ) (t u : Table) (unicast : Bool) (h : ZclHeader) (body : List ℕ) (room : ℕ) where
  command_alone : (c : CommandIdentifier) → uses_table c ≡ false → storing t (store_alone (commanded form other s u unicast h body room c)) ≡ commanded form limit s t unicast h body room c
  unfolding commanded
  command_alone ReadAttributes e = refl
  command_alone ReadAttributesResponse e = refl
  command_alone WriteAttributes e = refl
  command_alone WriteAttributesUndivided e = refl
  command_alone WriteAttributesResponse e = refl
  command_alone WriteAttributesNoResponse e = refl
  command_alone ConfigureReporting e = absurd (true≢false e)
  command_alone ConfigureReportingResponse e = refl
  command_alone ReadReportingConfiguration e = absurd (true≢false e)
  command_alone ReadReportingConfigurationResponse e = refl
  command_alone ReportAttributes e = refl
  command_alone DefaultResponse e = refl
  command_alone DiscoverAttributes e = refl
  command_alone DiscoverAttributesResponse e = refl
  command_alone (Other b) e = refl

  typed_alone : (k : FrameType) → (is_global k && uses_table (command_of h.command_identifier.0)) ≡ false
      → storing t (store_alone (typed form other s u unicast h body room k)) ≡ typed form limit s t unicast h body room k
  unfolding typed
  typed_alone GlobalCommand e = command_alone (command_of h.command_identifier.0) e
  typed_alone ClusterCommand e = refl
  typed_alone Reserved e = refl

pub table_not_needed : TableNotNeeded
table_not_needed form limit other s t u unicast h body room e = typed_alone form limit other s t u unicast h body room (frame_type_of h.frame_control.0) e
