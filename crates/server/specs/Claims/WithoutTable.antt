-- Claims. Frames that have nothing to do with the reporting table.
use Rattle.std.specs.Prelude.{◌≡◌, ℕ, Bool, false, ◌&&◌, ◌||◌, List, eqb}
use Rattle.frame.specs.declared.header.ZclHeader.{ZclHeader}
use Rattle.frame.specs.declared.command_identifier.CommandIdentifier.TheVariants.{ConfigureReporting, ReadReportingConfiguration}
use Rattle.frame.specs.Header.{frame_type_of, is_global}
use Rattle.frame.specs.CommandIdentifier.{command_code, command_of}
use Rattle.frame.specs.declared.command_identifier.CommandIdentifier.{CommandIdentifier}
use Rattle.frame.specs.Answer.{Outcome, within}
use Rattle.reporting.specs.Table.{Table}
use Rattle.server.specs.Serve.{State, storing, typed}

-- the two commands that need it
abbrev pub uses_table : CommandIdentifier → Bool
uses_table c = eqb (command_code c) (command_code ConfigureReporting) || eqb (command_code c) (command_code ReadReportingConfiguration)

abbrev pub needs_table : ZclHeader → Bool
needs_table h = is_global (frame_type_of h.frame_control.0) && uses_table (command_of h.command_identifier.0)

-- an outcome, and of what it changed the store alone
abbrev pub store_alone : Outcome State → Outcome (List ℕ)
store_alone o = within (λ (x : State). x.store) o

-- ---- a law, to be proved

-- a frame that needs no table leaves it as it was, and does the same over any other, whatever the limit
abbrev pub TableNotNeeded : Type 0
TableNotNeeded =
    (form limit other : ℕ) (s : List ℕ) (t u : Table) (unicast : Bool) (h : ZclHeader) (body : List ℕ) (room : ℕ) → needs_table h ≡ false
    → storing t (store_alone (typed form other s u unicast h body room (frame_type_of h.frame_control.0))) ≡ typed form limit s t unicast h body room (frame_type_of h.frame_control.0)
