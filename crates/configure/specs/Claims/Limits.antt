-- Claims. A Configure Reporting frame under two limits (document 02, request 7; of calls: reporting, specs/Claims/Limits.antt): the same reply, and the same entries.
use Rattle.std.specs.Prelude.{◌≡◌, List, [], ◌∷◌, ℕ, ◌≤◌, length}
use Rattle.frame.specs.declared.header.ZclHeader.{ZclHeader}
use Rattle.frame.specs.declared.command_identifier.CommandIdentifier.TheVariants.{ConfigureReportingResponse}
use Rattle.frame.specs.Header.{reply_head}
use Rattle.reporting.specs.declared.entry.Entry.{Entry}
use Rattle.configure.specs.Request.{ConfigureRecord}
use Rattle.configure.specs.Configure.{tried, configure_entries}
use Rattle.configure.specs.Claims.History.{records_done}

-- under the larger limit no record meets or leaves more entries than the smaller one has room for
abbrev pub RecordsWithin : ℕ → ℕ → ℕ → List ℕ → ZclHeader → List Entry → List ConfigureRecord → Type 0
RecordsWithin form small large s request l [] = length l ≤ small
RecordsWithin form small large s request l (r ∷ rs) = (length l ≤ small) × RecordsWithin form small large s request (tried form large s request l r).state rs

-- of the records of a frame that are done
abbrev pub FrameWithin : ℕ → ℕ → ℕ → List ℕ → List Entry → ZclHeader → List ℕ → ℕ → Type 0
FrameWithin form small large s l request body room =
    RecordsWithin form small large s request l (records_done form large s request l body room (length (reply_head request ConfigureReportingResponse)))

abbrev pub ConfigureLimitsAgree : Type 0
ConfigureLimitsAgree =
    (form small large : ℕ) (s : List ℕ) (l : List Entry) (request : ZclHeader) (body : List ℕ) (room : ℕ)
    → small ≤ large
    → FrameWithin form small large s l request body room
    → configure_entries form small s l request body room ≡ configure_entries form large s l request body room
