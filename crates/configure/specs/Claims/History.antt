-- Claims. The events of a Configure Reporting frame (reporting, specs/Claims/Events.antt), read off its records and their statuses; that they lead to the
-- entries which the frame leaves is claimed in specs/Claims/Leads.antt.
use Rattle.std.specs.Prelude.{cond, List, [], ◌∷◌, ◌++◌, ℕ, length, leb}
use Rattle.frame.specs.declared.header.ZclHeader.{ZclHeader}
use Rattle.frame.specs.declared.command_identifier.CommandIdentifier.TheVariants.{ConfigureReportingResponse}
use Rattle.frame.specs.Header.{reply_head}
use Rattle.frame.specs.Walk.{taken}
use Rattle.frame.specs.Encoded.{fits}
use Rattle.frame.specs.Failures.{sofar, done_with}
use Rattle.reporting.specs.declared.entry.Entry.{Entry}
use Rattle.reporting.specs.Wish.{wish}
use Rattle.reporting.specs.Claims.Events.{Event, events_w, if_success}
use Rattle.configure.specs.Request.{key_for, ConfigureRecord, received, reported, configures}
use Rattle.configure.specs.Configure.{encode, tried, configuring}

-- what a record is that succeeds: its key was cleared, or configured
abbrev pub done_events : List ℕ → ZclHeader → ConfigureRecord → List Event
done_events s request (received direction id) = []
done_events s request (reported id t g) = events_w (wish g) (key_for s request id) g

-- a record at the entries that it meets; with a status other than 00 it is none
unfoldable pub record_events : ℕ → ℕ → List ℕ → ZclHeader → List Entry → ConfigureRecord → List Event
record_events form limit s request l r = if_success (tried form limit s request l r).status (done_events s request r)

-- records, each at the entries that those before it leave
unfoldable pub all_events : ℕ → ℕ → List ℕ → ZclHeader → List Entry → List ConfigureRecord → List Event
all_events form limit s request l [] = []
all_events form limit s request l (r ∷ rs) = record_events form limit s request l r ++ all_events form limit s request (tried form limit s request l r).state rs

-- the records that are done behind a header of so many bytes: all that can be read, up to the first whose failure does not fit, and this one too
unfoldable pub records_done : ℕ → ℕ → List ℕ → ZclHeader → List Entry → List ℕ → ℕ → ℕ → List ConfigureRecord
records_done form limit s request l body room head =
    taken (done_with (configuring form limit s request)) (λ x. fits encode room head x.failures) (sofar l []) (configures body).list

-- THE EVENTS of a frame, in a table with these entries: those of the records that are done, and none where the header does not fit
unfoldable pub configure_events : ℕ → ℕ → List ℕ → List Entry → ZclHeader → List ℕ → ℕ → List Event
configure_events form limit s l request body room =
    let head : ℕ = length (reply_head request ConfigureReportingResponse) in
    cond (leb head room) (all_events form limit s request l (records_done form limit s request l body room head)) []
