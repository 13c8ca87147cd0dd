-- Claims. A Configure Reporting frame is its events (document 01, "Configure"; the table: "as the command did", "earlier records stay done").
use Rattle.std.specs.Prelude.{◌≡◌, List, ℕ}
use Rattle.frame.specs.declared.header.ZclHeader.{ZclHeader}
use Rattle.reporting.specs.declared.entry.Entry.{Entry}
use Rattle.reporting.specs.Table.{holding}
use Rattle.reporting.specs.Claims.Events.{run, Leads}
use Rattle.configure.specs.Configure.{configure_entries, configure_of}
use Rattle.configure.specs.Claims.History.{configure_events}

-- they tell the truth of the entries that each meets, and lead to the entries that the frame leaves
abbrev pub ConfigureLeads : Type 0
ConfigureLeads =
    (form limit : ℕ) (s : List ℕ) (l : List Entry) (request : ZclHeader) (body : List ℕ) (room : ℕ)
    → Leads limit (configure_events form limit s l request body room) l (configure_entries form limit s l request body room).state

-- and so the table afterwards holds what they leave, whatever the answer is
abbrev pub ConfigureTable : Type 0
ConfigureTable =
    (form limit : ℕ) (s : List ℕ) (l : List Entry) (request : ZclHeader) (body : List ℕ) (room : ℕ)
    → (configure_of form limit s (holding l) request body room).state ≡ holding (run limit (configure_events form limit s l request body room) l)
