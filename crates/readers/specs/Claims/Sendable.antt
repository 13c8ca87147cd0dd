-- Claims. The records that a reply can hold: their numbers fit their fields, and a value is a whole value of its type.
use Rattle.std.specs.Prelude.{◌≡◌, false, ℕ, ◌*◌, ◌^◌, ◌≤◌, ◌<◌, List, length, Ok}
use Rattle.types.specs.Extent.{extent_of}
use Rattle.frame.specs.Walk.{All}
use Rattle.read.specs.Read.{ReadRecord, value, failure}
use Rattle.write.specs.Reply as Write
use Rattle.configure.specs.Request.{change_width}
use Rattle.configure.specs.Configure as Configure
use Rattle.configure.specs.Configuration as Configuration
use Rattle.discover.specs.Discover.{Discovered}
use Rattle.report.specs.Report.{ReportRecord}
use Rattle.readers.specs.Replies.{Discovery}

-- these bytes are one value of a type, to their end
abbrev pub Whole : ℕ → List ℕ → Type 0
Whole t v = extent_of v 0 t ≡ Ok (length v)

abbrev pub Failed : ℕ → Type 0
Failed status = status ≡ 0 → ⊥

abbrev pub ReadSendable : ReadRecord → Type 0
ReadSendable (value id t v) = (id < 2 ^ 16) × Whole t v
ReadSendable (failure id status) = (id < 2 ^ 16) × Failed status

abbrev pub WriteSendable : Write.Failure → Type 0
WriteSendable f = Failed f.status × (f.id < 2 ^ 16)

abbrev pub ConfigureSendable : Configure.Failure → Type 0
ConfigureSendable f = Failed f.status × (f.id < 2 ^ 16)

-- a frame has no field for the mark
abbrev pub SettingSendable : Configuration.SettingRecord → Type 0
SettingSendable (Configuration.setting direction id t g) =
    (id < 2 ^ 16) × (g.min_interval < 2 ^ 16) × (g.max_interval < 2 ^ 16) × (g.reportable_change < 2 ^ (8 * change_width t)) × (g.unsigned ≡ false)
SettingSendable (Configuration.failure status direction id) = Failed status × (id < 2 ^ 16)

abbrev pub ReportSendable : ReportRecord → Type 0
ReportSendable r = (r.id < 2 ^ 16) × Whole r.type r.value

abbrev pub DiscoverySendable : Discovery → Type 0
DiscoverySendable d = (d.complete ≤ 1) × All (λ (r : Discovered). r.id < 2 ^ 16) d.attributes
