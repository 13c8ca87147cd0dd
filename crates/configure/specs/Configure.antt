-- Definitions. Configure Reporting (document 01, "Commands, step by step", Configure; ZCL 2.5.7, 2.5.8), on the entries of the reporting table.
use Rattle.std.specs.Prelude.{ℕ, cond, List, ◌∷◌, eqb, None, Option, Some}
use Rattle.types.specs.Number.{bytes_of}
use Rattle.frame.specs.declared.header.ZclHeader.{ZclHeader}
use Rattle.frame.specs.declared.command_identifier.CommandIdentifier.TheVariants.{ConfigureReportingResponse}
use Rattle.frame.specs.declared.status.Status.{Status}
use Rattle.frame.specs.declared.status.Status.TheVariants.{UnsupportedAttribute, UnreportableAttribute, InvalidDataType}
use Rattle.frame.specs.declared.answer.Refusal.TheVariants.{NotATable}
use Rattle.frame.specs.Status.{status_code}
use Rattle.frame.specs.Answer.{Outcome, within, refused}
use Rattle.frame.specs.Failures.{Did, did, Doing, performed, headed}
use Rattle.store.specs.declared.lookup.Attribute.{Attribute}
use Rattle.store.specs.Contents.{name_of, find_of, reportable}
use Rattle.reporting.specs.declared.entry.Key.{Key}
use Rattle.reporting.specs.declared.entry.ReportingConfig.{ReportingConfig}
use Rattle.reporting.specs.declared.entry.Entry.{Entry}
use Rattle.reporting.specs.Table.{Table, holding, bad}
use Rattle.reporting.specs.Wish.{record_status, record_entries}
use Rattle.configure.specs.Request.{key_for, ConfigureRecord, received, reported, configures}

-- ---- the reply: failures

pub record Failure : Type 0 where
  pub status : ℕ  -- its byte
  pub direction : ℕ
  pub id : ℕ

abbrev pub failure : ℕ → ℕ → ℕ → Failure
failure why direction id = record { status = why; direction = direction; id = id }

abbrev pub failing : Status → ConfigureRecord → Failure
failing why (received direction id) = failure (status_code why) direction id
failing why (reported id t g) = failure (status_code why) 0 id

-- status (1), direction (1), id (2)
abbrev pub encode : Failure → List ℕ
encode f = f.status ∷ f.direction ∷ bytes_of 2 f.id

-- ---- a record: its status, and the entries afterwards

-- not found 86; not reportable 8c; other type 8d; else as the intervals and the table say
abbrev pub checked : Option Attribute → ℕ → List Entry → Did (List Entry) → Did (List Entry)
checked None t l fine = did UnsupportedAttribute l
checked (Some a) t l fine =
    cond (reportable a)
    (cond (eqb a.type_id.0 t) fine (did InvalidDataType l))
    (did UnreportableAttribute l)

-- "maximum ffff, or maximum 0 with minimum ffff, clears and succeeds; maximum nonzero and below minimum 87; no room 89" (reporting,
-- specs/Wish.antt)
unfoldable pub setting : ℕ → Key → ReportingConfig → List Entry → Did (List Entry)
setting limit k g l = did (record_status limit k g l) (record_entries limit k g l)

-- direction not 0: 8c
unfoldable pub tried : ℕ → ℕ → List ℕ → ZclHeader → List Entry → ConfigureRecord → Did (List Entry)
tried form limit s request l (received direction id) = did UnreportableAttribute l
tried form limit s request l (reported id t g) =
    checked (find_of form s (name_of request.manufacturer_code.0 id)) t l (setting limit (key_for s request id) g l)

abbrev pub configuring : ℕ → ℕ → List ℕ → ZclHeader → Doing (List Entry) ConfigureRecord Failure
configuring form limit s request = record { does = tried form limit s request; fails = failing; bytes = encode }

-- ---- the command

-- on the entries of a table
unfoldable pub configure_entries : ℕ → ℕ → List ℕ → List Entry → ZclHeader → List ℕ → ℕ → Outcome (List Entry)
configure_entries form limit s l request body room =
    headed request ConfigureReportingResponse l room (performed (configuring form limit s request) (configures body) l room)

-- CONFIGURE REPORTING. A table with a count above the limit is none: 8, and it stays as it was
unfoldable pub configure_of : ℕ → ℕ → List ℕ → Table → ZclHeader → List ℕ → ℕ → Outcome Table
configure_of form limit s (holding l) request body room = within holding (configure_entries form limit s l request body room)
configure_of form limit s (bad t) request body room = refused room NotATable (bad t)
