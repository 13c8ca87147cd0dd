-- Definitions. Read Reporting Configuration (document 01, "Commands, step by step", Read configuration; ZCL 2.5.9, 2.5.10).
use Rattle.std.specs.Prelude.{ℕ, ◌*◌, ◌%◌, ◌^◌, false, cond, List, ◌∷◌, ◌++◌, eqb, None, Option, Some}
use Rattle.types.specs.Number.{bytes_of}
use Rattle.frame.specs.declared.header.ZclHeader.{ZclHeader}
use Rattle.frame.specs.declared.command_identifier.CommandIdentifier.TheVariants.{ReadReportingConfigurationResponse}
use Rattle.frame.specs.declared.status.Status.TheVariants.{UnsupportedAttribute, UnreportableAttribute, NotFound}
use Rattle.frame.specs.declared.answer.Refusal.TheVariants.{NotATable}
use Rattle.frame.specs.Status.{status_code}
use Rattle.frame.specs.Header.{reply_head}
use Rattle.frame.specs.Answer.{Outcome, no_state, refused}
use Rattle.frame.specs.Shortened.{shortened}
use Rattle.store.specs.declared.lookup.Attribute.{Attribute}
use Rattle.store.specs.Contents.{name_of, find_of, reportable}
use Rattle.reporting.specs.declared.entry.Key.{Key}
use Rattle.reporting.specs.declared.entry.ReportingConfig.{ReportingConfig}
use Rattle.reporting.specs.declared.entry.Entry.{Entry}
use Rattle.reporting.specs.Entries.{lookup_l}
use Rattle.reporting.specs.Table.{Table, holding, bad}
use Rattle.configure.specs.Request.{Asked, asked_from, change_width, key_for}

-- ---- the reply: a record for each that was asked

pub data SettingRecord : Type 0 where
  setting : ℕ → ℕ → ℕ → ReportingConfig → SettingRecord  -- direction, id, type, and what is configured as it is sent
  failure : ℕ → ℕ → ℕ → SettingRecord  -- status as its byte, direction, id

-- status (1), direction (1), id (2), and on success type (1), minimum (2), maximum (2) and, if analog, the change cut to its width
unfoldable pub encode : SettingRecord → List ℕ
encode (setting direction id t g) =
    0x00 ∷ direction ∷ bytes_of 2 id ++ t ∷ bytes_of 2 g.min_interval ++ bytes_of 2 g.max_interval ++ bytes_of (change_width t) g.reportable_change
encode (failure why direction id) = why ∷ direction ∷ bytes_of 2 id

-- ---- one that was asked

-- what is sent of a configuration beside a type: its change cut to the width that the type has, to 0 where there is no change field; a frame has no field for the mark
abbrev pub sent_as : ℕ → ReportingConfig → ReportingConfig
sent_as t g =
    record {
      min_interval = g.min_interval;
      max_interval = g.max_interval;
      reportable_change = g.reportable_change % 2 ^ (8 * change_width t);
      unsigned = false;
    }

-- no entry 8b
abbrev pub setting_by : Option Entry → Asked → ℕ → SettingRecord
setting_by None r t = failure (status_code NotFound) r.direction r.id
setting_by (Some e) r t = setting r.direction r.id t (sent_as t e.config)

-- not found 86; direction not 0, 8c; not reportable 8c
unfoldable pub record_by : List Entry → Key → Asked → Option Attribute → SettingRecord
record_by l k r None = failure (status_code UnsupportedAttribute) r.direction r.id
record_by l k r (Some a) =
    cond (eqb r.direction 0)
    (cond (reportable a) (setting_by (lookup_l k l) r a.type_id.0) (failure (status_code UnreportableAttribute) r.direction r.id))
    (failure (status_code UnreportableAttribute) r.direction r.id)

unfoldable pub record_for : ℕ → List ℕ → List Entry → ZclHeader → Asked → SettingRecord
record_for form s l request r = record_by l (key_for s request r.id) r (find_of form s (name_of request.manufacturer_code.0 r.id))

-- READ REPORTING CONFIGURATION: the header, and a record for each that was asked as long as they fit. A table with a count above the
-- limit is none: 8
unfoldable pub configuration_of : ℕ → List ℕ → Table → ZclHeader → List ℕ → ℕ → Outcome (Unit {0})
configuration_of form s (holding l) request body room =
    shortened encode (λ fit. record_for form s l request) (reply_head request ReadReportingConfigurationResponse) (asked_from body 0) room
configuration_of form s (bad t) request body room = refused room NotATable no_state
