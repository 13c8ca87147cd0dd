-- Definitions. What is told of a frame that was read: document 01's number, and the values. A refusal has its number and zeros; a frame that has no
-- record k has 0, and zeros.
use Rattle.frame.specs.declared.answer.Refusal.{Refusal}
use Rattle.std.specs.Prelude.{ℕ, ℤ, pos, None, Option, Some, Err, Ok, Result}
use Rattle.frame.specs.Answer.{refusal_number}
use Rattle.read.specs.Read as Read
use Rattle.write.specs.Reply as Write
use Rattle.configure.specs.Configure as Configure
use Rattle.configure.specs.Configuration as Configuration
use Rattle.discover.specs.Discover.{Discovered}
use Rattle.report.specs.Report.{ReportRecord}
use Rattle.readers.specs.declared.value.ValueIn.{ValueIn}
use Rattle.readers.specs.Replies.{Response}
use Rattle.readers.specs.Values.{Held}
use Rattle.readers.specs.Answers.{Sized}

-- what is told: document 01's number, and the values
pub record Told (R : Type 0) : Type 0 where
  pub number : ℕ
  pub result : R

abbrev pub told : {R : Type 0} → ℕ → R → Told R
told n r = record { number = n; result = r }

-- what a frame says, or its refusal and zeros
abbrev pub told_by : {A R : Type 0} → R → (A → R) → Result A Refusal → Told R
told_by zeros says (Ok x) = told 0 (says x)
told_by zeros says (Err why) = told (refusal_number why) zeros

-- the fields of a record that is there, or zeros
abbrev pub fields_of : {A R : Type 0} → R → (A → R) → Option A → R
fields_of zeros says None = zeros
fields_of zeros says (Some x) = says x

abbrev pub record_told : {A R : Type 0} → R → (A → R) → Result (Option A) Refusal → Told R
record_told zeros says x = told_by zeros (fields_of zeros says) x

-- ---- how many records

abbrev pub count_told : Result ℕ Refusal → Told ℕ
count_told x = told_by 0 (λ n. n) x

-- ---- a value: type, where it lies, and its number with a flag

pub record ValueFields : Type 0 where
  pub type : ℕ
  pub start : ℕ
  pub len : ℕ
  pub numbered : ℕ
  pub number : ℤ

abbrev pub value_as : ℕ → ℕ → ℕ → ℕ → ℤ → ValueFields
value_as t start len numbered number = record { type = t; start = start; len = len; numbered = numbered; number = number }

abbrev pub no_value : ValueFields
no_value = value_as 0 0 0 0 (pos 0)

abbrev pub number_fields : Option ℤ → (ℕ → ℤ → ValueFields) → ValueFields
number_fields (Some z) fields = fields 1 z
number_fields None fields = fields 0 (pos 0)

abbrev pub value_fields : ValueIn → ValueFields
value_fields v = number_fields v.number (value_as v.type_id.0 v.start v.len)

abbrev pub value_or : Option ValueIn → ValueFields
value_or None = no_value
value_or (Some v) = value_fields v

-- ---- record k of a read reply: a success has status 0

pub record ReadFields : Type 0 where
  pub found : ℕ
  pub id : ℕ
  pub status : ℕ
  pub value : ValueFields

abbrev pub read_as : ℕ → ℕ → ℕ → ValueFields → ReadFields
read_as found id status v = record { found = found; id = id; status = status; value = v }

abbrev pub read_says : Read.ReadRecord → ValueFields → ReadFields
read_says (Read.value id t v) w = read_as 1 id 0 w
read_says (Read.failure id status) w = read_as 1 id status w

abbrev pub read_fields : Held Read.ReadRecord → ReadFields
read_fields h = read_says h.is (value_or h.value)

abbrev pub read_record_told : Result (Option (Held Read.ReadRecord)) Refusal → Told ReadFields
read_record_told x = record_told (read_as 0 0 0 no_value) read_fields x

-- ---- of a report

pub record ReportFields : Type 0 where
  pub found : ℕ
  pub id : ℕ
  pub value : ValueFields

abbrev pub report_as : ℕ → ℕ → ValueFields → ReportFields
report_as found id v = record { found = found; id = id; value = v }

abbrev pub report_fields : Held ReportRecord → ReportFields
report_fields h = report_as 1 h.is.id (value_or h.value)

abbrev pub report_record_told : Result (Option (Held ReportRecord)) Refusal → Told ReportFields
report_record_told x = record_told (report_as 0 0 no_value) report_fields x

-- ---- of a write reply

pub record WriteFields : Type 0 where
  pub found : ℕ
  pub status : ℕ
  pub id : ℕ

abbrev pub write_as : ℕ → ℕ → ℕ → WriteFields
write_as found status id = record { found = found; status = status; id = id }

abbrev pub write_record_told : Result (Option Write.Failure) Refusal → Told WriteFields
write_record_told x = record_told (write_as 0 0 0) (λ (r : Write.Failure). write_as 1 r.status r.id) x

-- ---- of a configure reply

pub record ConfigureFields : Type 0 where
  pub found : ℕ
  pub status : ℕ
  pub direction : ℕ
  pub id : ℕ

abbrev pub configure_as : ℕ → ℕ → ℕ → ℕ → ConfigureFields
configure_as found status direction id = record { found = found; status = status; direction = direction; id = id }

abbrev pub configure_record_told : Result (Option Configure.Failure) Refusal → Told ConfigureFields
configure_record_told x = record_told (configure_as 0 0 0 0) (λ (r : Configure.Failure). configure_as 1 r.status r.direction r.id) x

-- ---- of a read configuration reply: a success has status 0, a failure no setting

pub record SettingFields : Type 0 where
  pub head : ConfigureFields
  pub type : ℕ
  pub minimum : ℕ
  pub maximum : ℕ
  pub change : ℕ

abbrev pub setting_as : ConfigureFields → ℕ → ℕ → ℕ → ℕ → SettingFields
setting_as head t minimum maximum change = record { head = head; type = t; minimum = minimum; maximum = maximum; change = change }

abbrev pub setting_fields : Configuration.SettingRecord → SettingFields
setting_fields (Configuration.setting direction id t g) =
    setting_as (configure_as 1 0 direction id) t g.min_interval g.max_interval g.reportable_change
setting_fields (Configuration.failure status direction id) = setting_as (configure_as 1 status direction id) 0 0 0 0

abbrev pub configuration_record_told : Result (Option Configuration.SettingRecord) Refusal → Told SettingFields
configuration_record_told x = record_told (setting_as (configure_as 0 0 0 0) 0 0 0 0) setting_fields x

-- ---- a discover reply: its complete byte and how many attributes; and record k

abbrev pub sized_as : ℕ → ℕ → Sized
sized_as complete count = record { complete = complete; count = count }

abbrev pub discovery_told : Result Sized Refusal → Told Sized
discovery_told x = told_by (sized_as 0 0) (λ y. y) x

pub record DiscoverFields : Type 0 where
  pub found : ℕ
  pub id : ℕ
  pub type : ℕ

abbrev pub discover_as : ℕ → ℕ → ℕ → DiscoverFields
discover_as found id t = record { found = found; id = id; type = t }

abbrev pub discover_record_told : Result (Option Discovered) Refusal → Told DiscoverFields
discover_record_told x = record_told (discover_as 0 0 0) (λ (r : Discovered). discover_as 1 r.id r.type) x

-- ---- a Default Response

abbrev pub response_as : ℕ → ℕ → Response
response_as command status = record { command = command; status = status }

abbrev pub default_response_told : Result Response Refusal → Told Response
default_response_told x = told_by (response_as 0 0) (λ y. y) x
