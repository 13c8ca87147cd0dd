-- What an answer says tells the answer: it can be read back. A record with a value is told by the value's place and number, which it holds.
-- Assumes nothing.
use Rattle.std.specs.Prelude.{None, Option, Some, Err, Ok, Result, option_map}
use mathlib.Core.Path.{◌≡◌, refl, sym, ap, ◌∙◌}
use mathlib.Core.List.{List}
use Prim.Native.Nat.{ℕ}
use Rattle.frame.specs.declared.answer.Refusal.{Refusal}
use Rattle.read.specs.Read as Read
use Rattle.write.specs.Reply as Write
use Rattle.configure.specs.Configure as Configure
use Rattle.configure.specs.Configuration as Configuration
use Rattle.discover.specs.Discover.{Discovered}
use Rattle.report.specs.Report.{ReportRecord}
use Rattle.readers.specs.declared.value.ValueIn.{ValueIn}
use Rattle.readers.specs.declared.read_reply.ReadReplyRecord.{ReadReplyRecord}
use Rattle.readers.specs.declared.report_frame.ReportFrameRecord.{ReportFrameRecord}
use Rattle.readers.specs.declared.write_reply.WriteReplyFailure.{WriteReplyFailure}
use Rattle.readers.specs.declared.configure_reply.ConfigureReplyFailure.{ConfigureReplyFailure}
use Rattle.readers.specs.declared.configuration_reply.ConfigurationReplyRecord.{ConfigurationReplyRecord}
use Rattle.readers.specs.declared.discover_reply.DiscoverReply.{DiscoverReply}
use Rattle.readers.specs.declared.discover_reply.DiscoverReplyRecord.{DiscoverReplyRecord}
use Rattle.readers.specs.declared.default_reply.DefaultReply.{DefaultReply}
use Rattle.readers.specs.Reading.{mapped}
use Rattle.readers.specs.Replies.{Response}
use Rattle.readers.specs.Values.{Held}
use Rattle.readers.specs.Answers.{record_is, read_record_is, report_record_is, write_record_is, configure_record_is, configuration_record_is, Sized, discovery_is, discover_record_is, response_is}
use Rattle.readers.specs.Claims.Unique.{OneSays}

-- what can be read back is said by one answer only
module _ {A B : Type 0} (says : A → B) (back : B → A) (same : (a : A) → back (says a) ≡ a) where
  of_answer : (r : Result A Refusal) → mapped back (mapped says r) ≡ r
  of_answer (Ok a) = ap Ok (same a)
  of_answer (Err why) = refl

  by_back : (x : Result B Refusal) → OneSays (mapped says) x
  by_back x r q e f = sym (of_answer r) ∙ ap (mapped back) (e ∙ sym f) ∙ of_answer q

  of_option : (a : Option A) → option_map back (option_map says a) ≡ a
  of_option (Some a) = ap Some (same a)
  of_option None = refl

-- the same of a record that may be missing
by_record : {A B : Type 0} (says : A → B) (back : B → A) → ((a : A) → back (says a) ≡ a) → (x : Result (Option B) Refusal) → OneSays (record_is says) x
by_record says back same = by_back (option_map says) (option_map back) (of_option says back same)

pub one_discovery : (x : Result Sized Refusal) → OneSays (mapped discovery_is) x
one_discovery = by_back discovery_is back (λ a. refl)
  where
    back : Sized → DiscoverReply
    back s = record { complete = s.complete; count = s.count }

pub one_response : (x : Result Response Refusal) → OneSays (mapped response_is) x
one_response = by_back response_is back (λ a. refl)
  where
    back : Response → DefaultReply
    back s = record { command = record { 0 = s.command }; status = s.status }

-- ---- records without a value

pub one_write_record : (x : Result (Option Write.Failure) Refusal) → OneSays (record_is write_record_is) x
one_write_record = by_record write_record_is back (λ a. refl)
  where
    back : Write.Failure → WriteReplyFailure
    back s = record { status = s.status; id = record { 0 = s.id } }

pub one_configure_record : (x : Result (Option Configure.Failure) Refusal) → OneSays (record_is configure_record_is) x
one_configure_record = by_record configure_record_is back (λ a. refl)
  where
    back : Configure.Failure → ConfigureReplyFailure
    back s = record { status = s.status; direction = s.direction; id = record { 0 = s.id } }

pub one_configuration_record : (x : Result (Option Configuration.SettingRecord) Refusal) → OneSays (record_is configuration_record_is) x
one_configuration_record = by_record configuration_record_is back same
  where
    back : Configuration.SettingRecord → ConfigurationReplyRecord
    back (Configuration.setting direction id t g) = ConfigurationReplyRecord.Setting direction (record { 0 = id }) (record { 0 = t }) g
    back (Configuration.failure status direction id) = ConfigurationReplyRecord.Failure status direction (record { 0 = id })

    same : (a : ConfigurationReplyRecord) → back (configuration_record_is a) ≡ a
    same (ConfigurationReplyRecord.Setting direction id t g) = refl
    same (ConfigurationReplyRecord.Failure status direction id) = refl

pub one_discover_record : (x : Result (Option Discovered) Refusal) → OneSays (record_is discover_record_is) x
one_discover_record = by_record discover_record_is back (λ a. refl)
  where
    back : Discovered → DiscoverReplyRecord
    back s = record { id = record { 0 = s.id }; type_id = record { 0 = s.type } }

-- ---- records with a value, which is the one that they hold; without it anything may be read back

pub one_read_record : (f : List ℕ) (x : Result (Option (Held Read.ReadRecord)) Refusal) → OneSays (record_is (read_record_is f)) x
one_read_record f = by_record (read_record_is f) (λ (h : Held Read.ReadRecord). back h.is h.value) same
  where
    back : Read.ReadRecord → Option ValueIn → ReadReplyRecord
    back (Read.value id t bs) (Some v) = ReadReplyRecord.Value (record { 0 = id }) v
    back (Read.value id t bs) None = ReadReplyRecord.Failure (record { 0 = id }) 0
    back (Read.failure id status) v = ReadReplyRecord.Failure (record { 0 = id }) status

    same : (a : ReadReplyRecord) → back (read_record_is f a).is (read_record_is f a).value ≡ a
    same (ReadReplyRecord.Value id v) = refl
    same (ReadReplyRecord.Failure id status) = refl

pub one_report_record : (f : List ℕ) (x : Result (Option (Held ReportRecord)) Refusal) → OneSays (record_is (report_record_is f)) x
one_report_record f = by_record (report_record_is f) back (λ a. refl)
  where
    value : Option ValueIn → ValueIn
    value (Some v) = v
    value None = record { type_id = record { 0 = 0 }; start = 0; len = 0; number = None }

    back : Held ReportRecord → ReportFrameRecord
    back h = record { id = record { 0 = h.is.id }; value = value h.value }
