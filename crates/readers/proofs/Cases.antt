-- Each answer tells what its contract says, by its cases. Assumes nothing.
use Rattle.frame.specs.declared.answer.Refusal.{Refusal}
use Rattle.std.specs.Prelude.{None, Option, Some, Err, Ok, Result}
use mathlib.Core.Path.{◌≡◌, refl, ap, ◌∙◌}
use mathlib.Core.List.{List}
use Prim.Native.Nat.{ℕ}
use Rattle.readers.specs.declared.read_reply.ReadReplyRecord.{ReadReplyRecord}
use Rattle.readers.specs.declared.report_frame.ReportFrameRecord.{ReportFrameRecord}
use Rattle.readers.specs.declared.write_reply.WriteReplyFailure.{WriteReplyFailure}
use Rattle.readers.specs.declared.configure_reply.ConfigureReplyFailure.{ConfigureReplyFailure}
use Rattle.readers.specs.declared.configuration_reply.ConfigurationReplyRecord.{ConfigurationReplyRecord}
use Rattle.readers.specs.declared.discover_reply.DiscoverReply.{DiscoverReply}
use Rattle.readers.specs.declared.discover_reply.DiscoverReplyRecord.{DiscoverReplyRecord}
use Rattle.readers.specs.declared.default_reply.DefaultReply.{DefaultReply}
use Rattle.readers.specs.Reading.{mapped}
use Rattle.readers.specs.Answers.{record_is, read_record_is, report_record_is, write_record_is, configure_record_is, configuration_record_is, discovery_is, discover_record_is, response_is}
use Rattle.readers.specs.Told.{Told, count_told, read_record_told, report_record_told, write_record_told, configure_record_told, configuration_record_told, discovery_told, discover_record_told, default_response_told}
use Rattle.readers.specs.Claims.Cases.{count_tells, read_record_tells, report_record_tells, write_record_tells, configure_record_tells, configuration_record_tells, discovery_tells, discover_record_tells, response_tells, ByContract, AnswersTell}

-- what holds of an answer's view holds of what the contract says it is
by_view : {E A R : Type 0} (is : Result E Refusal → Result A Refusal) (says : Result A Refusal → Told R) (tells : Result E Refusal → Told R)
    → ((r : Result E Refusal) → tells r ≡ says (is r)) → ByContract is says tells
by_view is says tells h r x e = h r ∙ ap says e

of_count : (r : Result ℕ Refusal) → count_tells r ≡ count_told r
of_count (Ok n) = refl
of_count (Err why) = refl

of_read : (f : List ℕ) (r : Result (Option ReadReplyRecord) Refusal) → read_record_tells r ≡ read_record_told (record_is (read_record_is f) r)
of_read f (Ok (Some (ReadReplyRecord.Value id v))) = refl
of_read f (Ok (Some (ReadReplyRecord.Failure id status))) = refl
of_read f (Ok None) = refl
of_read f (Err why) = refl

of_report : (f : List ℕ) (r : Result (Option ReportFrameRecord) Refusal) → report_record_tells r ≡ report_record_told (record_is (report_record_is f) r)
of_report f (Ok (Some r)) = refl
of_report f (Ok None) = refl
of_report f (Err why) = refl

of-write : (r : Result (Option WriteReplyFailure) Refusal) → write_record_tells r ≡ write_record_told (record_is write_record_is r)
of-write (Ok (Some r)) = refl
of-write (Ok None) = refl
of-write (Err why) = refl

of_configure : (r : Result (Option ConfigureReplyFailure) Refusal) → configure_record_tells r ≡ configure_record_told (record_is configure_record_is r)
of_configure (Ok (Some r)) = refl
of_configure (Ok None) = refl
of_configure (Err why) = refl

of_configuration : (r : Result (Option ConfigurationReplyRecord) Refusal)
    → configuration_record_tells r ≡ configuration_record_told (record_is configuration_record_is r)
of_configuration (Ok (Some (ConfigurationReplyRecord.Setting direction id t g))) = refl
of_configuration (Ok (Some (ConfigurationReplyRecord.Failure status direction id))) = refl
of_configuration (Ok None) = refl
of_configuration (Err why) = refl

of_discovery : (r : Result DiscoverReply Refusal) → discovery_tells r ≡ discovery_told (mapped discovery_is r)
of_discovery (Ok r) = refl
of_discovery (Err why) = refl

of_discover : (r : Result (Option DiscoverReplyRecord) Refusal) → discover_record_tells r ≡ discover_record_told (record_is discover_record_is r)
of_discover (Ok (Some r)) = refl
of_discover (Ok None) = refl
of_discover (Err why) = refl

of_response : (r : Result DefaultReply Refusal) → response_tells r ≡ default_response_told (mapped response_is r)
of_response (Ok r) = refl
of_response (Err why) = refl

pub answers_tell : AnswersTell
answers_tell =
    record {
      count = λ r x e. of_count r ∙ ap count_told e;
      reads = λ f. by_view (record_is (read_record_is f)) read_record_told read_record_tells (of_read f);
      reports = λ f. by_view (record_is (report_record_is f)) report_record_told report_record_tells (of_report f);
      writes = by_view (record_is write_record_is) write_record_told write_record_tells of-write;
      configures = by_view (record_is configure_record_is) configure_record_told configure_record_tells of_configure;
      configurations = by_view (record_is configuration_record_is) configuration_record_told configuration_record_tells of_configuration;
      discovery = by_view (mapped discovery_is) discovery_told discovery_tells of_discovery;
      discovers = by_view (record_is discover_record_is) discover_record_told discover_record_tells of_discover;
      response = by_view (mapped response_is) default_response_told response_tells of_response;
    }
