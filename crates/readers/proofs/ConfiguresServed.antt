-- Reading the reply to a Configure Reporting gives the failures that were listed. Assumes nothing.
use mathlib.Core.Path.{◌≡◌, subst}
use mathlib.Core.Bool.{Bool, true, false, cond}
use mathlib.Core.List.{List}
use Prim.Native.Nat.{ℕ, ◌+◌, ◌<◌, ◌^◌}
use lib.ListN.{length, get_or}
use lib.Dec.{eqb}
use Rattle.types.specs.Number.{unsigned_at, AllBytes}
use Rattle.types.proofs.Numbers.{unsigned_below}
use Rattle.frame.specs.declared.status.Status.{Status}
use Rattle.frame.specs.declared.command_identifier.CommandIdentifier.TheVariants.{ConfigureReporting, ConfigureReportingResponse}
use Rattle.frame.specs.Status.{status_code}
use Rattle.frame.specs.Header.{reply_head}
use Rattle.frame.specs.Walk.{item, All}
use Rattle.frame.specs.Sized.{up_to}
use Rattle.frame.specs.Encoded.{fits}
use Rattle.frame.specs.Failures.{Doing, encode_failures, performed}
use Rattle.frame.proofs.Sized.{up_to_is}
use Rattle.reporting.specs.declared.entry.Entry.{Entry}
use Rattle.configure.specs.Request.{ConfigureRecord, received, reported, config_at, change_width, configure_at, configures}
use Rattle.configure.specs.Configure.{Failure, failing, encode, configuring, configure_entries, configure_of}
use Rattle.server.specs.Serve.{commanded}
use Rattle.readers.specs.Replies.{configure_reply_of}
use Rattle.readers.specs.Claims.Sendable.{Failed, ConfigureSendable}
use Rattle.readers.specs.Claims.Back.{ConfigureReplies}
use Rattle.readers.specs.Claims.Served.{configure_made, ConfigureServed}
use Rattle.readers.proofs.Outs.{performed_sends, headed_sends}
use Rattle.readers.proofs.Keeping.{every_read, keeps_failures}
use Rattle.readers.proofs.Answers.{Commands, serves_by}

-- ---- the records of a request have ids of two bytes

abbrev Named : ConfigureRecord → Type 0
Named (received direction id) = id < 2 ^ 16
Named (reported id t g) = id < 2 ^ 16

-- and so has the failure listed for one
listed_good : (why : Status) (r : ConfigureRecord) → Named r → Failed (status_code why) → ConfigureSendable (failing why r)
listed_good why (received direction id) n f = (f, n)
listed_good why (reported id t g) n f = (f, n)

module _ (body : List ℕ) (bytes : AllBytes body) where
  read_named : (end : ℕ) (x r : ConfigureRecord) (q : ℕ) → Named x → up_to body end x ≡ item r q → Named r
  read_named end x r q n e = subst Named (up_to_is body end x r q e).1.0 n

  named_at : (p : ℕ) (r : ConfigureRecord) (q : ℕ) → configure_at body p ≡ item r q → Named r
  unfolding configure_at
  named_at p r q = go (eqb (get_or body p 0) 0)
    where
      id : ℕ
      id = unsigned_at body (p + 1) 2

      t : ℕ
      t = get_or body (p + 3) 0

      go : (b : Bool)
          → cond b (up_to body (p + (8 + change_width t)) (reported id t (config_at body (p + 4) t))) (up_to body (p + 5) (received (get_or body p 0) id)) ≡ item r q
          → Named r
      go true g = read_named _ (reported id t (config_at body (p + 4) t)) r q (unsigned_below body (p + 1) 2 bytes) g
      go false g = read_named _ (received (get_or body p 0) id) r q (unsigned_below body (p + 1) 2 bytes) g

  named_all : All Named (configures body).list
  named_all = every_read (configure_at body) (length body) Named named_at

sent : Commands ConfigureReportingResponse (encode_failures encode) (All ConfigureSendable) ConfigureReporting configure_made
unfolding commanded configure_of configure_entries reply_head
sent form limit s l unicast h body room t store =
    let doing : Doing (List Entry) ConfigureRecord Failure = configuring form limit s h in
    record {
      sendable = keeps_failures doing ConfigureSendable Named listed_good (fits encode room 3) (configures body) l (named_all body t.1);
      sends = headed_sends h ConfigureReportingResponse l room (performed doing (configures body) l room) _
          (performed_sends doing (configures body) l room (reply_head h ConfigureReportingResponse));
    }

-- THE PROMISE
pub configure_served : ConfigureReplies → ConfigureServed
configure_served back =
    serves_by configure_reply_of ConfigureReportingResponse (encode_failures encode) (All ConfigureSendable) back.0 ConfigureReporting configure_made sent
