-- The events of a Configure Reporting frame tell the truth, and the entries that it leaves are what they leave. Assumes nothing.
use Rattle.std.specs.Prelude.{None, Option, Some}
use mathlib.Core.Path.{◌≡◌, refl, sym, ap, ◌∙◌, subst}
use mathlib.Core.Bool.{Bool, true, false, cond}
use mathlib.Core.List.{List, [], ◌∷◌, ◌++◌}
use Prim.Native.Nat.{ℕ}
use lib.ListN.{length}
use lib.Dec.{leb, eqb}
use Rattle.frame.specs.declared.header.ZclHeader.{ZclHeader}
use Rattle.frame.specs.declared.command_identifier.CommandIdentifier.TheVariants.{ConfigureReportingResponse}
use Rattle.frame.specs.declared.answer.Refusal.TheVariants.{ReplyTooLong}
use Rattle.frame.specs.declared.status.Status.{Status}
use Rattle.frame.specs.declared.status.Status.TheVariants.{UnsupportedAttribute, UnreportableAttribute, InvalidDataType}
use Rattle.frame.specs.Status.{status_code}
use Rattle.frame.specs.Header.{reply_head}
use Rattle.frame.specs.Answer.{refused}
use Rattle.frame.specs.Walk.{Ending, done, cut, stopped, walk, reached, taken, All}
use Rattle.frame.specs.Encoded.{fits}
use Rattle.frame.specs.Failures.{Did, did, Doing, Sofar, sofar, done_with, pass_from, pass, performed, headed}
use Rattle.frame.proofs.States.{state_concluded, folded}
use Rattle.store.specs.declared.lookup.Attribute.{Attribute}
use Rattle.store.specs.Contents.{name_of, find_of, reportable}
use Rattle.reporting.specs.declared.entry.ReportingConfig.{ReportingConfig}
use Rattle.reporting.specs.declared.entry.Entry.{Entry}
use Rattle.reporting.specs.Table.{holding}
use Rattle.reporting.specs.Claims.Events.{Event, Leads, config_record, if_success}
use Rattle.reporting.proofs.Histories.{call_is, leads_then}
use Rattle.configure.specs.Request.{key_for, ConfigureRecord, received, reported, configures}
use Rattle.configure.specs.Configure.{Failure, encode, checked, setting, tried, configuring, configure_entries, configure_of}
use Rattle.configure.specs.Claims.History.{done_events, record_events, all_events, records_done, configure_events}
use Rattle.configure.specs.Claims.Leads.{ConfigureLeads, ConfigureTable}

-- ---- the records that a walk takes

-- its state is what they leave, one after the other
module _ {S R F : Type 0} (doing : Doing S R F) (fine : Sofar S F → Bool) where
  walk_taken : (e : Ending) (rs : List R) (x : Sofar S F) → (reached (walk (done_with doing) fine x e rs)).state ≡ folded doing x.state (taken (done_with doing) fine x rs)
  unfolding walk taken done_with
  walk_taken done [] x = refl
  walk_taken cut [] x = refl
  walk_taken e (r ∷ rs) x = go (fine (done_with doing x r)) (walk_taken e rs (done_with doing x r))
    where
      go : (b : Bool)
          → (reached (walk (done_with doing) fine (done_with doing x r) e rs)).state ≡ folded doing (doing.does x.state r).state (taken (done_with doing) fine (done_with doing x r) rs)
          → (reached (cond b (walk (done_with doing) fine (done_with doing x r) e rs) (stopped x (done_with doing x r)))).state
          ≡ folded doing (doing.does x.state r).state (cond b (taken (done_with doing) fine (done_with doing x r) rs) [])
      go true h = h
      go false h = refl

-- and each is one of those that can be read
taken_all : {S R : Type 0} (step : S → R → S) (fine : S → Bool) (Q : R → Type 0) (rs : List R) (x : S) → All Q rs → All Q (taken step fine x rs)
unfolding taken
taken_all step fine Q [] x h = tt
taken_all {S} {R} step fine Q (r ∷ rs) x h = (h.0, go (fine (step x r)) (taken_all step fine Q rs (step x r) h.1))
  where
    go : (b : Bool) → All Q (taken step fine (step x r) rs) → All Q (cond b (taken step fine (step x r) rs) [])
    go true k = k
    go false k = tt

-- ---- one record

-- a check fails it, and leaves the entries; or its intervals and the table say
pub checked_case : (P : Did (List Entry) → Type 0) (f : Option Attribute) (t : ℕ) (l : List Entry) (fine : Did (List Entry))
    → ((why : Status) → eqb (status_code why) 0 ≡ false → P (did why l)) → P fine → P (checked f t l fine)
checked_case P None t l fine h k = h UnsupportedAttribute refl
checked_case P (Some a) t l fine h k = go (reportable a) (eqb a.type_id.0 t)
  where
    go : (b c : Bool) → P (cond b (cond c fine (did InvalidDataType l)) (did UnreportableAttribute l))
    go true true = k
    go true false = h InvalidDataType refl
    go false c = h UnreportableAttribute refl

module _ (form limit : ℕ) (s : List ℕ) (request : ZclHeader) where
  -- what it is, by what was done with it
  abbrev Told : List Entry → ConfigureRecord → Did (List Entry) → Type 0
  Told l r w = Leads limit (if_success w.status (done_events s request r)) l w.state

  failed_told : (l : List Entry) (r : ConfigureRecord) (why : Status) → eqb (status_code why) 0 ≡ false → Told l r (did why l)
  failed_told l r why e = subst (λ (b : Bool). Leads limit (cond b (done_events s request r) []) l l) (sym e) (record { honest = tt; table = refl })

  setting-told : (l : List Entry) (id t : ℕ) (g : ReportingConfig) → Told l (reported id t g) (setting limit (key_for s request id) g l)
  unfolding setting
  setting-told l id t g = call_is limit (config_record (key_for s request id) g) l

  record_leads : (l : List Entry) (r : ConfigureRecord) → Leads limit (record_events form limit s request l r) l (tried form limit s request l r).state
  unfolding record_events tried
  record_leads l (received direction id) = record { honest = tt; table = refl }
  record_leads l (reported id t g) =
      checked_case (Told l (reported id t g)) (find_of form s (name_of request.manufacturer_code.0 id)) t l (setting limit (key_for s request id) g l)
      (failed_told l (reported id t g)) (setting-told l id t g)

  -- ---- records

  all_leads : (rs : List ConfigureRecord) (l : List Entry) → Leads limit (all_events form limit s request l rs) l (folded (configuring form limit s request) l rs)
  unfolding all_events
  all_leads [] l = record { honest = tt; table = refl }
  all_leads (r ∷ rs) l =
      let m : List Entry = (tried form limit s request l r).state in
      leads_then limit (record_events form limit s request l r) (all_events form limit s request m rs) l m (folded (configuring form limit s request) m rs) (record_leads l r) (all_leads rs m)

  -- what holds of no events, of a good record's that succeeds, and of two lists together, holds of all
  module _ (P : List Event → Type 0) (Q : ConfigureRecord → Type 0) (none : P []) (both : (es fs : List Event) → P es → P fs → P (es ++ fs))
      (each : (r : ConfigureRecord) → Q r → P (done_events s request r)) where
    record_keeps : (b : Bool) (r : ConfigureRecord) → Q r → P (cond b (done_events s request r) [])
    record_keeps true r h = each r h
    record_keeps false r h = none

    all_keep : (rs : List ConfigureRecord) (l : List Entry) → All Q rs → P (all_events form limit s request l rs)
    unfolding all_events record_events
    all_keep [] l h = none
    all_keep (r ∷ rs) l h =
        both (record_events form limit s request l r) (all_events form limit s request (tried form limit s request l r).state rs)
        (record_keeps (eqb (status_code (tried form limit s request l r).status) 0) r h.0) (all_keep rs (tried form limit s request l r).state h.1)

    pub configure_keeps : (l : List Entry) (body : List ℕ) (room : ℕ) → All Q (configures body).list → P (configure_events form limit s l request body room)
    unfolding configure_events records_done
    configure_keeps l body room h = go (leb (length (reply_head request ConfigureReportingResponse)) room)
      where
        head : ℕ
        head = length (reply_head request ConfigureReportingResponse)

        go : (b : Bool) → P (cond b (all_events form limit s request l (records_done form limit s request l body room head)) [])
        go true = all_keep (records_done form limit s request l body room head) l (taken_all _ _ Q (configures body).list (sofar l []) h)
        go false = none

-- ---- A FRAME IS ITS EVENTS

pub configure_leads : ConfigureLeads
unfolding configure_events configure_entries headed performed pass_from records_done
configure_leads form limit s l request body room = go (leb (length (reply_head request ConfigureReportingResponse)) room)
  where
    head : List ℕ
    head = reply_head request ConfigureReportingResponse

    doing : Doing (List Entry) ConfigureRecord Failure
    doing = configuring form limit s request

    rs : List ConfigureRecord
    rs = records_done form limit s request l body room (length head)

    leaves : (performed doing (configures body) l room head).state ≡ folded doing l rs
    leaves =
        state_concluded room encode head (pass doing (fits encode room (length head)) (configures body) l)
        ∙ walk_taken doing (λ x. fits encode room (length head) x.failures) (configures body).ending (configures body).list (sofar l [])

    go : (b : Bool)
        → Leads limit (cond b (all_events form limit s request l rs) []) l
        (cond b (performed doing (configures body) l room head) (refused room ReplyTooLong l)).state
    go true = subst (Leads limit (all_events form limit s request l rs) l) (sym leaves) (all_leads form limit s request rs l)
    go false = record { honest = tt; table = refl }

pub configure_table : ConfigureTable
unfolding configure_of
configure_table form limit s l request body room = ap holding (sym (configure_leads form limit s l request body room).table)
