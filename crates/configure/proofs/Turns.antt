-- One record done, the loop over the records, and the whole command. Assumes nothing.
use Rattle.std.specs.Prelude.{Err, None, Ok, Option, Result, Some}
use mathlib.Core.Path.{◌≡◌, refl, ap, ◌∙◌}
use mathlib.Core.Bool.{true}
use mathlib.Core.List.{List}
use Prim.Native.Nat.{ℕ, ◌≤◌, ◌<◌}
use native.Mathlib.Omega.{arith}
use lib.ListN.{length}
use Rattle.types.specs.Number.{zeros}
use Rattle.frame.specs.declared.header.ZclHeader.{ZclHeader}
use Rattle.frame.specs.declared.status.Status.{Status}
use Rattle.frame.specs.declared.status.Status.TheVariants.{UnreportableAttribute}
use Rattle.frame.specs.declared.failures.Unfinished.{Unfinished}
use Rattle.frame.specs.declared.answer.Refusal.{Refusal}
use Rattle.frame.specs.declared.answer.Refusal.TheVariants.{ReplyTooLong}
use Rattle.frame.specs.declared.command_identifier.CommandIdentifier.TheVariants.{ConfigureReportingResponse}
use Rattle.frame.specs.Status.{status_code}
use Rattle.frame.specs.Header.{reply_head}
use Rattle.frame.specs.Answer.{within, no_state, seen, refused}
use Rattle.frame.specs.Walk.{item, unread}
use Rattle.frame.specs.Inside.Buffer.{putting, put}
use Rattle.frame.specs.Failures.{performed}
use Rattle.frame.specs.Inside.Failures.{noting, concluded_at}
use Rattle.frame.specs.Inside.Passes.{TookOne}
use Rattle.frame.proofs.Passes.{Going, going_first, going_done, going_cut, going_more, going_stop, performs, headed_past, headed_performs}
use Rattle.store.specs.Contents.{name_of, find_of}
use Rattle.reporting.specs.declared.entry.ReportingConfig.{ReportingConfig}
use Rattle.reporting.specs.declared.entry.Entry.{Entry}
use Rattle.reporting.specs.Table.{capacity, holding}
use Rattle.reporting.specs.Carried.{table_in, is_table}
use Rattle.configure.specs.Request.{key_for, received, reported, configure_at, configures}
use Rattle.configure.specs.Configure.{Failure, failure, encode, checked, setting, tried, configuring, configure_entries, configure_of}
use Rattle.configure.specs.declared.settle.Deed.{Deed}
use Rattle.configure.specs.Inside.{Judges, Settles, Took, Runs}
use Rattle.configure.proofs.Items.{ahead}

-- a failure takes bytes
pub some : (f : Failure) → 0 < length (encode f)
some f = omega arith

-- ---- one record

module _ (s : List ℕ) (request : ZclHeader) (body : List ℕ) (at end id : ℕ) where
  pub took_received : (direction : ℕ) → configure_at body at ≡ item (received direction id) end → Took s request body at end direction id (Err UnreportableAttribute)
  unfolding tried
  took_received direction e = record { taken = received direction id; is = e; named = λ status. refl; judged = λ l. refl }

  pub took_reported : (kind : ℕ) (g : ReportingConfig) (deed : Result Deed Status) → configure_at body at ≡ item (reported id kind g) end
      → Judges (λ l. checked (find_of 8 s (name_of request.manufacturer_code.0 id)) kind l (setting capacity (key_for s request id) g l)) deed
      → Took s request body at end 0 id deed
  unfolding tried
  took_reported kind g deed e c = record { taken = reported id kind g; is = e; named = λ status. refl; judged = c }

-- ---- the loop

-- where it stands: the bytes are a table, and what is left of the walk from its entries is the whole
pub record Goes (s : List ℕ) (request : ZclHeader) (body : List ℕ) (start : ℕ) (bs₀ d₀ bs d : List ℕ) (at out : ℕ) : Type 0 where
  pub table : is_table capacity bs ≡ true
  pub going : Going (configuring 8 capacity s request) (configure_at body) (length body) start (table_in bs₀) d₀ (table_in bs) d at out

pub goes_first : (s : List ℕ) (request : ZclHeader) (body : List ℕ) (start : ℕ) (bs d : List ℕ) → is_table capacity bs ≡ true → Goes s request body start bs d bs d 0 start
goes_first s request body start bs d e = record { table = e; going = going_first (configuring 8 capacity s request) (configure_at body) (length body) start (table_in bs) d }

module _ {s : List ℕ} {request : ZclHeader} {body : List ℕ} {start : ℕ} {bs₀ d₀ bs d : List ℕ} {at out : ℕ}
    (g : Goes s request body start bs₀ d₀ bs d at out) where
  pub goes_done : length body ≤ at → Runs s request body start bs₀ d₀ (Ok out) bs d
  goes_done h = record { table = g.table; passed = going_done g.going h }

  module _ (lt : at < length body) where
    pub goes_cut : (after : List ℕ) → configure_at body at ≡ unread → Runs s request body start bs₀ d₀ (Err Unfinished.Cut) bs after
    goes_cut after m = record { table = g.table; passed = going_cut g.going lt (table_in bs) after (record { is = m; same = refl }) }

    module _ (end direction id : ℕ) (deed : Result Deed Status) (k : Took s request body at end direction id deed) (status : Status) (done-in : List ℕ) (does : Settles deed bs done-in status)
        (r : Option ℕ) (after : List ℕ) (p : putting r after ≡ noting d out status (encode (failure (status_code status) direction id))) where
      abbrev fails : Failure
      fails = failure (status_code status) direction id

      took : TookOne (configuring 8 capacity s request) (configure_at body) (table_in bs) at end status fails (table_in done-in)
      took = record { taken = k.taken; is = k.is; does = does.is ∙ k.judged (table_in bs); named = k.named status }

      pub goes_more : (o : ℕ) → r ≡ Some o → length after ≡ length d → Goes s request body start bs₀ d₀ done-in after end o
      goes_more o q n = record { table = does.table; going = going_more g.going lt (ahead body) end status fails (table_in done-in) took r after p o q n }

      pub goes_stop : r ≡ None → Runs s request body start bs₀ d₀ (Err Unfinished.Full) done-in after
      goes_stop q = record { table = does.table; passed = going_stop g.going lt (ahead body) end status fails (table_in done-in) took r after p q }

-- ---- the whole command

module _ (s : List ℕ) (request : ZclHeader) (body : List ℕ) (n : ℕ) (x : Result ℕ Refusal) (d bs : List ℕ) where
  -- the bytes of a table with these entries hold the answer
  in_bytes : (l : List Entry) → seen x d l ≡ configure_entries 8 capacity s (table_in bs) request body n → seen x d (holding l) ≡ configure_of 8 capacity s (holding (table_in bs)) request body n
  unfolding configure_of
  in_bytes l q = ap (within holding) q

  module _ (r : Option ℕ) (after : List ℕ) (p : putting r after ≡ put (zeros n) 0 (reply_head request ConfigureReportingResponse)) where
    pub command_full : r ≡ None → seen x d no_state ≡ refused (length after) ReplyTooLong no_state
        → seen x d (holding (table_in bs)) ≡ configure_of 8 capacity s (holding (table_in bs)) request body n
    unfolding configure_entries
    command_full e q =
        in_bytes (table_in bs) (headed_past request ConfigureReportingResponse (table_in bs) n r after p (performed (configuring 8 capacity s request) (configures body) (table_in bs) n) e x d q)

    pub command_run : (start : ℕ) → r ≡ Some start → (done : Result ℕ Unfinished) (bs' last : List ℕ) → Runs s request body start bs after done bs' last → length last ≡ length after
        → seen x d no_state ≡ concluded_at last start done → seen x d (holding (table_in bs')) ≡ configure_of 8 capacity s (holding (table_in bs)) request body n
    unfolding configure_entries
    command_run start e done bs' last w k q =
        in_bytes (table_in bs')
        (headed_performs request ConfigureReportingResponse (table_in bs) n r after p (configuring 8 capacity s request) (configures body) start e x (table_in bs') d
        (performs (configuring 8 capacity s request) some (configures body) start (table_in bs) after done (table_in bs') last w.passed k x d q))
