-- Reading the reply to a Read Reporting Configuration gives the records that were made for what was asked. Assumes nothing.
use Rattle.std.specs.Prelude.{None, Option, Some}
use mathlib.Core.Path.{◌≡◌, refl, subst}
use mathlib.Core.Bool.{Bool, true, false, cond}
use mathlib.Core.List.{List, [], ◌∷◌}
use Prim.Native.Nat.{ℕ, ◌+◌, ◌*◌, ◌<◌, ◌^◌}
use native.Mathlib.Omega.{arith}
use native.Mathlib.Nat.{mod-lt}
use lib.Pow.{pow_pos}
use lib.ListN.{length, get_or}
use lib.Dec.{eqb}
use Rattle.types.specs.Number.{unsigned_at, AllBytes}
use Rattle.types.proofs.Numbers.{unsigned_below}
use Rattle.frame.specs.declared.header.ZclHeader.{ZclHeader}
use Rattle.frame.specs.declared.command_identifier.CommandIdentifier.TheVariants.{ReadReportingConfiguration, ReadReportingConfigurationResponse}
use Rattle.frame.specs.declared.status.Status.TheVariants.{UnreportableAttribute}
use Rattle.frame.specs.Status.{status_code}
use Rattle.frame.specs.Header.{reply_head}
use Rattle.frame.specs.Walk.{item, All}
use Rattle.frame.specs.Encoded.{encode_all}
use Rattle.frame.specs.Shortened.{Making}
use Rattle.frame.proofs.Sized.{up_to_is}
use Rattle.store.specs.declared.lookup.Attribute.{Attribute}
use Rattle.store.specs.Contents.{name_of, find_of, reportable}
use Rattle.reporting.specs.declared.entry.Key.{Key}
use Rattle.reporting.specs.declared.entry.Entry.{Entry}
use Rattle.reporting.specs.Entries.{matches, lookup_l}
use Rattle.configure.specs.Request.{change_width, Asked, asked, asked_at, asked_from, key_for}
use Rattle.configure.specs.Configuration.{SettingRecord, failure, encode, setting_by, record_by, record_for, configuration_of}
use Rattle.server.specs.Serve.{commanded}
use Rattle.readers.specs.Replies.{configuration_reply_of}
use Rattle.readers.specs.Claims.Sendable.{SettingSendable}
use Rattle.readers.specs.Claims.Back.{ConfigurationReplies}
use Rattle.readers.specs.Claims.Served.{settings_made, ConfigurationServed}
use Rattle.readers.proofs.Outs.{shortened_sends}
use Rattle.readers.proofs.Keeping.{every_read, keeps_shortened}
use Rattle.readers.proofs.Answers.{Commands, serves_by}

-- what is asked names an id of two bytes
abbrev Named : Asked → Type 0
Named r = r.id < 2 ^ 16

named_at : (body : List ℕ) → AllBytes body → (p : ℕ) (r : Asked) (q : ℕ) → asked_at body p ≡ item r q → Named r
unfolding asked_at
named_at body b p r q e =
    let w = up_to_is body (p + 3) (asked (get_or body p 0) (unsigned_at body (p + 1) 2)) r q e in
    subst Named w.1.0 (unsigned_below body (p + 1) 2 b)

-- intervals of sixteen bits
abbrev Short : Entry → Type 0
Short e = (e.config.min_interval < 2 ^ 16) × (e.config.max_interval < 2 ^ 16)

-- the entry of a key is one of the entries
abbrev Any : (Entry → Type 0) → Option Entry → Type 0
Any P None = Unit {0}
Any P (Some e) = P e

lookup_any : (P : Entry → Type 0) (k : Key) (l : List Entry) → All P l → Any P (lookup_l k l)
lookup_any P k [] h = tt
lookup_any P k (e ∷ l) h = go (matches k e) (lookup_any P k l h.1)
  where
    go : (b : Bool) → Any P (lookup_l k l) → Any P (cond b (Some e) (lookup_l k l))
    go true w = h.0
    go false w = w

setting_good : (r : Asked) (t : ℕ) → Named r → (o : Option Entry) → Any Short o → SettingSendable (setting_by o r t)
setting_good r t n None w = (λ z. omega arith, n)
setting_good r t n (Some e) w = (n, w.0, w.1, mod-lt e.config.reportable_change (pow_pos (8 * change_width t)), refl)

module _ (l : List Entry) (short : All Short l) (r : Asked) (n : Named r) where
  made_by : (k : Key) (f : Option Attribute) → SettingSendable (record_by l k r f)
  unfolding record_by
  made_by k None = (λ z. omega arith, n)
  made_by k (Some a) = go (eqb r.direction 0) (reportable a)
    where
      not_so : SettingRecord
      not_so = failure (status_code UnreportableAttribute) r.direction r.id

      go : (b c : Bool) → SettingSendable (cond b (cond c (setting_by (lookup_l k l) r a.type_id.0) not_so) not_so)
      go true true = setting_good r a.type_id.0 n (lookup_l k l) (lookup_any Short k l short)
      go true false = (λ z. omega arith, n)
      go false c = (λ z. omega arith, n)

  makes : (form : ℕ) (s : List ℕ) (h : ZclHeader) → SettingSendable (record_for form s l h r)
  unfolding record_for
  makes form s h = made_by (key_for s h r.id) (find_of form s (name_of h.manufacturer_code.0 r.id))

sent : Commands ReadReportingConfigurationResponse (encode_all encode) (All SettingSendable) ReadReportingConfiguration settings_made
unfolding commanded configuration_of reply_head
sent form limit s l unicast h body room t store =
    let making : Making Asked SettingRecord = λ fit. record_for form s l h in
    record {
      sendable = keeps_shortened encode making room 3 SettingSendable Named (λ fit r k. makes l t.2 r k form s h) (asked_from body 0)
          (every_read (asked_at body) (length body) Named (named_at body t.1));
      sends = shortened_sends encode making (reply_head h ReadReportingConfigurationResponse) (asked_from body 0) room;
    }

-- THE PROMISE
pub configuration_served : ConfigurationReplies → ConfigurationServed
configuration_served back =
    serves_by configuration_reply_of ReadReportingConfigurationResponse (encode_all encode) (All SettingSendable) back.0 ReadReportingConfiguration settings_made
    sent
