-- Read Reporting Configuration as a whole: what every reply has. Assumes nothing.
use Rattle.std.specs.Prelude.{None, Option, Some}
use mathlib.Core.Path.{◌≡◌, refl}
use mathlib.Core.Bool.{Bool, true, false}
use mathlib.Core.List.{List, [], map}
use Prim.Native.Nat.{ℕ, ◌≤◌}
use native.Mathlib.Omega.{arith}
use lib.Dec.{eqb}
use Rattle.frame.specs.declared.header.ZclHeader.{ZclHeader}
use Rattle.frame.specs.declared.command_identifier.CommandIdentifier.TheVariants.{ReadReportingConfigurationResponse}
use Rattle.frame.specs.Header.{reply_head}
use Rattle.frame.specs.Shortened.{shortened_from}
use Rattle.frame.proofs.Shortened.{did, Prefix, shortened_within, shortened_prefix}
use Rattle.store.specs.declared.lookup.Attribute.{Attribute}
use Rattle.store.specs.Contents.{name_of, find_of, reportable}
use Rattle.reporting.specs.declared.entry.Key.{Key}
use Rattle.reporting.specs.declared.entry.Entry.{Entry}
use Rattle.reporting.specs.Entries.{lookup_l}
use Rattle.reporting.specs.Table.{Table, holding, bad}
use Rattle.configure.specs.Request.{Asked, asked, asked_from, key_for}
use Rattle.configure.specs.Configuration.{SettingRecord, setting, failure, encode, record_by, record_for, configuration_of}

-- ---- what every reply has

-- what a record answers
abbrev pub asked_of : SettingRecord → Asked
asked_of (setting direction id t g) = asked direction id
asked_of (failure why direction id) = asked direction id

-- a record is for what was asked
pub record_asked : (l : List Entry) (k : Key) (r : Asked) (f : Option Attribute) → asked_of (record_by l k r f) ≡ r
unfolding record_by
record_asked l k r None = refl
record_asked l k r (Some a) = go (eqb r.direction 0) refl (reportable a) refl (lookup_l k l) refl
  where
    go : (b : Bool) → eqb r.direction 0 ≡ b → (c : Bool) → reportable a ≡ c → (o : Option Entry) → lookup_l k l ≡ o → asked_of (record_by l k r (Some a)) ≡ r
    go true p true q None e = rw (p, q, e)
    go true p true q (Some x) e = rw (p, q, e)
    go true p false q o e = rw (p, q)
    go false p c q o e = rw p

module _ (form : ℕ) (s : List ℕ) (request : ZclHeader) where
  -- the reply is never longer than the room
  pub configuration_within : (T : Table) (body : List ℕ) (room : ℕ) → (configuration_of form s T request body room).size ≤ room
  unfolding configuration_of
  configuration_within (holding l) body room =
      shortened_within encode (λ fit. record_for form s l request) (reply_head request ReadReportingConfigurationResponse) (asked_from body 0) room
  configuration_within (bad t) body room = omega arith

  made_asked : (l : List Entry) (fit : SettingRecord → Bool) (r : Asked) → asked_of (record_for form s l request r) ≡ r
  unfolding record_for
  made_asked l fit r = record_asked l (key_for s request r.id) r (find_of form s (name_of request.manufacturer_code.0 r.id))

  -- the records are for the first that were asked, in their order
  pub configuration_prefix : (l : List Entry) (room head : ℕ) (body : List ℕ)
      → Prefix (map asked_of (did (shortened_from encode (λ fit. record_for form s l request) room head [] (asked_from body 0)))) (asked_from body 0).list
  configuration_prefix l room head body = shortened_prefix encode (λ fit. record_for form s l request) asked_of (made_asked l) room head (asked_from body 0)
