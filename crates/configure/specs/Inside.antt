-- Inside. What inner functions say; nothing that a caller must believe.
use Rattle.std.specs.Prelude.{◌≡◌, ℕ, true, List, length, Option, None, Some, Result, Ok, Err}
use Rattle.frame.specs.declared.header.ZclHeader.{ZclHeader}
use Rattle.frame.specs.declared.status.Status.{Status}
use Rattle.frame.specs.declared.status.Status.TheVariants.{Success}
use Rattle.frame.specs.declared.failures.Unfinished.{Unfinished}
use Rattle.frame.specs.Status.{status_code}
use Rattle.frame.specs.Walk.{Item, item, unread}
use Rattle.frame.specs.Failures.{Did, did}
use Rattle.frame.specs.Inside.Passes.{Passed}
use Rattle.reporting.specs.declared.entry.Entry.{Entry}
use Rattle.reporting.specs.Entries.{accepts_l, configure_l, clear_l, lookup_l}
use Rattle.reporting.specs.Table.{capacity}
use Rattle.reporting.specs.Carried.{table_in, is_table}
use Rattle.reporting.specs.declared.entry.Wish.TheVariants.{ToSet}
use Rattle.reporting.specs.Wish.{status_w}
use Rattle.configure.specs.declared.record.Record.{Record}
use Rattle.configure.specs.declared.settle.Deed.{Deed}
use Rattle.configure.specs.declared.pass.Turn.{Turn}
use Rattle.configure.specs.Request.{ConfigureRecord, received, reported, configure_at, configures, Asked, asked, asked_at}
use Rattle.configure.specs.Configure.{failure, failing, tried, configuring}
use Rattle.frame.specs.declared.answer.Refusal.{Refusal}
use Rattle.frame.specs.Inside.Shortened.{Turned, Walked}
use Rattle.configure.specs.declared.configuration.Asked.{Asked as AskedHere}
use Rattle.reporting.specs.declared.entry.Key.{Key}
use Rattle.types.specs.declared.ids.TypeId.{TypeId}
use Rattle.configure.specs.Configuration.{SettingRecord, encode, setting_by, record_for}

-- ---- 06: one record

abbrev pub item_of : Option Record → Item ConfigureRecord
item_of (Some (Record.Received direction id end)) = item (received direction id.0) end
item_of (Some (Record.Reported id t config end)) = item (reported id.0 t.0 config) end
item_of None = unread

-- ---- a configuration and the table

-- what a deed, or the failure in its place, comes to: its status, and the entries afterwards
abbrev pub deed_of : Result Deed Status → List Entry → Did (List Entry)
deed_of (Err why) l = did why l
deed_of (Ok (Deed.Clears k)) l = did Success (clear_l k l)
deed_of (Ok (Deed.Sets k g)) l = did (status_w ToSet (accepts_l capacity k l)) (configure_l capacity k g l)

-- it is what the definition wants, whatever the entries
abbrev pub Judges : (List Entry → Did (List Entry)) → Result Deed Status → Type 0
Judges want deed = (l : List Entry) → deed_of deed l ≡ want l

-- it was done in the bytes of a table, with this status: they are a table again, of the entries that it leaves
pub record Settles (deed : Result Deed Status) (before after : List ℕ) (status : Status) : Type 0 where
  pub table : is_table capacity after ≡ true
  pub is : did status (table_in after) ≡ deed_of deed (table_in before)

-- ---- the pass

-- the record at a place was read and judged, or none could be read
pub record Took (s : List ℕ) (request : ZclHeader) (body : List ℕ) (at end direction id : ℕ) (deed : Result Deed Status) : Type 0 where
  pub taken : ConfigureRecord
  pub is : configure_at body at ≡ item taken end
  pub named : (status : Status) → failure (status_code status) direction id ≡ failing status taken
  pub judged : Judges (λ l. tried 8 capacity s request l taken) deed

abbrev pub Turns : List ℕ → ZclHeader → List ℕ → ℕ → Option Turn → Type 0
Turns s request body at (Some t) = Took s request body at t.end t.direction t.id.0 t.deed
Turns s request body at None = configure_at body at ≡ unread

-- every record was done in the bytes of a table, behind whatever head the buffer showed
pub record Runs (s : List ℕ) (request : ZclHeader) (body : List ℕ) (start : ℕ) (bs₀ d : List ℕ) (done : Result ℕ Unfinished) (bs after : List ℕ) : Type 0 where
  pub table : is_table capacity bs ≡ true
  pub passed : Passed (configuring 8 capacity s request) (configures body) start (table_in bs₀) d done (table_in bs) after

-- ---- 08

-- what an answer says of what is asked somewhere
abbrev pub asked_item : Option AskedHere → Item Asked
asked_item (Some a) = item (asked a.direction a.id.0) a.end
asked_item None = unread

-- the record that is sent for what is sought, from these entries
abbrev pub sought_by : List Entry → Asked → Result (Key × TypeId) Status → SettingRecord
sought_by l r (Err why) = SettingRecord.failure (status_code why) r.direction r.id
sought_by l r (Ok (k, t)) = setting_by (lookup_l k l) r t.0

-- it is what the definition wants, whatever the entries
abbrev pub Seeks : List ℕ → ZclHeader → ℕ → ℕ → Result (Key × TypeId) Status → Type 0
Seeks s request direction id x = (l : List Entry) → sought_by l (asked direction id) x ≡ record_for 8 s l request (asked direction id)

-- one that is asked was answered, from a table with these entries
abbrev pub Answered : List ℕ → List Entry → ZclHeader → ℕ → ℕ → List ℕ → ℕ → Option ℕ → List ℕ → Type 0
Answered s l request direction id d out r after = Turned encode (λ fit. record_for 8 s l request) (asked direction id) d out r after

-- every one was
abbrev pub AllAnswered : List ℕ → List Entry → ZclHeader → List ℕ → List ℕ → ℕ → Result ℕ Refusal → List ℕ → Type 0
AllAnswered s l request body d from r after = Walked encode (λ fit. record_for 8 s l request) (asked_at body) (length body) d from r after
