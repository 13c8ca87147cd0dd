-- Claims. What the functions towards C did with one table's bytes: the calls one after the other, each with what it left; and DEMAND 3 of these
-- answers: "Start from an empty reporting table. An accepted configuration record gives an attribute minimum m and maximum M, M from 1 to 65534;
-- nothing later configures or clears it, but any other calls may come between. .." and of a table just read in (document 02, request 5). What is supposed
-- and promised of the events is said in crate `reporting` (specs/Demand3.antt).
use Rattle.std.specs.Prelude.{◌≡◌, cond, List, [], ◌∷◌, ◌++◌, ℕ, ◌^◌, ◌≤◌, ◌<◌, eqb, ℤ, Some}
use Rattle.types.specs.Number.{AllBytes}
use Rattle.frame.specs.Answer.{no_state}
use Rattle.std.specs.Int.Signed.{mag}
use Rattle.reporting.specs.declared.entry.Key.{Key}
use Rattle.reporting.specs.declared.entry.ReportingConfig.{ReportingConfig}
use Rattle.reporting.specs.declared.entry.Entry.{Entry}
use Rattle.reporting.specs.Entries.{lookup_l, fresh}
use Rattle.reporting.specs.Table.{capacity}
use Rattle.reporting.specs.Carried.{table_in}
use Rattle.reporting.specs.Claims.Events.{Event, configured, cleared, asked, marked, clearings, settings}
use Rattle.reporting.specs.Demand3.{Supposed, Promised, asks_of}
use Rattle.saved.specs.Saved.{saved_in, form_in}
use Rattle.report.specs.Turn.{Turn, turn_for, after_turn}
use Rattle.report.specs.Claims.Turns.{frame_of}
use Rattle.report.specs.Claims.History.{marking}
use Rattle.server.specs.Claims.History.{Request, request_events}
use Rattle.hingedrift.specs.Tables.{key_as, config_of, left, no_result, Configuration, new_left, configure_left, clear_left, mark_left, ask_left, configuration_left}
use Rattle.server.specs.Lent.{lent}
use Rattle.hingedrift.specs.Serving.{handed, is_unicast, turn_left, handle_left}
use Rattle.hingedrift.specs.Saving.{save_left, restore_left}

-- ---- calls

-- the arguments of a call, beside the table
pub record Target : Type 0 where
  pub cluster : ℕ
  pub attribute : ℕ

pub record Intervals : Type 0 where
  pub minimum : ℕ
  pub maximum : ℕ
  pub change : ℕ
  pub mark : ℕ

-- a value at a time
pub record Sample : Type 0 where
  pub now : ℕ
  pub value : ℤ

-- a request: store, cluster, unicast, frame and the size of the reply buffer; and what hd_handle_request gave back: its number, what it put through
-- `reply_used`, and the reply buffer, the store and the table's bytes afterwards
pub record Handled : Type 0 where
  pub store : List ℕ
  pub cluster : ℕ
  pub unicast : ℕ
  pub frame : List ℕ
  pub size : ℕ
  pub number : ℕ
  pub used : ℕ
  pub reply : List ℕ
  pub store_after : List ℕ
  pub table_after : List ℕ

-- a turn: store, sequence number, time, last id and the size of the frame buffer; and what hd_report_turn gave back: its number, what it put through
-- `frame_used` and `last`, and the frame buffer and the table's bytes afterwards
pub record Turning : Type 0 where
  pub store : List ℕ
  pub sequence : ℕ
  pub now : ℕ
  pub last : ℕ
  pub size : ℕ
  pub number : ℕ
  pub used : ℕ
  pub frame : List ℕ
  pub table_after : List ℕ
  pub last_after : ℕ

-- a call with its arguments, the number that it gave back, what it put through `accepted`, `due` or the five of a configuration, and the table's bytes
-- afterwards where it may change them; of hd_save the size of the buffer, the number, `saved_used` and the buffer, of hd_restore the bytes that were to be
-- read, the number and the table. hd_table_new is none of them: a log may begin with it.
pub data Made : Type 0 where
  configure : Target → Intervals → ℕ → ℕ → List ℕ → Made
  clear : Target → ℕ → List ℕ → Made
  mark : Target → Sample → ℕ → List ℕ → Made
  ask : Target → Sample → ℕ → ℕ → Made
  configuration : Target → ℕ → Configuration → Made
  handle : Handled → Made
  save : ℕ → ℕ → ℕ → List ℕ → Made
  restore : List ℕ → ℕ → List ℕ → Made
  turn : Turning → Made

abbrev pub key_at : Target → Key
key_at a = key_as a.cluster a.attribute

abbrev pub config_as : Intervals → ReportingConfig
config_as g = config_of g.minimum g.maximum g.change g.mark

-- what the contract says of a call, for the bytes that it was called on: the `ensures` of src/table.rt, src/serving.rt and src/saving.rt
abbrev pub Contract : Made → List ℕ → Type 0
Contract (configure a g number accepted table) bs = left number table accepted ≡ configure_left bs (key_at a) (config_as g) g.mark
Contract (clear a number table) bs = left number table no_result ≡ clear_left bs (key_at a)
Contract (mark a x number table) bs = left number table no_result ≡ mark_left bs (key_at a) x.now x.value
Contract (ask a x number due) bs = left number bs due ≡ ask_left bs (key_at a) x.now x.value
Contract (configuration a number found) bs = left number bs found ≡ configuration_left bs (key_at a)
Contract (handle h) bs =
    handed h.number h.used h.reply (lent h.store_after h.table_after)
    ≡ handle_left h.store bs h.cluster h.unicast h.frame h.size
Contract (save size number used buffer) bs = handed number used buffer no_state ≡ save_left bs size
Contract (restore form number table) bs = left number table no_result ≡ restore_left bs form
Contract (turn t) bs =
    handed t.number t.used t.frame (after_turn t.table_after t.last_after)
    ≡ turn_left t.store bs t.sequence t.now t.last t.size

-- what the types of the arguments say, of those that go into the table: uint16_t, uint64_t, uint32_t, int64_t, and bytes
abbrev pub Typed : Made → Type 0
Typed (configure a g number accepted table) =
    (a.cluster < 2 ^ 16) × (a.attribute < 2 ^ 16) × (g.minimum < 2 ^ 16) × (g.maximum < 2 ^ 16) × (g.change < 2 ^ 64)
Typed (clear a number table) = Unit
Typed (mark a x number table) = (x.now < 2 ^ 32) × (mag x.value < 2 ^ 63)
Typed (ask a x number due) = Unit
Typed (configuration a number found) = Unit
Typed (handle h) = AllBytes h.store × AllBytes h.frame
Typed (save size number used buffer) = Unit
Typed (restore form number table) = AllBytes form
Typed (turn t) = AllBytes t.store × (t.now < 2 ^ 32)

-- the bytes that the caller has then
abbrev pub next : Made → List ℕ → List ℕ
next (configure a g number accepted table) bs = table
next (clear a number table) bs = table
next (mark a x number table) bs = table
next (ask a x number due) bs = bs
next (configuration a number found) bs = bs
next (handle h) bs = h.table_after
next (save size number used buffer) bs = bs
next (restore form number table) bs = table
next (turn t) bs = t.table_after

abbrev pub last : List Made → List ℕ → List ℕ
last [] bs = bs
last (c ∷ cs) bs = last cs (next c bs)

-- the calls of a log were made one after the other, each on the bytes that the one before it left
abbrev pub Log : List ℕ → List Made → Type 0
Log bs [] = Unit
Log bs (c ∷ cs) = Typed c × Contract c bs × Log (next c bs) cs

-- ---- their events

abbrev pub request_of : Handled → Request
request_of h = record { store = h.store; cluster = h.cluster; unicast = is_unicast h.unicast; frame = h.frame; room = h.size }

abbrev pub turn_as : Turning → Turn
turn_as t = turn_for t.store t.sequence t.last t.now t.size

-- what hd_restore read in, by its number
abbrev pub come : List ℕ → ℕ → List Entry
come form number = cond (eqb number 0) (saved_in (form_in form) form) []

-- by what a call gave back: what was not accepted, or refused with a number, is none; the answer of an ask is its `due`. A request's are by the table that
-- it was called on, and so are a turn's, the marks of what it wrote. A read, refused or not, clears what stood and configures what it read.
abbrev pub events_of : Made → List ℕ → List Event
events_of (configure a g number accepted table) bs = cond (eqb accepted 1) (configured (key_at a) (config_as g) ∷ []) []
events_of (clear a number table) bs = cond (eqb number 0) (cleared (key_at a) ∷ []) []
events_of (mark a x number table) bs = cond (eqb number 0) (marked (key_at a) x.now x.value ∷ []) []
events_of (ask a x number due) bs = cond (eqb number 0) (asked (key_at a) x.now x.value (eqb due 1) ∷ []) []
events_of (configuration a number found) bs = []
events_of (handle h) bs = request_events capacity (request_of h) (table_in bs)
events_of (save size number used buffer) bs = []
events_of (restore form number table) bs = clearings (table_in bs) ++ settings (come form number)
events_of (turn t) bs = marking t.store t.now (frame_of 8 (turn_as t) (table_in bs))

abbrev pub all_events_of : List Made → List ℕ → List Event
all_events_of [] bs = []
all_events_of (c ∷ cs) bs = events_of c bs ++ all_events_of cs (next c bs)

-- what comes after the accepted record: the rest of its frame, also of one that ends in 4 or 5, and then the calls
abbrev pub later_of : List Event → List Made → List ℕ → List Event
later_of rest after bs = rest ++ all_events_of after bs

-- ---- the claims

-- how a log begins: hd_table_new gave 0, or hd_restore 0 or 13, whatever the bytes of the table were
pub data Begin : Type 0 where
  made : Begin
  read : List ℕ → ℕ → Begin

abbrev pub Begins : Begin → List ℕ → List ℕ → Type 0
Begins made was bs = left 0 bs no_result ≡ new_left was
Begins (read form number) was bs = AllBytes form × ((number ≡ 8 → ⊥) × (left number bs no_result ≡ restore_left was form))

-- Demand 3 of the functions towards C: the log began with the bytes bs, and its calls were made from these on. Among them is a request h with a record that
-- was accepted, any record of its frame. That m ≤ M is no supposition: it follows from the acceptance.
abbrev pub Demand3OfBytes : Type 0
Demand3OfBytes =
    (how : Begin) (was bs : List ℕ) (before : List Made) (h : Handled) (after : List Made) (earlier : List Event) (k : Key) (g : ReportingConfig) (rest : List Event) (G : ℕ)
    → Begins how was bs
    → Log bs (before ++ (handle h ∷ after))
    → events_of (handle h) (last before bs) ≡ earlier ++ (configured k g ∷ rest)
    → 1 ≤ g.max_interval
    → g.max_interval ≤ 65534
    → Supposed k G (later_of rest after h.table_after)
    → Promised g G (asks_of k (later_of rest after h.table_after))

-- Demand 3 from a table just read in: hd_restore gave 0, whatever the bytes were, after a power cut or between other calls; k has the configuration g in the form; and the
-- calls of the log were made from these bytes on. That M ≤ 65534 is no supposition either: it follows from the 0.
abbrev pub Demand3OfRestored : Type 0
Demand3OfRestored =
    (was form bs : List ℕ) (after : List Made) (k : Key) (g : ReportingConfig) (G : ℕ)
    → Begins (read form 0) was bs
    → Log bs after
    → lookup_l k (saved_in (form_in form) form) ≡ Some (fresh k g)
    → 1 ≤ g.max_interval
    → Supposed k G (all_events_of after bs)
    → Promised g G (asks_of k (all_events_of after bs))
