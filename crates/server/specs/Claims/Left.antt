-- Claims. What every answer leaves (document 01, "What a call says back"), as claims about every request, every call of the responder, every
-- report and every report turn.
use Rattle.std.specs.Prelude.{◌≡◌, Bool, true, List, ℕ, ◌≤◌, length, take}
use Rattle.types.specs.Number.{zeros}
use Rattle.frame.specs.declared.answer.Refusal.{Refusal}
use Rattle.frame.specs.declared.answer.Refusal.TheVariants.{OtherCluster, HeaderShort, ReservedFrameType, RecordCut, ReplyTooLong, NothingToSend, NotAStore, NotATable, NoNumber, NotSuchAReply, EmptyReport, NotReportable, NotASavedForm}
use Rattle.frame.specs.Reply.{padded}
use Rattle.frame.specs.Answer.{refusal_number, Outcome}
use Rattle.store.specs.Layout.{is_store}
use Rattle.store.specs.Claims.Stays.{StoreLike}
use Rattle.reporting.specs.Table.{Table}
use Rattle.server.specs.Serve.{State, state, serve}
use Rattle.server.specs.UnsupportedCluster.{unsupported_cluster}
use Rattle.report.specs.Report.{report_of}
use Rattle.report.specs.Turn.{Turn, After, after_turn, turn_of}

-- ---- what an outcome leaves of a reply buffer of so much room, whatever else the call may change

-- "after a refusal it is all zeros": where the number is not 0, the reply buffer is, and the length is 0
abbrev pub Clears : {S : Type 0} → ℕ → Outcome S → Type 0
Clears room o = (o.number ≡ 0 → ⊥) → (o.reply ≡ zeros room) × (o.size ≡ 0)

-- "The reply buffer always ends as the reply followed by zeros to its end": where the number is 0, the length fits the room, and zeros follow
abbrev pub ThenZeros : {S : Type 0} → ℕ → Outcome S → Type 0
ThenZeros room o = o.number ≡ 0 → (o.size ≤ room) × (o.reply ≡ padded room (take o.size o.reply))

-- the buffer is as long as it was
abbrev pub AsLong : {S : Type 0} → ℕ → Outcome S → Type 0
AsLong room o = length o.reply ≡ room

-- ---- of a request

-- for every form, limit, store, table, cluster, way of sending, frame and room: P of the room, of store and table as they came, and of the answer
abbrev pub OfEveryAnswer : (ℕ → State → Outcome State → Type 0) → Type 0
OfEveryAnswer P =
    (form limit : ℕ) (s : List ℕ) (t : Table) (cluster : ℕ) (unicast : Bool) (frame : List ℕ) (room : ℕ) → P room (state s t) (serve form limit s t cluster unicast frame room)

abbrev pub RefusalClears : Type 0
RefusalClears = OfEveryAnswer (λ room came o. Clears room o)

abbrev pub ReplyThenZeros : Type 0
ReplyThenZeros = OfEveryAnswer (λ room came o. ThenZeros room o)

abbrev pub ReplyLength : Type 0
ReplyLength = OfEveryAnswer (λ room came o. AsLong room o)

-- "Order: 7, 8, 1, 2, 3, then the command": whether a refusal is decided before any command, by the command, or never of a request
pub data When : Type 0 where
  before : When
  inside : When
  never : When

abbrev pub when : Refusal → When
when OtherCluster = before
when HeaderShort = before
when ReservedFrameType = before
when RecordCut = inside
when ReplyTooLong = inside
when NothingToSend = inside
when NotAStore = before
when NotATable = before
when NoNumber = never
when NotSuchAReply = never
when EmptyReport = never
when NotReportable = never
when NotASavedForm = never

abbrev pub Early : Refusal → Type 0
Early why = when why ≡ before

-- "untouched": 1, 2, 3, 7 and 8 leave store and table as they came
abbrev pub Untouched : Type 0
Untouched = OfEveryAnswer (λ room came o. (why : Refusal) → Early why → o.number ≡ refusal_number why → o.state ≡ came)

-- a store stays a store under every request: of the same length, with the same contents
abbrev pub StoreStays : Type 0
StoreStays =
    (form limit : ℕ) (s : List ℕ) (t : Table) (cluster : ℕ) (unicast : Bool) (frame : List ℕ) (room : ℕ)
    → 8 ≤ form
    → is_store form s ≡ true
    → StoreLike form s (serve form limit s t cluster unicast frame room).state.store

-- ---- of the responder and of a report, which change no store and no table

-- for every list of served clusters, cluster, way of sending, frame and room
abbrev pub OfEveryResponse : (ℕ → Outcome (Unit {0}) → Type 0) → Type 0
OfEveryResponse P =
    (served : List ℕ) (cluster : ℕ) (unicast : Bool) (frame : List ℕ) (room : ℕ) → P room (unsupported_cluster served cluster unicast frame room)

abbrev pub ResponderClears : Type 0
ResponderClears = OfEveryResponse (λ room o. Clears room o)

abbrev pub ResponderThenZeros : Type 0
ResponderThenZeros = OfEveryResponse (λ room o. ThenZeros room o)

abbrev pub ResponderLength : Type 0
ResponderLength = OfEveryResponse (λ room o. AsLong room o)

-- for every form, store, sequence number, list of ids and room
abbrev pub OfEveryReport : (ℕ → Outcome (Unit {0}) → Type 0) → Type 0
OfEveryReport P = (form : ℕ) (s : List ℕ) (sequence : ℕ) (ids : List ℕ) (room : ℕ) → P room (report_of form s sequence ids room)

abbrev pub ReportClears : Type 0
ReportClears = OfEveryReport (λ room o. Clears room o)

abbrev pub ReportThenZeros : Type 0
ReportThenZeros = OfEveryReport (λ room o. ThenZeros room o)

abbrev pub ReportLength : Type 0
ReportLength = OfEveryReport (λ room o. AsLong room o)

-- ---- of a report turn, which may change the table's bytes and the last id

-- for every form, turn and bytes: P of the room, of bytes and last id as they came, and of the answer
abbrev pub OfEveryTurn : (ℕ → After → Outcome After → Type 0) → Type 0
OfEveryTurn P = (form : ℕ) (u : Turn) (bs : List ℕ) → P u.room (after_turn bs u.last) (turn_of form u bs)

abbrev pub TurnClears : Type 0
TurnClears = OfEveryTurn (λ room came o. Clears room o)

abbrev pub TurnThenZeros : Type 0
TurnThenZeros = OfEveryTurn (λ room came o. ThenZeros room o)

abbrev pub TurnLength : Type 0
TurnLength = OfEveryTurn (λ room came o. AsLong room o)

-- "nothing marked": every refusal leaves bytes and last id as they came
abbrev pub TurnUntouched : Type 0
TurnUntouched = OfEveryTurn (λ room came o. (o.number ≡ 0 → ⊥) → o.state ≡ came)
