-- Claims. What every call of the server's functions leaves to C (document 01, "What a call says back"), as claims about every argument: nothing is
-- supposed of store, table or frame but what a claim names. `Clears`, `ThenZeros`, `AsLong` and `Early` are those of crate `server`
-- (specs/Claims/Left.antt); number, length and reply buffer are what the call gives back, what it puts through `reply_used`, and what it leaves in `reply`.
use Rattle.std.specs.Prelude.{◌≡◌, true, false, cond, List, [], ℕ, ◌^◌, ◌<◌, length, Some}
use Rattle.types.specs.Number.{AllBytes}
use Rattle.frame.specs.declared.header.ZclHeader.{ZclHeader}
use Rattle.frame.specs.declared.command_identifier.CommandIdentifier.TheVariants.{ReportAttributes, DefaultResponse}
use Rattle.frame.specs.declared.answer.Refusal.{Refusal}
use Rattle.frame.specs.declared.answer.Refusal.TheVariants.{NotAStore, NotATable, NotASavedForm}
use Rattle.frame.specs.Header.{frame_type_of, header_of}
use Rattle.frame.specs.Answer.{refusal_number, Outcome}
use Rattle.store.specs.Layout.{is_store}
use Rattle.store.specs.Claims.Stays.{StoreLike}
use Rattle.reporting.specs.declared.entry.Key.{Key}
use Rattle.reporting.specs.declared.entry.ReportingConfig.{ReportingConfig}
use Rattle.reporting.specs.Table.{capacity}
use Rattle.reporting.specs.Carried.{size_ok, is_table, table_bytes}
use Rattle.report.specs.Turn.{After, after_turn}
use Rattle.server.specs.Lent.{Lent, lent}
use Rattle.server.specs.Claims.Left.{Clears, ThenZeros, AsLong, Early}
use Rattle.server.specs.Claims.Starts.{Starts, answering}
use Rattle.hingedrift.specs.Tables.{left, no_result, configure_left}
use Rattle.hingedrift.specs.Saving.{save_left, restore_left}
use Rattle.hingedrift.specs.Serving.{unsupported_left, report_left, turn_left, handle_left}

-- ---- hd_handle_request

-- for every store, table, cluster, `unicast`, frame and size of the reply buffer: P of this size, of store and table as they came, and of what is left
abbrev pub OfEveryRequest : (ℕ → Lent → Outcome Lent → Type 0) → Type 0
OfEveryRequest P = (s bs : List ℕ) (cluster unicast : ℕ) (frame : List ℕ) (size : ℕ) → P size (lent s bs) (handle_left s bs cluster unicast frame size)

abbrev pub HdHandleRequestClears : Type 0
HdHandleRequestClears = OfEveryRequest (λ size came o. Clears size o)

abbrev pub HdHandleRequestThenZeros : Type 0
HdHandleRequestThenZeros = OfEveryRequest (λ size came o. ThenZeros size o)

abbrev pub HdHandleRequestLength : Type 0
HdHandleRequestLength = OfEveryRequest (λ size came o. AsLong size o)

-- "untouched": 1, 2, 3, 7 and 8 leave the store as it came, and so the table, if its bytes are below 256 as C's are
abbrev pub HdUntouched : Type 0
HdUntouched =
    OfEveryRequest
    (λ size came o.
    (why : Refusal) → Early why → o.number ≡ refusal_number why → (o.state.store ≡ came.store) × (AllBytes came.table → o.state.table ≡ came.table))

-- over what is no table the number is 8, or 7 where the store is none either, and both stay as they came, whatever they are
abbrev pub HdNoTableStays : Type 0
HdNoTableStays =
    OfEveryRequest
    (λ size came o.
    is_table capacity came.table ≡ false → (o.number ≡ refusal_number (cond (is_store 8 came.store) NotATable NotAStore)) × (o.state ≡ came))

-- a store stays a store, of the same length, with the same contents
abbrev pub HdStoreStays : Type 0
HdStoreStays = OfEveryRequest (λ size came o. is_store 8 came.store ≡ true → StoreLike 8 came.store o.state.store)

-- a table stays a table, of the same length, under a frame of bytes over a store of bytes
abbrev pub HdTableStays : Type 0
HdTableStays =
    (s bs : List ℕ) (cluster unicast : ℕ) (frame : List ℕ) (size : ℕ)
    → AllBytes s
    → AllBytes bs
    → AllBytes frame
    → is_table capacity bs ≡ true
    → (is_table capacity (handle_left s bs cluster unicast frame size).state.table ≡ true) × (length (handle_left s bs cluster unicast frame size).state.table ≡ length bs)

-- every reply starts 18, the request's sequence number, and the command that answers the request's (server, specs/Claims/Starts.antt)
abbrev pub HdHandleRequestStarts : Type 0
HdHandleRequestStarts =
    (s bs : List ℕ) (cluster unicast : ℕ) (frame : List ℕ) (size : ℕ) (h : ZclHeader)
    → header_of frame ≡ Some h
    → Starts h.sequence_number (answering (frame_type_of h.frame_control.0) h.command_identifier.0) (handle_left s bs cluster unicast frame size)

-- ---- hd_unsupported_cluster, which changes neither

abbrev pub OfEveryResponse : (ℕ → Outcome (Unit {0}) → Type 0) → Type 0
OfEveryResponse P = (served : List ℕ) (cluster unicast : ℕ) (frame : List ℕ) (size : ℕ) → P size (unsupported_left served cluster unicast frame size)

abbrev pub HdUnsupportedClusterClears : Type 0
HdUnsupportedClusterClears = OfEveryResponse (λ size o. Clears size o)

abbrev pub HdUnsupportedClusterThenZeros : Type 0
HdUnsupportedClusterThenZeros = OfEveryResponse (λ size o. ThenZeros size o)

abbrev pub HdUnsupportedClusterLength : Type 0
HdUnsupportedClusterLength = OfEveryResponse (λ size o. AsLong size o)

abbrev pub HdUnsupportedClusterStarts : Type 0
HdUnsupportedClusterStarts =
    (served : List ℕ) (cluster unicast : ℕ) (frame : List ℕ) (size : ℕ) (h : ZclHeader)
    → header_of frame ≡ Some h
    → Starts h.sequence_number DefaultResponse (unsupported_left served cluster unicast frame size)

-- ---- hd_report, which changes neither

abbrev pub OfEveryReport : (ℕ → Outcome (Unit {0}) → Type 0) → Type 0
OfEveryReport P = (s : List ℕ) (sequence : ℕ) (ids : List ℕ) (size : ℕ) → P size (report_left s sequence ids size)

abbrev pub HdReportClears : Type 0
HdReportClears = OfEveryReport (λ size o. Clears size o)

abbrev pub HdReportThenZeros : Type 0
HdReportThenZeros = OfEveryReport (λ size o. ThenZeros size o)

abbrev pub HdReportLength : Type 0
HdReportLength = OfEveryReport (λ size o. AsLong size o)

abbrev pub HdReportStarts : Type 0
HdReportStarts = (s : List ℕ) (sequence : ℕ) (ids : List ℕ) (size : ℕ) → Starts sequence ReportAttributes (report_left s sequence ids size)

-- ---- hd_report_turn

-- for every store, table, sequence number, time, last id and size of the frame buffer: P of this size, of table and last id as they came, and of what is left
abbrev pub OfEveryTurn : (ℕ → After → Outcome After → Type 0) → Type 0
OfEveryTurn P = (s bs : List ℕ) (sequence now last size : ℕ) → P size (after_turn bs last) (turn_left s bs sequence now last size)

abbrev pub HdReportTurnClears : Type 0
HdReportTurnClears = OfEveryTurn (λ size came o. Clears size o)

abbrev pub HdReportTurnThenZeros : Type 0
HdReportTurnThenZeros = OfEveryTurn (λ size came o. ThenZeros size o)

abbrev pub HdReportTurnLength : Type 0
HdReportTurnLength = OfEveryTurn (λ size came o. AsLong size o)

-- where the number is not 0, the table and the last id are as they came
abbrev pub HdReportTurnUntouched : Type 0
HdReportTurnUntouched = OfEveryTurn (λ size came o. (o.number ≡ 0 → ⊥) → o.state ≡ came)

-- a table stays a table, of the same length, over a store of bytes and at a time of 32 bits
abbrev pub HdReportTurnTableStays : Type 0
HdReportTurnTableStays =
    (s bs : List ℕ) (sequence now last size : ℕ)
    → AllBytes s
    → AllBytes bs
    → now < 2 ^ 32
    → is_table capacity bs ≡ true
    → (is_table capacity (turn_left s bs sequence now last size).state.table ≡ true) × (length (turn_left s bs sequence now last size).state.table ≡ length bs)

abbrev pub HdReportTurnStarts : Type 0
HdReportTurnStarts = (s bs : List ℕ) (sequence now last size : ℕ) → Starts sequence ReportAttributes (turn_left s bs sequence now last size)

-- ---- hd_configure

-- 8 for bytes that are no table, then 13 for a mark other than 0 or 1: the bytes stay, and nothing is accepted
abbrev pub HdConfigureNoTable : Type 0
HdConfigureNoTable =
    (bs : List ℕ) (k : Key) (g : ReportingConfig) (mark : ℕ) → is_table capacity bs ≡ false → configure_left bs k g mark ≡ left (refusal_number NotATable) bs 0

abbrev pub HdConfigureNoMark : Type 0
HdConfigureNoMark =
    (bs : List ℕ) (k : Key) (g : ReportingConfig) (mark : ℕ) → is_table capacity bs ≡ true → 1 < mark → configure_left bs k g mark ≡ left (refusal_number NotASavedForm) bs 0

-- ---- hd_save and hd_restore

abbrev pub OfEverySave : (ℕ → Outcome (Unit {0}) → Type 0) → Type 0
OfEverySave P = (bs : List ℕ) (size : ℕ) → P size (save_left bs size)

abbrev pub HdSaveClears : Type 0
HdSaveClears = OfEverySave (λ size o. Clears size o)

abbrev pub HdSaveThenZeros : Type 0
HdSaveThenZeros = OfEverySave (λ size o. ThenZeros size o)

abbrev pub HdSaveLength : Type 0
HdSaveLength = OfEverySave (λ size o. AsLong size o)

-- bytes of another length than a table's get 8 and stay; others are a table afterwards, with 13 the empty one
abbrev pub HdRestoreStays : Type 0
HdRestoreStays = (was form : List ℕ) → size_ok capacity was ≡ false → restore_left was form ≡ left (refusal_number NotATable) was no_result

abbrev pub HdRestoreLeavesTable : Type 0
HdRestoreLeavesTable = (was form : List ℕ) → AllBytes form → size_ok capacity was ≡ true → is_table capacity (restore_left was form).table ≡ true

abbrev pub HdRestoreEmpties : Type 0
HdRestoreEmpties = (was form : List ℕ) → (restore_left was form).number ≡ refusal_number NotASavedForm → (restore_left was form).table ≡ table_bytes capacity []
