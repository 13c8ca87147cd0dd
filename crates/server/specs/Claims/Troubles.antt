-- Claims. Which trouble counts (document 01, "What a call says back": "Within records the first trouble met counts") in the requests that are answered
-- with their failures, 02, 03 and 06 (of every such command: `frame`, specs/Claims/Troubles.antt). They tell a frame whose records can all be read from
-- the same frame with more bytes behind it.
use Rattle.std.specs.Prelude.{◌≡◌, Bool, List, ◌++◌, ℕ, ◌≤◌, drop}
use Rattle.frame.specs.declared.header.ZclHeader.{ZclHeader}
use Rattle.frame.specs.declared.command_identifier.CommandIdentifier.{CommandIdentifier}
use Rattle.frame.specs.declared.command_identifier.CommandIdentifier.TheVariants.{WriteAttributes, WriteAttributesUndivided, ConfigureReporting}
use Rattle.frame.specs.declared.answer.Refusal.TheVariants.{RecordCut, ReplyTooLong}
use Rattle.frame.specs.Answer.{Outcome, refused}
use Rattle.frame.specs.Walk.{done, cut, Records, ended}
use Rattle.frame.specs.Claims.Troubles.{Is5, Not5, single, NoneFails}
use Rattle.reporting.specs.Table.{Table}
use Rattle.write.specs.Request.{records}
use Rattle.configure.specs.Request.{configures}
use Rattle.server.specs.Serve.{State, state, serve}
use Rattle.server.specs.Claims.Asks.{Asks}

-- ---- frames

-- for every form, limit, store, table, cluster and way of sending, and every frame of this command whose records, by this reading of a body, can all be read: P of what is
-- answered to a frame in a room, of store and table as they came, and of the frame
abbrev pub OfEvery : {R : Type 0} → CommandIdentifier → (List ℕ → Records R) → ((List ℕ → ℕ → Outcome State) → State → List ℕ → Type 0) → Type 0
OfEvery asked reading P =
    (form limit : ℕ) (s : List ℕ) (t : Table) (cluster : ℕ) (unicast : Bool) (frame : List ℕ) (h : ZclHeader)
    → Asks asked frame h
    → (reading (drop h.body frame)).ending ≡ done
    → P (serve form limit s t cluster unicast) (state s t) frame

-- the first record of these bytes cannot be read
abbrev pub Unread : {R : Type 0} → (List ℕ → Records R) → List ℕ → Type 0
Unread reading b = reading b ≡ ended cut

-- ---- five claims of a command and its reading

-- 4, where the frame alone has a reply: what it did stays done
abbrev pub ServedCutIsFour : {R : Type 0} → CommandIdentifier → (List ℕ → Records R) → Type 0
ServedCutIsFour asked reading =
    OfEvery asked reading
    (λ answer came frame.
    (b : List ℕ) (room : ℕ) → Unread reading b → (answer frame room).number ≡ 0 → answer (frame ++ b) room ≡ refused room RecordCut (answer frame room).state)

-- 5, with room for the header and one byte at least: whatever follows
abbrev pub ServedFiveStays : {R : Type 0} → CommandIdentifier → (List ℕ → Records R) → Type 0
ServedFiveStays asked reading =
    OfEvery asked reading
    (λ answer came frame. (b : List ℕ) (room : ℕ) → 4 ≤ room → Is5 (answer frame room) → answer (frame ++ b) room ≡ answer frame room)

-- the record that did not fit is done too
abbrev pub ServedFiveDone : {R : Type 0} → CommandIdentifier → (List ℕ → Records R) → Type 0
ServedFiveDone {R} asked reading =
    OfEvery asked reading
    (λ answer came frame.
    (b : List ℕ) (r : R) (room more : ℕ)
    → reading b ≡ single r
    → Not5 (answer frame room)
    → Not5 (answer (frame ++ b) more)
    → (answer (frame ++ b) room).state ≡ (answer (frame ++ b) more).state)

-- with room for the header alone, where no record fails: 5, all done; and 4 where a record behind them cannot be read
abbrev pub ServedFiveAtHeader : {R : Type 0} → CommandIdentifier → (List ℕ → Records R) → Type 0
ServedFiveAtHeader asked reading =
    OfEvery asked reading
    (λ answer came frame. (more : ℕ) → NoneFails (answer frame more) → answer frame 3 ≡ refused 3 ReplyTooLong (answer frame more).state)

abbrev pub ServedCutIsFourAtHeader : {R : Type 0} → CommandIdentifier → (List ℕ → Records R) → Type 0
ServedCutIsFourAtHeader asked reading =
    OfEvery asked reading
    (λ answer came frame.
    (b : List ℕ) (more : ℕ) → Unread reading b → NoneFails (answer frame more) → answer (frame ++ b) 3 ≡ refused 3 RecordCut (answer frame more).state)

-- ---- Write Attributes (02): what is done is the store

abbrev pub WriteCutIsFour : Type 0
WriteCutIsFour = ServedCutIsFour WriteAttributes records

abbrev pub WriteFiveStays : Type 0
WriteFiveStays = ServedFiveStays WriteAttributes records

abbrev pub WriteFiveDone : Type 0
WriteFiveDone = ServedFiveDone WriteAttributes records

abbrev pub WriteFiveAtHeader : Type 0
WriteFiveAtHeader = ServedFiveAtHeader WriteAttributes records

abbrev pub WriteCutIsFourAtHeader : Type 0
WriteCutIsFourAtHeader = ServedCutIsFourAtHeader WriteAttributes records

-- ---- Configure Reporting (06): what is done is the table

abbrev pub ConfigureCutIsFour : Type 0
ConfigureCutIsFour = ServedCutIsFour ConfigureReporting configures

abbrev pub ConfigureFiveStays : Type 0
ConfigureFiveStays = ServedFiveStays ConfigureReporting configures

abbrev pub ConfigureFiveDone : Type 0
ConfigureFiveDone = ServedFiveDone ConfigureReporting configures

abbrev pub ConfigureFiveAtHeader : Type 0
ConfigureFiveAtHeader = ServedFiveAtHeader ConfigureReporting configures

abbrev pub ConfigureCutIsFourAtHeader : Type 0
ConfigureCutIsFourAtHeader = ServedCutIsFourAtHeader ConfigureReporting configures

-- ---- Write Attributes Undivided (03): nothing is written before every record was checked (document 02, request 2)

-- where a record cannot be read, store and table are as they came, whatever the answer
abbrev pub UndividedCutUntouched : Type 0
UndividedCutUntouched =
    OfEvery WriteAttributesUndivided records (λ answer came frame. (b : List ℕ) (room : ℕ) → Unread records b → (answer (frame ++ b) room).state ≡ came)

-- it is 4 where the frame alone has a reply
abbrev pub UndividedCutIsFour : Type 0
UndividedCutIsFour =
    OfEvery WriteAttributesUndivided records
    (λ answer came frame. (b : List ℕ) (room : ℕ) → Unread records b → (answer frame room).number ≡ 0 → answer (frame ++ b) room ≡ refused room RecordCut came)

-- 5, with room for the header and one byte at least: a failure does not fit, whatever follows; store and table are as they came
abbrev pub UndividedFiveStays : Type 0
UndividedFiveStays =
    OfEvery WriteAttributesUndivided records
    (λ answer came frame.
    (b : List ℕ) (room : ℕ)
    → 4 ≤ room
    → Is5 (answer frame room)
    → (answer frame room ≡ refused room ReplyTooLong came) × (answer (frame ++ b) room ≡ refused room ReplyTooLong came))

-- with room for the header alone, where no record fails: 5, all done (bench frame 8); and 4, nothing done, where a record behind them cannot be read
abbrev pub UndividedFiveAtHeader : Type 0
UndividedFiveAtHeader = ServedFiveAtHeader WriteAttributesUndivided records

abbrev pub UndividedCutIsFourAtHeader : Type 0
UndividedCutIsFourAtHeader =
    OfEvery WriteAttributesUndivided records
    (λ answer came frame. (b : List ℕ) (more : ℕ) → Unread records b → NoneFails (answer frame more) → answer (frame ++ b) 3 ≡ refused 3 RecordCut came)
