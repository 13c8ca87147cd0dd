-- Claims. What document 02, request 2 moved: the three commands as document 01 has them, and that Write and Write without response keep their results,
-- and Undivided its own where no record is too long.
use Rattle.std.specs.Prelude.{◌≡◌, ℕ, ◌≤◌, true, cond, List, length, eqb, Err, None, Ok, Option, Result, Some}
use Rattle.frame.specs.declared.header.ZclHeader.{ZclHeader}
use Rattle.frame.specs.declared.command_identifier.CommandIdentifier.TheVariants.{WriteAttributesResponse}
use Rattle.frame.specs.declared.status.Status.{Status}
use Rattle.frame.specs.declared.status.Status.TheVariants.{Success, UnsupportedAttribute, ReadOnly, InvalidDataType, InvalidValue}
use Rattle.frame.specs.declared.answer.Refusal.TheVariants.{NothingToSend}
use Rattle.frame.specs.Answer.{Outcome, refused}
use Rattle.frame.specs.Walk.{Way, through, broken, stopped, reached, All}
use Rattle.frame.specs.Encoded.{fits}
use Rattle.frame.specs.Failures.{Doing, Sofar, pass, always, concluded, performed, headed}
use Rattle.store.specs.declared.lookup.Attribute.{Attribute}
use Rattle.store.specs.Contents.{name_of, find_of}
use Rattle.store.specs.Layout.{is_store}
use Rattle.store.specs.Value.{stored}
use Rattle.store.specs.Write.{too_long, is_writable, Wrote, wrote}
use Rattle.write.specs.Request.{WriteRecord, records}
use Rattle.write.specs.Reply.{Failure, encode}
use Rattle.write.specs.Write.{listing, if_none, write_attributes, write_undivided, write_silently}
use Rattle.write.specs.Claims.Undivided.{status_over}

-- ---- document 01: a writable check that does not look at the value

-- not found 86, then not writable 88, then other type 8d
abbrev pub writable_before : Option Attribute → ℕ → Result Attribute Status
writable_before None t = Err UnsupportedAttribute
writable_before (Some a) t = cond (is_writable a) (cond (eqb a.type_id.0 t) (Ok a) (Err InvalidDataType)) (Err ReadOnly)

abbrev pub found_before : ℕ → ZclHeader → List ℕ → WriteRecord → Result Attribute Status
found_before form request s r = writable_before (find_of form s (name_of request.manufacturer_code.0 r.id)) r.type

-- "then string longer than room-1 (ff is not) 87; else stored at once"
abbrev pub stored_before : List ℕ → List ℕ → Result Attribute Status → Wrote
stored_before s v (Ok a) = cond (too_long a v) (wrote InvalidValue s) (wrote Success (stored s a v))
stored_before s v (Err why) = wrote why s

unfoldable pub written_before : ℕ → ZclHeader → List ℕ → WriteRecord → Wrote
written_before form request s r = stored_before s r.value (found_before form request s r)

-- "a first pass reads all records and makes the first three checks"
abbrev pub passed_before : Result Attribute Status → Status
passed_before (Ok a) = Success
passed_before (Err why) = why

unfoldable pub checked_before : ℕ → ZclHeader → List ℕ → WriteRecord → Wrote
checked_before form request s r = wrote (passed_before (found_before form request s r)) s

abbrev pub writing_before : ℕ → ZclHeader → Doing (List ℕ) WriteRecord Failure
writing_before form request = listing (written_before form request)

-- ---- document 01: the three commands

abbrev pub write_before : ℕ → List ℕ → ZclHeader → List ℕ → ℕ → Outcome (List ℕ)
write_before form s request body room = headed request WriteAttributesResponse s room (performed (writing_before form request) (records body) s room)

abbrev pub silently_before : ℕ → List ℕ → ZclHeader → List ℕ → ℕ → Outcome (List ℕ)
silently_before form s request body room = refused room NothingToSend (reached (pass (writing_before form request) always (records body) s)).state

-- "any failure ends it with the list. Otherwise the write steps run, all four checks included"
unfoldable pub steps_before : ℕ → ZclHeader → List ℕ → ℕ → List ℕ → Way (Sofar (List ℕ) Failure) → Outcome (List ℕ)
steps_before form request body room head (through x) =
    if_none x.failures (performed (writing_before form request) (records body) x.state room head) (concluded encode room head (through x))
steps_before form request body room head (broken x) = concluded encode room head (broken x)
steps_before form request body room head (stopped x y) = concluded encode room head (stopped x y)

unfoldable pub undivided_before : ℕ → List ℕ → ZclHeader → List ℕ → ℕ → Outcome (List ℕ)
undivided_before form s request body room =
    headed request WriteAttributesResponse s room
    (λ head. steps_before form request body room head (pass (listing (checked_before form request)) (fits encode room (length head)) (records body) s))

-- ---- what stayed

-- "Write and write without response use it too and keep their results": over any bytes, for every body and room
abbrev pub WriteAsBefore : Type 0
WriteAsBefore =
    (form : ℕ) (s : List ℕ) (request : ZclHeader) (body : List ℕ) (room : ℕ) → write_attributes form s request body room ≡ write_before form s request body room

abbrev pub SilentlyAsBefore : Type 0
SilentlyAsBefore =
    (form : ℕ) (s : List ℕ) (request : ZclHeader) (body : List ℕ) (room : ℕ) → write_silently form s request body room ≡ silently_before form s request body room

-- an undivided write of records of which none is too long
abbrev pub UndividedAsBefore : Type 0
UndividedAsBefore =
    (form : ℕ) (s : List ℕ) (request : ZclHeader) (body : List ℕ) (room : ℕ)
    → 8 ≤ form
    → is_store form s ≡ true
    → All (λ r. status_over form request s r ≡ InvalidValue → ⊥) (records body).list
    → write_undivided form s request body room ≡ undivided_before form s request body room
