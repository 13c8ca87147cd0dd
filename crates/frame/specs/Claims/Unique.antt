-- Claims. No second answer fits a contract: one claim for each public function, of two results and exit buffers that meet it at the same entry
-- values. The function of an `impl From` is one of them, and what it gives is its contract: RefusalNumberOnce, FromBitsOnce, RawOnce, RefusalOfOnce, ToU8Once.
use Rattle.std.specs.Prelude.{ℕ, ◌≡◌, Bool, List, [], ◌∷◌, ◌++◌, length, Option, Result}
use Rattle.frame.specs.Answer.{refusal_number, answer_number, answer_length, no_state, seen, refused}
use Rattle.frame.specs.CommandIdentifier.{command_code, command_of}
use Rattle.frame.specs.Inside.Buffer.{putting, put}
use Rattle.frame.specs.Inside.Failures.{noting, refusal_of, concluded_at}
use Rattle.types.specs.Number.{zeros, bytes_of}
use Rattle.frame.specs.Header.{frame_type_of, has_code, header_of, reply_head}
use Rattle.frame.specs.Status.{status_code}
use Rattle.frame.specs.declared.answer.Refusal.{Refusal}
use Rattle.frame.specs.declared.command_identifier.CommandIdentifier.{CommandIdentifier}
use Rattle.frame.specs.declared.failures.Unfinished.{Unfinished}
use Rattle.frame.specs.declared.header.FrameControl.{FrameControl}
use Rattle.frame.specs.declared.header.FrameType.{FrameType}
use Rattle.frame.specs.declared.header.ZclHeader.{ZclHeader}
use Rattle.frame.specs.declared.status.Status.{Status}

-- src/answer.rt
abbrev pub RefusalNumberOnce : Type 0
RefusalNumberOnce = (self : Refusal) (r q : ℕ) → r ≡ refusal_number self → q ≡ refusal_number self → r ≡ q

abbrev pub AnswerNumberOnce : Type 0
AnswerNumberOnce = (self : Result ℕ Refusal) (r q : ℕ) → r ≡ answer_number self → q ≡ answer_number self → r ≡ q

abbrev pub ReplyLenOnce : Type 0
ReplyLenOnce = (self : Result ℕ Refusal) (r q : ℕ) → r ≡ answer_length self → q ≡ answer_length self → r ≡ q

abbrev pub RefuseOnce : Type 0
RefuseOnce =
    (reply : List ℕ) (why : Refusal) (r q : Result ℕ Refusal) (x y : List ℕ)
    → seen r x no_state ≡ refused (length reply) why no_state
    → seen q y no_state ≡ refused (length reply) why no_state
    → (r ≡ q) × (x ≡ y)

-- src/command_identifier.rt
abbrev pub FromBitsOnce : Type 0
FromBitsOnce = (b : ℕ) (r q : CommandIdentifier) → r ≡ command_of b → q ≡ command_of b → r ≡ q

abbrev pub RawOnce : Type 0
RawOnce = (self : CommandIdentifier) (r q : ℕ) → r ≡ command_code self → q ≡ command_code self → r ≡ q

-- src/failures.rt
abbrev pub RefusalOfOnce : Type 0
RefusalOfOnce = (why : Unfinished) (r q : Refusal) → r ≡ refusal_of why → q ≡ refusal_of why → r ≡ q

abbrev pub ListFailureOnce : Type 0
ListFailureOnce =
    (reply : List ℕ) (out : ℕ) (status : Status) (failure : List ℕ) (r q : Option ℕ) (x y : List ℕ)
    → putting r x ≡ noting reply out status failure
    → putting q y ≡ noting reply out status failure
    → (r ≡ q) × (x ≡ y)

abbrev pub ConcludeOnce : Type 0
ConcludeOnce =
    (reply : List ℕ) (start : ℕ) (done : Result ℕ Unfinished) (r q : Result ℕ Refusal) (x y : List ℕ)
    → seen r x no_state ≡ concluded_at reply start done
    → seen q y no_state ≡ concluded_at reply start done
    → (r ≡ q) × (x ≡ y)

-- src/header.rt
abbrev pub FrameTypeOnce : Type 0
FrameTypeOnce = (self : FrameControl) (r q : FrameType) → r ≡ frame_type_of self.0 → q ≡ frame_type_of self.0 → r ≡ q

abbrev pub IsManufacturerSpecificOnce : Type 0
IsManufacturerSpecificOnce = (self : FrameControl) (r q : Bool) → r ≡ has_code self.0 → q ≡ has_code self.0 → r ≡ q

abbrev pub ReadHeaderOnce : Type 0
ReadHeaderOnce = (frame : List ℕ) (r q : Option ZclHeader) → r ≡ header_of frame → q ≡ header_of frame → r ≡ q

abbrev pub WriteResponseHeaderOnce : Type 0
WriteResponseHeaderOnce =
    (reply : List ℕ) (request : ZclHeader) (command : CommandIdentifier) (r q : Option ℕ) (x y : List ℕ)
    → putting r x ≡ put reply 0 (reply_head request command)
    → putting q y ≡ put reply 0 (reply_head request command)
    → (r ≡ q) × (x ≡ y)

abbrev pub BeginReplyOnce : Type 0
BeginReplyOnce =
    (reply : List ℕ) (request : ZclHeader) (command : CommandIdentifier) (r q : Option ℕ) (x y : List ℕ)
    → putting r x ≡ put (zeros (length reply)) 0 (reply_head request command)
    → putting q y ≡ put (zeros (length reply)) 0 (reply_head request command)
    → (r ≡ q) × (x ≡ y)

-- src/reply.rt
abbrev pub ClearOnce : Type 0
ClearOnce = (buffer : List ℕ) (x y : List ℕ) → x ≡ zeros (length buffer) → y ≡ zeros (length buffer) → x ≡ y

abbrev pub PutRunOnce : Type 0
PutRunOnce =
    (buffer : List ℕ) (at : ℕ) (bytes : List ℕ) (r q : Option ℕ) (x y : List ℕ)
    → putting r x ≡ put buffer at bytes
    → putting q y ≡ put buffer at bytes
    → (r ≡ q) × (x ≡ y)

abbrev pub PutBothOnce : Type 0
PutBothOnce =
    (buffer : List ℕ) (at : ℕ) (front back : List ℕ) (r q : Option ℕ) (x y : List ℕ)
    → putting r x ≡ put buffer at (front ++ back)
    → putting q y ≡ put buffer at (front ++ back)
    → (r ≡ q) × (x ≡ y)

abbrev pub PutByteOnce : Type 0
PutByteOnce =
    (buffer : List ℕ) (at b : ℕ) (r q : Option ℕ) (x y : List ℕ)
    → putting r x ≡ put buffer at (b ∷ [])
    → putting q y ≡ put buffer at (b ∷ [])
    → (r ≡ q) × (x ≡ y)

abbrev pub PutU16Once : Type 0
PutU16Once =
    (buffer : List ℕ) (at x : ℕ) (r q : Option ℕ) (u v : List ℕ)
    → putting r u ≡ put buffer at (bytes_of 2 x)
    → putting q v ≡ put buffer at (bytes_of 2 x)
    → (r ≡ q) × (u ≡ v)

-- src/status.rt
abbrev pub ToU8Once : Type 0
ToU8Once = (self : Status) (r q : ℕ) → r ≡ status_code self → q ≡ status_code self → r ≡ q
