-- Definitions. The Default Response (document 01, "Commands, step by step"; ZCL 2.5.12).
use Rattle.std.specs.Prelude.{ℕ, ◌/◌, ◌%◌, Bool, cond, not, ◌&&◌, List, [], ◌∷◌, ◌++◌, length, leb, eqb}
use Rattle.frame.specs.declared.header.ZclHeader.{ZclHeader}
use Rattle.frame.specs.declared.command_identifier.CommandIdentifier.TheVariants.{DefaultResponse}
use Rattle.frame.specs.declared.status.Status.{Status}
use Rattle.frame.specs.declared.answer.Refusal.TheVariants.{ReplyTooLong, NothingToSend}
use Rattle.frame.specs.Status.{status_code}
use Rattle.frame.specs.Header.{reply_head}
use Rattle.frame.specs.Answer.{Outcome, no_state, replied, refused}

-- bit 4 of the control byte silences only a SUCCESS one
abbrev pub silences : ℕ → Status → Bool
silences control status = eqb (control / 16 % 2) 1 && eqb (status_code status) 0

-- command (1), status (1)
unfoldable pub default_reply : ZclHeader → Status → List ℕ
default_reply request status = reply_head request DefaultResponse ++ request.command_identifier.0 ∷ status_code status ∷ []

-- A DEFAULT RESPONSE: only to unicast, and that is tested first
unfoldable pub default_response : ZclHeader → Bool → Status → ℕ → Outcome (Unit {0})
default_response request unicast status room =
    let out : List ℕ = default_reply request status in
    cond (unicast && not (silences request.frame_control.0 status))
    (cond (leb (length out) room) (replied room out no_state) (refused room ReplyTooLong no_state))
    (refused room NothingToSend no_state)
