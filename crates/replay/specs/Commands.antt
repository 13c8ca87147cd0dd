-- Definitions. What ours says to a whole frame (kinds c and x): the command's outcome with every room, from none to a last one.
use Rattle.std.specs.Prelude.{ℕ, zero, suc, ◌+◌, ◌%◌, cond, ◌||◌, List, [], ◌∷◌, ◌++◌, length, get_or, take, drop, ltb, eqb, None, Option, Some}
use Rattle.types.specs.Number.{unsigned_at}
use Rattle.frame.specs.Header.{frame_type_of, is_global, header_of}
use Rattle.frame.specs.Answer.{Outcome, within}
use Rattle.frame.specs.declared.header.ZclHeader.{ZclHeader}
use Rattle.read.specs.Read.{read_of}
use Rattle.write.specs.Write.{write_attributes, write_undivided, write_silently}
use Rattle.discover.specs.Discover.{discover_of}
use Rattle.replay.specs.Bytes.{same}
use Rattle.replay.specs.declared.commands.Command.{Command}
use Rattle.replay.specs.declared.commands.Command.TheVariants.{Read, Write, Undivided, Silent, Discover}

-- ---- what a frame asks for

abbrev pub asked_by : ℕ → ZclHeader → Option (Command × ZclHeader)
asked_by code request =
    cond (eqb code 0x00) (Some (Read, request))
    (cond (eqb code 0x02) (Some (Write, request))
    (cond (eqb code 0x03) (Some (Undivided, request))
    (cond (eqb code 0x05) (Some (Silent, request))
    (cond (eqb code 0x0c) (Some (Discover, request)) None))))

-- only a global command is one of them
abbrev pub asked_in : Option ZclHeader → Option (Command × ZclHeader)
asked_in None = None
asked_in (Some h) = cond (is_global (frame_type_of h.frame_control.0)) (asked_by h.command_identifier.0 h) None

unfoldable pub asked_of : List ℕ → Option (Command × ZclHeader)
asked_of frame = asked_in (header_of frame)

-- ---- what a command leaves

-- reading and discovering leave the store as it was
abbrev pub outcome_of : Command → ZclHeader → List ℕ → List ℕ → ℕ → Outcome (List ℕ)
outcome_of Read request body s room = within (λ u. s) (read_of 8 s request body room)
outcome_of Write request body s room = write_attributes 8 s request body room
outcome_of Undivided request body s room = write_undivided 8 s request body room
outcome_of Silent request body s room = write_silently 8 s request body room
outcome_of Discover request body s room = within (λ u. s) (discover_of 8 s request body room)

-- ---- its answers, as bytes

-- 00 where the store is as it was, else 01 and the store
unfoldable pub store_says : List ℕ → List ℕ → List ℕ
store_says before after = cond (same after before) (0 ∷ []) (1 ∷ after)

-- 01, the number, the reply's length, the reply, the store
unfoldable pub answer_says : List ℕ → Outcome (List ℕ) → List ℕ
answer_says before o = 1 ∷ o.number ∷ o.size % 256 ∷ (take o.size o.reply ++ store_says before o.state)

abbrev pub answer_with : Command → ZclHeader → List ℕ → List ℕ → ℕ → List ℕ
answer_with command request body s room = answer_says s (outcome_of command request body s room)

-- 00 where an answer is the one before it
unfoldable pub next : List ℕ → List ℕ → List ℕ
next last this = cond (same this last) (0 ∷ []) this

-- the answers with n rooms from a room on, the one before them being `last`
unfoldable pub answers_from : (ℕ → List ℕ) → List ℕ → ℕ → ℕ → List ℕ
answers_from tells last zero room = []
answers_from tells last (suc n) room = next last (tells room) ++ answers_from tells (tells room) n (suc room)

-- the answers with every room up to a last one; before the first there is none
abbrev pub answers : (ℕ → List ℕ) → ℕ → List ℕ
answers tells last = answers_from tells [] (suc last) 0

-- ---- c, x: the last room (1), at most 63; the store's length (2), the store, and a frame

abbrev pub answers_to : Option (Command × ZclHeader) → ℕ → List ℕ → List ℕ → Option (List ℕ)
answers_to (Some (command, request)) last s frame = Some (answers (answer_with command request (drop request.body frame) s) last)
answers_to None last s frame = None

unfoldable pub of_command : List ℕ → Option (List ℕ)
of_command input =
    let last : ℕ = get_or input 0 0 in
    let n : ℕ = unsigned_at input 1 2 in
    let frame : List ℕ = drop (3 + n) input in
    cond (ltb 63 last || ltb (length input) (3 + n)) None (answers_to (asked_of frame) last (take n (drop 3 input)) frame)
