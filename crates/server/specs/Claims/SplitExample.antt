-- Claims. Where the laws of Split.antt do not hold, computed over store T (Bench.antt) and an empty table: each supposition is needed. Attribute 1 is 7 in T, and there is no attribute 3.
use Rattle.std.specs.Prelude.{◌≡◌, true, List, [], ◌∷◌, ◌++◌, ℕ}
use Rattle.frame.specs.declared.header.ZclHeader.{ZclHeader}
use Rattle.reporting.specs.Table.{capacity, holding}
use Rattle.server.specs.Serve.{State, state}
use Rattle.server.specs.Claims.Bench.{T, cluster}
use Rattle.server.specs.Claims.Split.{Call, after}

abbrev pub header : ℕ → ZclHeader
header command =
    record {
      frame_control = record { 0 = 0x00 };
      manufacturer_code = record { 0 = 0 };
      sequence_number = 0x2b;
      command_identifier = record { 0 = command };
      body = 3;
    }

-- a command with a body, unicast, and its room
abbrev pub call : ℕ → List ℕ → ℕ → Call
call command body room = record { frame = (0x00 ∷ 0x2b ∷ command ∷ []) ++ body; header = header command; unicast = true; room = room }

abbrev pub begun : State
begun = state (T 0x07) (holding [])

-- what a call leaves of the box
abbrev pub leaving : State → Call → State
leaving x k = after 8 capacity cluster x k

-- A and then B, or both as one list, by one command with one room
abbrev pub Unlike : Call → Call → Call → Type 0
Unlike a b whole = leaving (leaving begun a) b ≡ leaving begun whole → ⊥

abbrev pub Fails : ℕ → ℕ → List ℕ → List ℕ → Type 0
Fails command room a b = Unlike (call command a room) (call command b room) (call command (a ++ b) room)

-- 9 to attribute 1; a record that fails, 86
abbrev pub nine : List ℕ
nine = 0x01 ∷ 0x00 ∷ 0x20 ∷ 0x09 ∷ []

abbrev pub absent : List ℕ
absent = 0x03 ∷ 0x00 ∷ 0x20 ∷ 0x00 ∷ []

pub record SplitsFail : Type 0 where
  -- A is cut: apart nothing is written, joined attribute 1 is 9
  pub cut_write : Fails 0x02 64 (0x01 ∷ []) (0x00 ∷ 0x20 ∷ 0x09 ∷ [])
  pub cut_silent : Fails 0x05 64 (0x01 ∷ []) (0x00 ∷ 0x20 ∷ 0x09 ∷ [])
  -- a value of A has no extent: apart attribute 1 is 9, joined nothing is written
  pub without_write : Fails 0x02 64 (0x00 ∷ 0x00 ∷ 0x99 ∷ []) nine
  pub without_silent : Fails 0x05 64 (0x00 ∷ 0x00 ∷ 0x99 ∷ []) nine
  -- the joined list gets 5: apart attribute 1 is 9, joined 7
  pub refused : Fails 0x02 6 absent (absent ++ nine)
  -- it does not, but B alone has less room and does: apart 7, joined 9
  pub less_room : Unlike (call 0x02 [] 64) (call 0x02 (absent ++ nine) 5) (call 0x02 (absent ++ nine) 64)
  -- the joined list goes by 05, which never gets 5, and tells nothing of the room of a part by 02
  pub by_silent : Unlike (call 0x05 [] 2) (call 0x02 nine 2) (call 0x05 nine 2)
  -- undivided: A is good and B has a failure: apart attribute 1 is 9, joined nothing is written
  pub undivided : Fails 0x03 64 nine absent
  -- a configure list that is cut: apart the table stays empty, joined it has attribute 5 (bench frame 11)
  pub cut_configure : Fails 0x06 64 (0x00 ∷ []) (0x05 ∷ 0x00 ∷ 0x29 ∷ 0x0a ∷ 0x00 ∷ 0x3c ∷ 0x00 ∷ 0x32 ∷ 0x00 ∷ [])
  -- two lists that name one attribute: the order counts
  pub in_common : leaving (leaving begun (call 0x02 nine 64)) (call 0x02 (0x01 ∷ 0x00 ∷ 0x20 ∷ 0x0a ∷ []) 64)
      ≡ leaving (leaving begun (call 0x02 (0x01 ∷ 0x00 ∷ 0x20 ∷ 0x0a ∷ []) 64)) (call 0x02 nine 64) → ⊥
