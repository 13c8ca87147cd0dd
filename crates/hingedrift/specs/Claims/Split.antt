-- Claims. Splitting a list (document 02, request 4) in what hd_handle_request left: the laws of crate `server` (specs/Claims/Split.antt) of the bytes of store and table, for every store and table, also bytes that are none.
use Rattle.std.specs.Prelude.{◌≡◌, ℕ, List}
use Rattle.types.specs.Number.{AllBytes}
use Rattle.frame.specs.declared.header.ZclHeader.{ZclHeader}
use Rattle.frame.specs.Answer.{Outcome}
use Rattle.write.specs.Request.{records}
use Rattle.configure.specs.Request.{configures}
use Rattle.server.specs.Lent.{Lent}
use Rattle.server.specs.Claims.Split.{Call, Writes, WritesAny, Joined, Readable, ConfiguresAll, NoneInCommon}
use Rattle.hingedrift.specs.Serving.{is_unicast, handle_left}

-- a call from C
pub record Calling : Type 0 where
  pub frame : List ℕ
  pub header : ZclHeader
  pub unicast : ℕ
  pub room : ℕ

-- as it is served
abbrev pub served : Calling → Call
served k = record { frame = k.frame; header = k.header; unicast = is_unicast k.unicast; room = k.room }

-- what the call gives back over the bytes of store and table, and what it leaves of them
abbrev pub given : ℕ → Lent → Calling → Outcome Lent
given cluster x k = handle_left x.store x.table cluster k.unicast k.frame k.room

abbrev pub left : ℕ → Lent → Calling → Lent
left cluster x k = (given cluster x k).state

-- the number is not 5
abbrev pub Fits : Outcome Lent → Type 0
Fits o = o.number ≡ 5 → ⊥

-- A and then B leave the bytes that the joined list leaves, where no call gets 5; bytes are below 256, as C's are
abbrev pub JoinsWhere : (Calling → Calling → Calling → Type 0) → Type 0
JoinsWhere Supposed =
    (cluster : ℕ) (x : Lent) (a b whole : Calling)
    → AllBytes x.store
    → AllBytes x.table
    → AllBytes a.frame
    → Joined (served a) (served b) (served whole)
    → Supposed a b whole
    → Fits (given cluster x a)
    → Fits (given cluster (left cluster x a) b)
    → Fits (given cluster x whole)
    → left cluster (left cluster x a) b ≡ left cluster x whole

-- 02 and 05
abbrev pub HdWritesJoin : Type 0
HdWritesJoin = JoinsWhere (λ a b whole. (Writes (served a) × (Writes (served b) × Writes (served whole))) × Readable records (served a))

-- 06, and the table's bytes
abbrev pub HdConfiguresJoin : Type 0
HdConfiguresJoin = JoinsWhere (λ a b whole. ConfiguresAll (served a) (served b) (served whole) × Readable configures (served a))

-- two lists that name no attribute in common, by 02, 03 or 05, leave the same bytes in either order
abbrev pub HdEitherOrder : Type 0
HdEitherOrder =
    (cluster : ℕ) (x : Lent) (a b : Calling)
    → AllBytes x.store
    → AllBytes x.table
    → AllBytes a.frame
    → AllBytes b.frame
    → WritesAny (served a)
    → WritesAny (served b)
    → NoneInCommon (served a) (served b)
    → left cluster (left cluster x a) b ≡ left cluster (left cluster x b) a
