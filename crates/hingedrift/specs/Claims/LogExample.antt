-- Claims. A log of the functions towards C that meets all that demand 3 of the bytes supposes (specs/Claims/Log.antt, `Demand3OfBytes`): bench frame 11, an
-- ask and its mark; then a frame for the same attribute whose record is refused, with a maximum nonzero and below the minimum, so that it neither
-- configures nor clears; and asks before and at the maximum. Frames and replies are those of crate `server` (specs/Claims/LogExample.antt).
use Rattle.std.specs.Prelude.{◌≡◌, List, [], ◌∷◌, ◌++◌, ℕ, ◌≤◌, length, negsuc}
use Rattle.types.specs.Number.{zeros}
use Rattle.frame.specs.Reply.{padded}
use Rattle.reporting.specs.declared.entry.Entry.{Entry}
use Rattle.reporting.specs.Table.{capacity}
use Rattle.reporting.specs.Carried.{table_size, table_bytes}
use Rattle.reporting.specs.Claims.Events.{configured}
use Rattle.reporting.specs.Demand3.{Supposed}
use Rattle.server.specs.Claims.History.{Request}
use Rattle.server.specs.Claims.Bench.{T, cluster, key, unmarked}
use Rattle.server.specs.Claims.ServedHistory.{g}
use Rattle.server.specs.Claims.LogExample.{configuring, accepted, crossed, failed, reported, told}
use Rattle.hingedrift.specs.Tables.{left, no_result, new_left}
use Rattle.hingedrift.specs.Claims.Log.{Target, Sample, Handled, Made, mark, ask, handle, last, Log, events_of, later_of}

-- ---- the calls

-- the bytes that are lent first, and what hd_table_new makes of them
abbrev pub was : List ℕ
was = zeros (table_size capacity)

abbrev pub new : List ℕ
new = table_bytes capacity []

abbrev pub fifth : Target
fifth = record { cluster = cluster; attribute = 5 }

-- at this time, with -200
abbrev pub at : ℕ → Sample
at now = record { now = now; value = negsuc 199 }

-- hd_handle_request gave 0 and a reply of these bytes, and left a table with these entries and store T as it was
abbrev pub handled : Request → List ℕ → List Entry → Handled
handled q reply l = record {
  store = T 0x07;
  cluster = cluster;
  unicast = 1;
  frame = q.frame;
  size = 64;
  number = 0;
  used = length reply;
  reply = padded 64 reply;
  store_after = T 0x07;
  table_after = table_bytes capacity l;
}

-- the frame with the accepted record
abbrev pub first : Handled
first = handled configuring accepted (unmarked g ∷ [])

abbrev pub after : List Made
after =
    ask fifth (at 100) 0 1
    ∷ mark fifth (at 100) 0 (table_bytes capacity (reported ∷ []))
    ∷ handle (handled crossed failed (reported ∷ []))
    ∷ ask fifth (at 159) 0 0
    ∷ ask fifth (at 160) 0 1
    ∷ []

-- ---- the claims: all that `Demand3OfBytes` supposes, with asks at most 59 seconds apart

-- from the bytes of an empty table every call of the log is as its contract says
abbrev pub LogStands : Type 0
LogStands = (left 0 new no_result ≡ new_left was) × Log new ([] ++ (handle first ∷ after))

-- the events of the accepted record, and of all that comes after it: the refused record is none
abbrev pub LogEvents : Type 0
LogEvents = (events_of (handle first) (last [] new) ≡ [] ++ (configured key g ∷ [])) × (later_of [] after first.table_after ≡ told)

abbrev pub LogSupposed : Type 0
LogSupposed = (1 ≤ g.max_interval) × (g.max_interval ≤ 65534) × Supposed key 59 told
