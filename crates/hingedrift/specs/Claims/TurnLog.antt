-- Claims. A log of the functions towards C with report turns in it, computed: bench frame 11 configures attribute 5 of store T; a turn reports it, one before its maximum finds nothing due, and one at its
-- maximum reports it again, each handed the id that the one before gave back. All that `Demand3OfTurnsInLog` supposes is met (specs/Claims/Turns.antt).
use Rattle.std.specs.Prelude.{true, List, [], ◌∷◌, ◌++◌, ℕ, length, negsuc}
use Rattle.frame.specs.Reply.{padded}
use Rattle.reporting.specs.declared.entry.Entry.{Entry}
use Rattle.reporting.specs.Table.{capacity}
use Rattle.reporting.specs.Carried.{table_bytes}
use Rattle.report.specs.Turn.{key_of}
use Rattle.report.specs.Claims.Words.{Each}
use Rattle.report.specs.Claims.Demand3.{looks_of, LeftAlone, Present, Paced, Promised}
use Rattle.server.specs.Claims.Bench.{T, cluster, key}
use Rattle.server.specs.Claims.ServedHistory.{g}
use Rattle.server.specs.Claims.LogExample.{reported}
use Rattle.server.specs.Claims.Turns.{as_events}
use Rattle.hingedrift.specs.Claims.Log.{Turning, Made, handle, turn, Log, Begins, made}
use Rattle.hingedrift.specs.Claims.LogExample.{was, new, first}
use Rattle.hingedrift.specs.Claims.Turns.{happenings_in, turns_made}

-- hd_report_turn over store T with a buffer of 64 bytes: what it was handed and gave back
abbrev pub turning : ℕ → ℕ → ℕ → List ℕ → List Entry → ℕ → Turning
turning now last number frame l last_after = record {
  store = T 0x07;
  sequence = 0x2e;
  now = now;
  last = last;
  size = 64;
  number = number;
  used = length frame;
  frame = padded 64 frame;
  table_after = table_bytes capacity l;
  last_after = last_after;
}

-- attribute 5 is -200
abbrev pub report : List ℕ
report = 0x18 ∷ 0x2e ∷ 0x0a ∷ 0x05 ∷ 0x00 ∷ 0x29 ∷ 0x38 ∷ 0xff ∷ []

-- marked at second 160
abbrev pub again : Entry
again = record { key = key; config = g; marked = true; last_time = 160; last_value = negsuc 199 }

abbrev pub turns : List Made
turns =
    turn (turning 100 0x10000 0 report (reported ∷ []) 5)
    ∷ turn (turning 159 5 6 [] (reported ∷ []) 5)
    ∷ turn (turning 160 5 0 report (again ∷ []) 5)
    ∷ []

-- from the bytes of an empty table every call of the log is as its contract says
abbrev pub TurnLogStands : Type 0
TurnLogStands = Begins made was new × Log new ([] ++ (handle first ∷ turns))

-- nothing else configures, clears or marks it, it is there in each turn, and they come at most 59 seconds apart
pub record TurnLogMeets : Type 0 where
  pub alone : LeftAlone (key_of cluster 5) (as_events [] ++ happenings_in turns first.table_after)
  pub present : Each (Present 8 5) (turns_made cluster turns first.table_after)
  pub paced : Paced 59 (looks_of 8 5 (turns_made cluster turns first.table_after))
  pub promised : Promised g (looks_of 8 5 (turns_made cluster turns first.table_after))
