-- Claims. Two limits (document 02, request 7: "from an empty table every history of configure and clear whose keys, as they stand under the new limit, never pass 16 at once gives the
-- same answers under both limits"): of every history of calls, from any entries, and over any two limits.
use Rattle.std.specs.Prelude.{◌≡◌, Bool, true, false, ◌&&◌, List, [], ◌∷◌, ℕ, zero, suc, ◌≤◌, length, get_or, leb, Option}
use Rattle.frame.specs.declared.status.Status.{Status}
use Rattle.reporting.specs.declared.entry.Entry.{Entry}
use Rattle.reporting.specs.Entries.{lookup_l, distinct, accepts_l}
use Rattle.reporting.specs.Due.{due_l}
use Rattle.reporting.specs.Wish.{record_status}
use Rattle.reporting.specs.Table.{capacity, zero_config}
use Rattle.reporting.specs.Claims.Events.{Call, config_record, configure, clear, ask, mark, configuration, len, restore, call, calls}

-- what a call says: nothing; whether it was accepted; a record's status; whether a report is due; the entry that there is; how many there are
pub data Said : Type 0 where
  nothing : Said
  accepted : Bool → Said
  status : Status → Said
  due : Bool → Said
  found : Option Entry → Said
  many : ℕ → Said

abbrev pub says : ℕ → Call → List Entry → Said
says limit (config_record k g) l = status (record_status limit k g l)
says limit (configure k g) l = accepted (accepts_l limit k l)
says limit (clear k) l = nothing
says limit (ask k now v) l = due (due_l k now v l)
says limit (mark k now v) l = nothing
says limit (configuration k) l = found (lookup_l k l)
says limit len l = many (length l)
says limit (restore come) l = accepted (distinct come && leb (length come) limit)

abbrev pub all_say : ℕ → List Call → List Entry → List Said
all_say limit [] l = []
all_say limit (c ∷ cs) l = says limit c l ∷ all_say limit cs (call limit c l)

-- under the larger limit there are never more entries than the smaller one has room for
abbrev pub Within : ℕ → ℕ → List Call → List Entry → Type 0
Within small large [] l = length l ≤ small
Within small large (c ∷ cs) l = (length l ≤ small) × Within small large cs (call large c l)

-- then the calls say the same under both limits, and leave the same entries
abbrev pub LimitsAgree : Type 0
LimitsAgree =
    (small large : ℕ) (cs : List Call) (l : List Entry)
    → small ≤ large
    → Within small large cs l
    → (all_say small cs l ≡ all_say large cs l) × (calls small cs l ≡ calls large cs l)

-- ---- document 01's sixteen, and a table now

-- "from an empty table": what calls said of a table of sixteen they say now, and leave the same entries
abbrev pub SixteenAsBefore : Type 0
SixteenAsBefore = (cs : List Call) → Within 16 capacity cs [] → (all_say 16 cs [] ≡ all_say capacity cs []) × (calls 16 cs [] ≡ calls capacity cs [])

-- n keys configured one after the other, from attribute i of cluster 0 on
abbrev pub in_row : ℕ → ℕ → List Call
in_row zero i = []
in_row (suc n) i = configure (record { cluster = record { 0 = 0 }; attribute = record { 0 = i } }) zero_config ∷ in_row n (suc i)

-- the last of n + 1 such calls
abbrev pub last_of : ℕ → ℕ → Said
last_of limit n = get_or (all_say limit (in_row (suc n) 0) []) n nothing

-- Sixteen are not passed by the sixteenth key, and by the seventeenth they are: then the answers part. The 129th is the first that a table has no room for now.
pub record SeventeenPart : Type 0 where
  pub sixteenth : last_of 16 15 ≡ accepted true
  pub seventeenth_then : last_of 16 16 ≡ accepted false
  pub seventeenth_now : last_of capacity 16 ≡ accepted true
  pub last_now : last_of capacity 127 ≡ accepted true
  pub past_now : last_of capacity 128 ≡ accepted false
