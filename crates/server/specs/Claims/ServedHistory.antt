-- Claims. A served history that meets all that demand 3 with frames supposes: bench frame 11's record between two others of a frame that is cut, then
-- asks and marks with requests between.
use Rattle.std.specs.Prelude.{◌≡◌, true, false, List, [], ◌∷◌, ◌++◌, ℕ, pos, negsuc}
use Rattle.reporting.specs.declared.entry.Key.{Key}
use Rattle.reporting.specs.declared.entry.ReportingConfig.{ReportingConfig}
use Rattle.reporting.specs.declared.entry.Entry.{Entry}
use Rattle.reporting.specs.Table.{capacity}
use Rattle.reporting.specs.Claims.Events.{Event, configured, cleared, asked, marked, ask, mark, configure}
use Rattle.reporting.specs.Demand3.{Supposed}
use Rattle.server.specs.Claims.Bench.{T, cluster, key}
use Rattle.server.specs.Claims.History.{Request, requested, request_events, Use, request, direct, uses}
use Rattle.server.specs.Claims.Demand3.{later_of}

-- a request over store T
abbrev pub over : ℕ → List ℕ → Request
over c frame = record { store = T 0x07; cluster = c; unicast = true; frame = frame; room = 64 }

-- attribute 0, and an attribute of another cluster
abbrev pub zeroth : Key
zeroth = record { cluster = record { 0 = cluster }; attribute = record { 0 = 0 } }

abbrev pub elsewhere : Key
elsewhere = record { cluster = record { 0 = 0x402 }; attribute = record { 0 = 5 } }

abbrev pub g : ReportingConfig
g = record { min_interval = 10; max_interval = 60; reportable_change = 50; unsigned = false }

abbrev pub f : ReportingConfig
f = record { min_interval = 1; max_interval = 300; reportable_change = 5; unsigned = true }

abbrev pub zeroth_record : List ℕ
zeroth_record = 0x00 ∷ 0x00 ∷ 0x00 ∷ 0x23 ∷ 0x01 ∷ 0x00 ∷ 0x2c ∷ 0x01 ∷ 0x05 ∷ 0x00 ∷ 0x00 ∷ 0x00 ∷ []

abbrev pub own_record : List ℕ
own_record = 0x00 ∷ 0x05 ∷ 0x00 ∷ 0x29 ∷ 0x0a ∷ 0x00 ∷ 0x3c ∷ 0x00 ∷ 0x32 ∷ 0x00 ∷ []

abbrev pub clearing_record : List ℕ
clearing_record = 0x00 ∷ 0x00 ∷ 0x00 ∷ 0x23 ∷ 0x00 ∷ 0x00 ∷ 0xff ∷ 0xff ∷ 0x00 ∷ 0x00 ∷ 0x00 ∷ 0x00 ∷ []

abbrev pub before : List Use
before = direct (configure elsewhere g) ∷ request (over cluster (0x00 ∷ 0x2a ∷ 0x00 ∷ 0x00 ∷ 0x00 ∷ [])) ∷ []

-- the last record is cut: the frame gets no reply, and what came before it stands
abbrev pub configuring : Request
configuring = over cluster (0x00 ∷ 0x2d ∷ 0x06 ∷ (zeroth_record ++ (own_record ++ (clearing_record ++ (0x00 ∷ 0x05 ∷ [])))))

abbrev pub here : List Entry
here = requested capacity configuring (uses capacity before [])

-- between the asks: the configuration is read; attribute 1 is written; attribute 0 is configured; and attribute 5's own record comes for a
-- cluster that is not the store's, so that it neither configures nor clears
abbrev pub after : List Use
after =
    direct (ask key 100 (negsuc 199))
    ∷ direct (mark key 100 (negsuc 199))
    ∷ request (over cluster (0x00 ∷ 0x2e ∷ 0x08 ∷ 0x00 ∷ 0x05 ∷ 0x00 ∷ []))
    ∷ direct (ask key 109 (pos 0))
    ∷ request (over cluster (0x00 ∷ 0x2b ∷ 0x02 ∷ 0x01 ∷ 0x00 ∷ 0x20 ∷ 0x09 ∷ []))
    ∷ direct (ask key 110 (negsuc 150))
    ∷ direct (ask key 110 (negsuc 149))
    ∷ direct (mark key 110 (negsuc 149))
    ∷ request (over cluster (0x00 ∷ 0x2f ∷ 0x06 ∷ zeroth_record))
    ∷ direct (ask key 169 (negsuc 149))
    ∷ request (over 0x402 (0x00 ∷ 0x30 ∷ 0x06 ∷ own_record))
    ∷ direct (ask key 170 (negsuc 149))
    ∷ []

abbrev pub told : List Event
told =
    cleared zeroth
    ∷ asked key 100 (negsuc 199) true
    ∷ marked key 100 (negsuc 199)
    ∷ asked key 109 (pos 0) false
    ∷ asked key 110 (negsuc 150) false
    ∷ asked key 110 (negsuc 149) true
    ∷ marked key 110 (negsuc 149)
    ∷ configured zeroth f
    ∷ asked key 169 (negsuc 149) false
    ∷ asked key 170 (negsuc 149) true
    ∷ []

-- ---- two claims

-- the events of the frame, and of all that comes after attribute 5's record
abbrev pub HistoryIs : Type 0
HistoryIs =
    (request_events capacity configuring (uses capacity before []) ≡ (configured zeroth f ∷ []) ++ (configured key g ∷ (cleared zeroth ∷ [])))
    × (later_of capacity (cleared zeroth ∷ []) after here ≡ told)

-- all that demand 3 supposes, with asks at most 59 seconds apart
abbrev pub SuppositionsMet : Type 0
SuppositionsMet = Supposed key 59 told
