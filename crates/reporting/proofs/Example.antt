-- A history, computed, that meets all that demand 3 supposes: several yeses, by the change and by the time, and other keys
-- between. Assumes nothing.
use mathlib.Core.Path.{◌≡◌, refl}
use mathlib.Core.Logic.{inr}
use mathlib.Core.Bool.{true, false}
use mathlib.Core.List.{List, [], ◌∷◌, ◌++◌}
use native.Mathlib.Omega.{arith}
use lib.IntN.{pos, negsuc}
use Rattle.reporting.specs.declared.entry.Key.{Key}
use Rattle.reporting.specs.declared.entry.ReportingConfig.{ReportingConfig}
use Rattle.reporting.specs.declared.entry.Entry.{Entry}
use Rattle.reporting.specs.Due.{moved_by}
use Rattle.reporting.specs.Table.{capacity}
use Rattle.reporting.specs.Claims.Events.{Event, configured, cleared, asked, marked, Call, config_record, configure, clear, ask, mark, configuration, len, calls, history}
use Rattle.reporting.specs.Demand3.{asks_of, Supposed, Promised}
use Rattle.reporting.proofs.Promise.{demand_3_of_calls}

abbrev k : Key
k = record { cluster = record { 0 = 0x402 }; attribute = record { 0 = 0 } }

-- other keys: of another attribute, and of another cluster
abbrev j : Key
j = record { cluster = record { 0 = 0x402 }; attribute = record { 0 = 3 } }

abbrev i : Key
i = record { cluster = record { 0 = 0x405 }; attribute = record { 0 = 0 } }

abbrev g : ReportingConfig
g = record { min_interval = 5; max_interval = 30; reportable_change = 25; unsigned = false }

-- what a direct call takes, and a record is refused for
abbrev crossed : ReportingConfig
crossed = record { min_interval = 60; max_interval = 20; reportable_change = 0; unsigned = false }

-- j and i stand before k, so that clearing j moves k's entry
abbrev before : List Call
before = config_record j g ∷ configure i crossed ∷ []

abbrev here : List Entry
here = calls capacity (before ++ (config_record k g ∷ [])) []

-- the later record for k is refused with 87, so that it neither configures nor clears; the last yes is not yet marked
abbrev later : List Call
later =
    ask j 0 (pos 0)
    ∷ ask k 1000 (pos 2100)
    ∷ clear j
    ∷ mark k 1000 (pos 2100)
    ∷ configure j g
    ∷ ask k 1004 (pos 9000)
    ∷ mark j 1005 (pos 1)
    ∷ ask k 1005 (pos 2075)
    ∷ ask i 1005 (pos 0)
    ∷ mark k 1005 (pos 2075)
    ∷ clear i
    ∷ ask k 1034 (pos 2051)
    ∷ config_record k crossed
    ∷ configuration k
    ∷ ask k 1035 (pos 2075)
    ∷ mark j 1035 (pos 0)
    ∷ len
    ∷ mark k 1035 (pos 2075)
    ∷ ask k 1036 (negsuc 49)
    ∷ ask k 1060 (negsuc 49)
    ∷ clear j
    ∷ []

-- the keys of a table in their order
abbrev keys : List Entry → List Key
keys [] = []
keys (e ∷ es) = e.key ∷ keys es

-- k stands third, and after the clearing of j first
pub places : (keys here ≡ j ∷ i ∷ k ∷ []) × (keys (calls capacity (clear j ∷ []) here) ≡ k ∷ i ∷ [])
places = (refl, refl)

abbrev told : List Event
told =
    asked j 0 (pos 0) true
    ∷ asked k 1000 (pos 2100) true
    ∷ cleared j
    ∷ marked k 1000 (pos 2100)
    ∷ configured j g
    ∷ asked k 1004 (pos 9000) false
    ∷ marked j 1005 (pos 1)
    ∷ asked k 1005 (pos 2075) true
    ∷ asked i 1005 (pos 0) true
    ∷ marked k 1005 (pos 2075)
    ∷ cleared i
    ∷ asked k 1034 (pos 2051) false
    ∷ asked k 1035 (pos 2075) true
    ∷ marked j 1035 (pos 0)
    ∷ marked k 1035 (pos 2075)
    ∷ asked k 1036 (negsuc 49) false
    ∷ asked k 1060 (negsuc 49) true
    ∷ cleared j
    ∷ []

pub history_is_told : history capacity later here ≡ told
unfolding moved_by
history_is_told = refl

-- all that demand 3 supposes, with asks at most 29 seconds apart
pub supposed : Supposed k 29 told
supposed =
    record {
      undisturbed = (refl, (refl, (refl, (refl, tt))));
      paced =
          (omega arith, omega arith, (omega arith, omega arith, (omega arith, omega arith, (omega arith, omega arith, (omega arith, omega arith, (omega arith, omega arith, tt))))));
      positive = omega arith;
      marked_asks = (refl, (refl, (refl, (refl, (refl, (refl, inr refl))))));
      not_before = refl;
    }

pub promised : Promised g 29 (asks_of k told)
unfolding moved_by
promised = demand_3_of_calls capacity before k g 29 later refl (omega arith) (omega arith) supposed
