-- A log of the table's methods (specs/Claims/LogExample.antt), computed: it meets all that demand 3 of the code supposes. Assumes nothing.
use mathlib.Core.Path.{refl}
use mathlib.Core.Logic.{inr}
use mathlib.Core.List.{[]}
use native.Mathlib.Omega.{arith}
use Rattle.reporting.specs.Due.{moved_by}
use Rattle.reporting.specs.Demand3.{Promised, asks_of}
use Rattle.reporting.specs.Claims.LogExample.{table_with, k, g, log, earlier, later, LogStands, LogEvents, LogSupposed}
use Rattle.reporting.proofs.Compiled.{demand_3_of_code}

pub log_stands : LogStands
unfolding moved_by
log_stands = (refl, (refl, (refl, (refl, (refl, (refl, (refl, (refl, (refl, (refl, tt))))))))))

pub log_events : LogEvents
log_events = refl

pub log_supposed : LogSupposed
log_supposed = (
  record { rule = refl; one = omega arith },
  record {
    undisturbed = (refl, tt);
    paced = (omega arith, omega arith, (omega arith, omega arith, tt));
    positive = omega arith;
    marked_asks = (refl, (refl, inr refl));
    not_before = refl;
  },
)

pub log_promised : Promised g 29 (asks_of k later)
log_promised = demand_3_of_code (table_with []) log earlier k g 29 later log_stands.0 log_stands.1 log_events log_supposed.0 log_supposed.1
