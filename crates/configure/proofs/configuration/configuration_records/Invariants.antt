-- `configuration::configuration_records` meets its contract: each turn keeps the walk the same. Assumes nothing.
use mathlib.Core.Path.{◌≡◌}
use mathlib.Core.List.{List}
use Prim.Native.Nat.{ℕ, ◌-◌}
use lib.ListN.{length}
use Rattle.frame.specs.Inside.Buffer.{Shows}
use Rattle.frame.proofs.Shortened.{Going}
use Rattle.reporting.specs.Carried.{table_in}
use Rattle.configure.specs.Request.{asked_at}
use Rattle.configure.specs.Configuration.{encode, record_for}
use Rattle.configure.proofs.configuration.configuration_records.Given as goal

abbrev pub invariant-loop-at : goal.invariant-loop-at
invariant-loop-at l =
    (length l.reply ≡ length l.initial.reply) × ((head : List ℕ) → Shows l.initial.reply l.from head
    → Going encode (λ fit. record_for 8 l.store (table_in l.table.bytes.now) l.request) (asked_at l.body) (length l.body) (length l.initial.reply) head l.reply l.at l.out)

abbrev pub decreases-loop-at : goal.decreases-loop-at
decreases-loop-at l = length l.body - l.at
