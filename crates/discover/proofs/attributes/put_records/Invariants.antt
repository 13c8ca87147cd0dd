-- `attributes::put_records` meets its contract: what the buffer shows and what is left are always the same. Assumes nothing.
use mathlib.Core.Path.{◌≡◌}
use mathlib.Core.List.{List, ◌++◌}
use Prim.Native.Nat.{ℕ}
use lib.ListN.{length, take}
use Rattle.frame.specs.Inside.Buffer.{Shows}
use Rattle.store.specs.Contents.{attributes_of}
use Rattle.discover.specs.Discover.{at_or_after}
use Rattle.discover.specs.Inside.{records_of}
use Rattle.discover.proofs.Going.{Going}
use Rattle.discover.proofs.attributes.put_records.Given as goal

abbrev pub invariant-loop-i : goal.invariant-loop-i
invariant-loop-i l =
    (length l.reply ≡ length l.initial.reply) × ((before : List ℕ) → Shows l.initial.reply l.from before → Going l.store l.n l.start.0 l.wanted (before ++ records_of (take l.wanted (at_or_after l.start.0 (attributes_of 8 l.store)))) l.reply l.left l.out l.i)
