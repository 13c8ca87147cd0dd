-- Definitions. The saved form towards C: what crate `saved` says of writing and reading it (specs/Lent.antt), in numbers.
use Rattle.std.specs.Prelude.{ℕ, List}
use Rattle.frame.specs.Answer.{Outcome}
use Rattle.saved.specs.Lent.{save_lent, restore_lent}
use Rattle.hingedrift.specs.Tables.{Left, left, no_result}

-- hd_save: the number, how many bytes of the form stand in the buffer, and the whole buffer
abbrev pub save_left : List ℕ → ℕ → Outcome (Unit {0})
save_left bs room = save_lent bs room

-- hd_restore: the number, and the table's bytes
abbrev pub restore_left : List ℕ → List ℕ → Left (Unit {0})
restore_left bs form = let x = restore_lent form bs in left x.told.number x.bytes no_result
