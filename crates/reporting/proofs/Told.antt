-- What the Booleans tell, by what was written. Assumes nothing.
use mathlib.Core.Path.{◌≡◌, refl, ap, ◌∙◌}
use mathlib.Core.Bool.{Bool, true, false, cond, ◌&&◌}
use mathlib.Core.List.{List}
use Prim.Native.Nat.{ℕ}
use lib.ListN.{take}
use lib.Dec.{leb}
use Rattle.reporting.specs.Entries.{clear_l, mark_l}
use Rattle.reporting.specs.Table.{capacity}
use Rattle.reporting.specs.Carried.{table_in, size_ok, is_table, table_bytes, Written, written, write_t}
use Rattle.reporting.specs.Lent.{on_lent, mark_lent, clear_lent}
use Rattle.reporting.specs.Claims.Told.{WrittenTold, written_as, written_told, MarkLentTells, ClearLentTells, WriteTableTells}

abbrev told_of : Written → WrittenTold
told_of w = written_told w.done w.bytes

told_either : (b : Bool) (x y : List ℕ) → told_of (cond b (written true x) (written false y)) ≡ cond b (written_as 0 x) (written_as 8 y)
told_either true x y = refl
told_either false x y = refl

pub mark_lent_tells : MarkLentTells
unfolding mark_lent on_lent
mark_lent_tells bytes key now value r x e = ap told_of e ∙ told_either (is_table capacity bytes) (table_bytes capacity (mark_l key now value (table_in bytes))) bytes

pub clear_lent_tells : ClearLentTells
unfolding clear_lent on_lent
clear_lent_tells bytes key r x e = ap told_of e ∙ told_either (is_table capacity bytes) (table_bytes capacity (clear_l key (table_in bytes))) bytes

pub write_table_tells : WriteTableTells
unfolding write_t
write_table_tells bytes table r x e = ap told_of e ∙ told_either (size_ok capacity bytes && leb table.count capacity) (table_bytes capacity (take table.count table.entries)) bytes
