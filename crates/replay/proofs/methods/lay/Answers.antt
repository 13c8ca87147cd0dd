-- The count and the slots are what the table's bytes start with. Assumes nothing.
use mathlib.Core.Path.{◌≡◌}
use native.Mathlib.Omega.{arith}
use Prim.Native.Nat.{◌≤◌}
use lib.ListN.{length}
use Rattle.reporting.specs.Table.{capacity}
use Rattle.reporting.proofs.Slots.{length_mapped}
use Rattle.replay.proofs.Calls.{laid_small, laid_says, laid_none}
use borrow.Author.Rules.{rules}
use Rattle.replay.proofs.methods.lay.Goals as goal

pub overflow_mul-result : goal.overflow_mul-result
overflow_mul-result c =
    let small : c.args.table.count ≤ capacity = laid_small c.args.table c.args.bytes.now _ _ c.requires c.write_table.ensures.bytes_after c.if-write_table.true in
    let h = small in omega arith

pub overflow_add-result : goal.overflow_add-result
overflow_add-result c =
    let small : c.args.table.count ≤ capacity = laid_small c.args.table c.args.bytes.now _ _ c.requires c.write_table.ensures.bytes_after c.if-write_table.true in
    let h = small in omega arith

pub returns-then-write_table : goal.returns-then-write_table
returns-then-write_table c =
    let n : length c.args.table.entries ≡ capacity = search (length_mapped, rules) in
    laid_says c.args.table c.args.bytes.now _ _ c.requires c.write_table.ensures.bytes_after c.if-write_table.true n

pub returns : goal.returns
returns c =
    laid_none c.args.table c.args.bytes.now _ _ c.requires c.write_table.ensures.bytes_after c.if-write_table.false
