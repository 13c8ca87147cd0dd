-- The tests in their order, and then the count, the contents and the bodies. Assumes nothing.
use Rattle.std.specs.Prelude.{Ok}
use native.Mathlib.Omega.{arith}
use Prim.Native.Nat.{ℕ}
use mathlib.Core.Path.{refl, sym, ap, ◌∙◌}
use lib.ListN.{length, length-set}
use Rattle.frame.specs.Answer.{seen, no_state}
use Rattle.reporting.specs.Carried.{count_in}
use Rattle.reporting.proofs.CarriageLoops.{known_size, known_count}
use Rattle.saved.proofs.Lending.{save_no_table, save_not_written, save_too_long, save_done}
use Rattle.saved.proofs.save.save.Goals as goal

pub returns-then-not-is_table : goal.returns-then-not-is_table
returns-then-not-is_table c = c.refuse.ensures ∙ save_no_table c.args.table.now (length c.args.saved.now) (sym c.is_table.ensures ∙ c.if-not-is_table.true)

pub invariant_of-held : goal.invariant_of-held
invariant_of-held c = record { whole = sym c.is_table.ensures ∙ c.if-not-is_table.false }

pub returns-then-not-is_savable : goal.returns-then-not-is_savable
returns-then-not-is_savable c = c.refuse-then-not-is_savable.ensures ∙ save_not_written c.args.table.now (length c.args.saved.now) (sym c.is_table.ensures ∙ c.if-not-is_table.false) (sym c.is_savable.ensures ∙ c.if-not-is_savable.true)

pub bounds-table-0 : goal.bounds-table-0
bounds-table-0 c = omega (arith, known_size c.args.table.now (sym c.is_table.ensures ∙ c.if-not-is_table.false))

pub body_at-size-requires : goal.body_at-size-requires
body_at-size-requires c = let n = known_count c.args.table.now (sym c.is_table.ensures ∙ c.if-not-is_table.false) in (n, n)

pub returns-then-saved-size : goal.returns-then-saved-size
returns-then-saved-size c = c.refuse-then-saved-size.ensures ∙ save_too_long c.args.table.now (length c.args.saved.now) (sym c.is_table.ensures ∙ c.if-not-is_table.false) (sym c.is_savable.ensures ∙ c.if-not-is_savable.false) (omega (arith, c.if-saved-size.true, c.body_at-size.ensures))

pub write_entries-requires : goal.write_entries-requires
write_entries-requires c = omega (arith, c.if-saved-size.false, c.body_at-size.ensures, c.clear.auto.buffer, length-set c.clear.new.buffer 0 (count_in c.args.table.now))

pub returns : goal.returns
returns c =
    ap (λ (n : ℕ). seen (Ok n) c.write_entries.new.saved no_state) c.body_at-size.ensures
    ∙ save_done c.args.table.now (length c.args.saved.now) (sym c.is_table.ensures ∙ c.if-not-is_table.false) (sym c.is_savable.ensures ∙ c.if-not-is_savable.false) c.clear.new.buffer _ c.write_entries.new.saved
    (omega (arith, c.if-saved-size.false, c.body_at-size.ensures)) c.clear.ensures refl c.write_entries.ensures
