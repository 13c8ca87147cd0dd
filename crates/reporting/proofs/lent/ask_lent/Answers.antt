-- The check, and then the answer of a table's bytes. Assumes nothing.
use mathlib.Core.Path.{◌≡◌, sym, ◌∙◌}
use mathlib.Core.Bool.{true}
use mir.Facts.{to_z-of_z}
use Rattle.reporting.specs.Table.{capacity}
use Rattle.reporting.specs.Carried.{is_table}
use Rattle.reporting.proofs.Lending.{ask_refused, ask_known}
use Rattle.reporting.proofs.lent.ask_lent.Goals as goal

pub returns-then-not-is_table : goal.returns-then-not-is_table
returns-then-not-is_table c = ask_refused c.args.bytes.now _ _ _ (sym c.is_table.ensures ∙ c.if-not-is_table.true)

pub invariant_of-due : goal.invariant_of-due
invariant_of-due c = record { whole = sym c.is_table.ensures ∙ c.if-not-is_table.false }

pub returns : goal.returns
returns c =
    let known : is_table capacity c.args.bytes.now ≡ true = sym c.is_table.ensures ∙ c.if-not-is_table.false in
    ask_known c.args.bytes.now known _ _ _ _ _ (to_z-of_z c.ranges.value) c.due.ensures
