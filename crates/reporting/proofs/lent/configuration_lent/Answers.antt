-- The check, and then the answer of a table's bytes. Assumes nothing.
use Rattle.std.specs.Prelude.{Ok}
use mathlib.Core.Path.{◌≡◌, sym, ◌∙◌}
use mathlib.Core.Bool.{true}
use Rattle.reporting.specs.Table.{capacity}
use Rattle.reporting.specs.Carried.{is_table}
use Rattle.reporting.proofs.Lending.{setting_refused, setting_known}
use Rattle.reporting.proofs.lent.configuration_lent.Goals as goal

pub returns-then-not-is_table : goal.returns-then-not-is_table
returns-then-not-is_table c = setting_refused c.args.bytes.now _ (sym c.is_table.ensures ∙ c.if-not-is_table.true)

pub invariant_of-configuration : goal.invariant_of-configuration
invariant_of-configuration c = record { whole = sym c.is_table.ensures ∙ c.if-not-is_table.false }

pub returns : goal.returns
returns c =
    let known : is_table capacity c.args.bytes.now ≡ true = sym c.is_table.ensures ∙ c.if-not-is_table.false in
    setting_known c.args.bytes.now known _ (Ok c.configuration.result) c.configuration.ensures
