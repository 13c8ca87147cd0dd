-- The check, and then the configuration set in a table's bytes. Assumes nothing.
use mathlib.Core.Path.{◌≡◌, sym, ap, ◌∙◌, subst}
use Prim.Native.Nat.{ℕ}
use mathlib.Core.Bool.{true}
use mathlib.Core.List.{List}
use Rattle.std.proofs.Common.{rules}
use Rattle.std.specs.Prelude.{Ok}
use Rattle.types.specs.Number.{AllBytes}
use Rattle.reporting.specs.Lent.{left_as}
use Rattle.reporting.specs.Table.{capacity}
use Rattle.reporting.specs.Carried.{is_table}
use Rattle.reporting.proofs.Lending.{configure_refused, configure_known}
use Rattle.reporting.proofs.lent.configure_lent.Goals as goal

pub returns-then-not-is_table : goal.returns-then-not-is_table
returns-then-not-is_table c = configure_refused c.args.bytes.now _ _ (sym c.is_table.ensures ∙ c.if-not-is_table.true)

pub invariant_of-configure : goal.invariant_of-configure
invariant_of-configure c = record { whole = sym c.is_table.ensures ∙ c.if-not-is_table.false }

pub returns : goal.returns
returns c =
    let known : is_table capacity c.args.bytes.now ≡ true = sym c.is_table.ensures ∙ c.if-not-is_table.false in
    let left : ◌≡◌ {A = List ℕ} _ c.configure.new.self.bytes.now = search rules in
    let all_bytes : AllBytes c.configure.new.self.bytes.now = subst AllBytes left (λ i. (c.type_inv.bytes i).fits) in
    ap (λ (bs : List ℕ). left_as (Ok c.configure.result) bs) left ∙ configure_known c.args.bytes.now known _ _ c.configure.result c.configure.new.self.bytes.now all_bytes c.configure.ensures.configured
