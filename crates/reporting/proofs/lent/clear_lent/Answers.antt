-- The check, and then the entry taken out of a table's bytes. Assumes nothing.
use mathlib.Core.Path.{◌≡◌, sym, ap, ◌∙◌, subst}
use Prim.Native.Nat.{ℕ}
use mathlib.Core.Bool.{true}
use mathlib.Core.List.{List}
use Rattle.std.proofs.Common.{rules}
use Rattle.types.specs.Number.{AllBytes}
use Rattle.reporting.specs.Carried.{written}
use Rattle.reporting.specs.Table.{capacity}
use Rattle.reporting.specs.Carried.{is_table}
use Rattle.reporting.proofs.Lending.{clear_refused, clear_known}
use Rattle.reporting.proofs.lent.clear_lent.Goals as goal

pub returns-then-not-is_table : goal.returns-then-not-is_table
returns-then-not-is_table c = clear_refused c.args.bytes.now _ (sym c.is_table.ensures ∙ c.if-not-is_table.true)

pub invariant_of-clear : goal.invariant_of-clear
invariant_of-clear c = record { whole = sym c.is_table.ensures ∙ c.if-not-is_table.false }

pub returns : goal.returns
returns c =
    let known : is_table capacity c.args.bytes.now ≡ true = sym c.is_table.ensures ∙ c.if-not-is_table.false in
    let left : ◌≡◌ {A = List ℕ} _ c.clear.new.self.bytes.now = search rules in
    let all_bytes : AllBytes c.clear.new.self.bytes.now = subst AllBytes left (λ i. (c.type_inv.bytes i).fits) in
    ap (λ (bs : List ℕ). written true bs) left ∙ clear_known c.args.bytes.now known _ c.clear.new.self.bytes.now all_bytes c.clear.ensures.cleared
