-- The check, and then the mark in a table's bytes. Assumes nothing.
use mathlib.Core.Path.{◌≡◌, sym, ap, ◌∙◌, subst}
use Prim.Native.Nat.{ℕ}
use mathlib.Core.Bool.{true}
use mathlib.Core.List.{List}
use Rattle.std.proofs.Common.{rules}
use Rattle.types.specs.Number.{AllBytes}
use Rattle.reporting.specs.Carried.{written}
use mir.Facts.{to_z-of_z}
use Rattle.reporting.specs.Table.{capacity}
use Rattle.reporting.specs.Carried.{is_table}
use Rattle.reporting.proofs.Lending.{mark_refused, mark_known}
use Rattle.reporting.proofs.lent.mark_lent.Goals as goal

pub returns-then-not-is_table : goal.returns-then-not-is_table
returns-then-not-is_table c = mark_refused c.args.bytes.now _ _ _ (sym c.is_table.ensures ∙ c.if-not-is_table.true)

pub invariant_of-mark : goal.invariant_of-mark
invariant_of-mark c = record { whole = sym c.is_table.ensures ∙ c.if-not-is_table.false }

pub returns : goal.returns
returns c =
    let known : is_table capacity c.args.bytes.now ≡ true = sym c.is_table.ensures ∙ c.if-not-is_table.false in
    let left : ◌≡◌ {A = List ℕ} _ c.mark.new.self.bytes.now = search rules in
    let all_bytes : AllBytes c.mark.new.self.bytes.now = subst AllBytes left (λ i. (c.type_inv.bytes i).fits) in
    ap (λ (bs : List ℕ). written true bs) left ∙ mark_known c.args.bytes.now known _ _ _ _ c.mark.new.self.bytes.now all_bytes (to_z-of_z c.ranges.value) c.mark.ensures.marked
