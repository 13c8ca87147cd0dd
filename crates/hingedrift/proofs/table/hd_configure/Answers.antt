-- The check, the mark, and then what the table's own function tells, and the bytes that it leaves. Assumes nothing.
use mathlib.Core.Path.{◌≡◌, sym, ap, ◌∙◌, subst}
use mathlib.Core.List.{List}
use Rattle.types.specs.Number.{AllBytes}
use mathlib.Core.Bool.{true}
use Prim.Native.Nat.{ℕ}
use Rattle.std.proofs.Common.{rules}
use Rattle.reporting.specs.Table.{capacity}
use Rattle.reporting.specs.Carried.{is_table}
use Rattle.hingedrift.specs.Tables.{bit, left}
use Rattle.hingedrift.proofs.Bridge.{configure_no_table, configured_so}
use Rattle.hingedrift.proofs.table.hd_configure.Goals as goal

pub returns-then-not-is_table : goal.returns-then-not-is_table
returns-then-not-is_table c = configure_no_table _ _ _ _ _ (sym c.is_table.ensures ∙ c.if-not-is_table.true) c.from.ensures

pub invariant_of-held : goal.invariant_of-held
invariant_of-held c = record { whole = sym c.is_table.ensures ∙ c.if-not-is_table.false }

pub returns : goal.returns
returns c =
    let known : is_table capacity c.args.table.now ≡ true = sym c.is_table.ensures ∙ c.if-not-is_table.false in
    let accepted : c.from-2.result ≡ bit c.configure.result = search rules in
    let after : ◌≡◌ {A = List ℕ} _ c.configure.new.self.bytes.now = search rules in
    let all_bytes : AllBytes c.configure.new.self.bytes.now = subst AllBytes after (λ i. (c.type_inv.table i).fits) in
    ap (λ (bs : List ℕ). left 0 bs c.from-2.result) after
    ∙ ap (λ (n : ℕ). left 0 c.configure.new.self.bytes.now n) accepted
    ∙ configured_so _ _ _ _ known c.if-mark-gt1.false _ c.key_of.ensures _ _ all_bytes c.configure.ensures.configured
