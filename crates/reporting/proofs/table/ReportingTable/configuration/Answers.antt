-- A table that `len` refuses has no answer; else what the scan came to. Assumes nothing.
use Rattle.std.specs.Prelude.{Err}
use native.Mathlib.Omega.{arith}
use mathlib.Core.Path.{◌≡◌, ap, ◌∙◌}
use borrow.Author.Rules.{rules}
use Prim.Native.Nat.{◌≤◌, ◌<◌}
use Rattle.frame.specs.declared.answer.Refusal.TheVariants.{NotATable}
use Rattle.reporting.specs.Table.{capacity, setting_told}
use Rattle.reporting.proofs.Slots.{length_mapped, Found, len_small, len_refused, length_back, setting_bad, setting_absent, setting_is}
use Rattle.reporting.proofs.table.ReportingTable.configuration.Goals as goal

pub returns-in_err-n : goal.returns-in_err-n
returns-in_err-n c =
    let h : (capacity < c.args.self.count) × (c.in_err-n.field-0.0 ≡ NotATable) = len_refused _ _ (rw c.in_err-n.was at c.len.ensures) in
    let kept : c.from_residual.result ≡ Err c.in_err-n.field-0.0 = search rules in
    ap setting_told kept ∙ rw h.1 (setting_bad c.args.self h.0 _)

pub returns-then-n-at : goal.returns-then-n-at
returns-then-n-at c =
    let small : c.args.self.count ≤ capacity = len_small _ _ (rw c.in_ok-n.was at c.len.ensures) in
    let found : Found c.args.self c.args.key c.find-at.result = record { slots = search (length_mapped, rules); small = small; place = c.find-at.ensures } in
    let n : c.in_ok-n.n ≡ c.args.self.count = length_back c.args.self found.slots small _ (rw c.in_ok-n.was at c.len.ensures) in
    setting_absent found (omega (arith, c.if-n-at.true))

pub returns : goal.returns
returns c =
    let small : c.args.self.count ≤ capacity = len_small _ _ (rw c.in_ok-n.was at c.len.ensures) in
    let found : Found c.args.self c.args.key c.find-at.result = record { slots = search (length_mapped, rules); small = small; place = c.find-at.ensures } in
    let n : c.in_ok-n.n ≡ c.args.self.count = length_back c.args.self found.slots small _ (rw c.in_ok-n.was at c.len.ensures) in
    setting_is found _ (omega (arith, c.if-n-at.false))
