-- A table that `len` refuses has no answer; else what the scan came to. Assumes nothing.
use Rattle.std.specs.Prelude.{Err}
use native.Mathlib.Omega.{arith}
use mathlib.Core.Path.{◌≡◌, ap, ◌∙◌}
use borrow.Author.Rules.{rules}
use mir.Facts.{to_z-of_z}
use Prim.Native.Nat.{◌≤◌, ◌<◌}
use Rattle.frame.specs.declared.answer.Refusal.TheVariants.{NotATable}
use Rattle.reporting.specs.Table.{capacity, report_told}
use Rattle.reporting.proofs.Slots.{length_mapped, Found, len_small, len_refused, length_back, ask_bad, ask_absent, ask_is}
use Rattle.reporting.proofs.table.ReportingTable.ask.Goals as goal

pub returns-in_err-count : goal.returns-in_err-count
returns-in_err-count c =
    let h : (capacity < c.args.self.count) × (c.in_err-count.field-0.0 ≡ NotATable) = len_refused _ _ (rw c.in_err-count.was at c.len.ensures) in
    let kept : c.from_residual.result ≡ Err c.in_err-count.field-0.0 = search rules in
    ap report_told kept ∙ rw h.1 (ask_bad c.args.self h.0 _ _ _)

pub returns-then-count-at : goal.returns-then-count-at
returns-then-count-at c =
    let small : c.args.self.count ≤ capacity = len_small _ _ (rw c.in_ok-count.was at c.len.ensures) in
    let found : Found c.args.self c.args.key c.find-at.result = record { slots = search (length_mapped, rules); small = small; place = c.find-at.ensures } in
    let n : c.in_ok-count.count ≡ c.args.self.count = length_back c.args.self found.slots small _ (rw c.in_ok-count.was at c.len.ensures) in
    ask_absent found _ _ (omega (arith, c.if-count-at.true))

pub returns : goal.returns
returns c =
    let small : c.args.self.count ≤ capacity = len_small _ _ (rw c.in_ok-count.was at c.len.ensures) in
    let found : Found c.args.self c.args.key c.find-at.result = record { slots = search (length_mapped, rules); small = small; place = c.find-at.ensures } in
    let n : c.in_ok-count.count ≡ c.args.self.count = length_back c.args.self found.slots small _ (rw c.in_ok-count.was at c.len.ensures) in
    ask_is found _ _ _ _ _ (to_z-of_z c.ranges.value) (omega (arith, c.if-count-at.false)) c.due.ensures
