-- A slot's form by its mark and its flag, and under flag 0 by the two numbers behind it. Assumes nothing.
use mathlib.Core.Path.{refl}
use Rattle.reporting.proofs.CarriageCode.{form_marks, form_past, form_marked, form_timed, form_untimed}
use Rattle.reporting.proofs.carried.slot_in_form.Goals as goal

pub returns-then-bytes-at-gt1 : goal.returns-then-bytes-at-gt1
returns-then-bytes-at-gt1 c = form_marks c.args.bytes.now c.args.at _ refl c.if-bytes-at-gt1.true

pub returns-then-flag-gt1 : goal.returns-then-flag-gt1
returns-then-flag-gt1 c = form_past c.args.bytes.now c.args.at _ refl c.if-bytes-at-gt1.false _ refl c.if-flag-gt1.true

pub returns-then-flag-eq1 : goal.returns-then-flag-eq1
returns-then-flag-eq1 c = form_marked c.args.bytes.now c.args.at _ refl c.if-bytes-at-gt1.false _ refl c.if-flag-eq1.true

pub returns-then-time-eq0 : goal.returns-then-time-eq0
returns-then-time-eq0 c =
    let a = c.args in
    form_untimed a.bytes.now a.at _ refl c.if-bytes-at-gt1.false _ refl c.if-flag-gt1.false c.if-flag-eq1.false _ _ c.u32_in-time.ensures c.u64_in-value.ensures c.if-time-eq0.true

pub returns-else-time-eq0 : goal.returns-else-time-eq0
returns-else-time-eq0 c =
    let a = c.args in
    form_timed a.bytes.now a.at _ refl c.if-bytes-at-gt1.false _ refl c.if-flag-gt1.false c.if-flag-eq1.false _ _ c.u32_in-time.ensures c.u64_in-value.ensures c.if-time-eq0.false
