-- Each way out is one law of the record at a place. Assumes nothing.
use mathlib.Core.Path.{◌≡◌, sym, ap, ◌∙◌}
use Prim.Native.Nat.{◌+◌, ◌<◌}
use native.Mathlib.Omega.{arith}
use lib.ListN.{length}
use Rattle.std.specs.Prelude.{None, Some}
use Rattle.std.specs.Result.{result_ok}
use Rattle.write.specs.Inside.{item_of}
use Rattle.write.proofs.Items.{record_short, record_is, valued_some, valued_none}
use Rattle.write.proofs.record.next_record.Goals as goal
use Rattle.write.proofs.record.next_record.Goals.{then-body-at-via-then-body-at, then-body-at-via-else-body-at+then-body-at-lt3}

pub returns-then-body-at : goal.returns-then-body-at
returns-then-body-at c =
    let short : length c.args.body.now < c.args.at + 3 = elim c.then-body-at.branch [ then-body-at-via-then-body-at w ↦ omega arith | then-body-at-via-else-body-at+then-body-at-lt3 w ↦ omega arith ] in
    sym (record_short c.args.body.now c.args.at short)

pub returns-in_err-end : goal.returns-in_err-end
returns-in_err-end c =
    let a = c.args in
    let x = c.extent_at.result in
    let without : result_ok x ≡ None = sym c.ok.ensures.value ∙ c.in_err-end.was in
    ap (item_of a.body.now a.at) c.from_residual.ensures
    ∙ sym (record_is a.body.now a.at (omega arith) x (sym c.extent_at.ensures) ∙ valued_none a.body.now a.at x without)

pub returns : goal.returns
returns c =
    let a = c.args in
    let x = c.extent_at.result in
    let ended : result_ok x ≡ Some c.in_ok-end.end = sym c.ok.ensures.value ∙ c.in_ok-end.was in
    rw c.u16_at.ensures (sym (record_is a.body.now a.at (omega arith) x (sym c.extent_at.ensures) ∙ valued_some a.body.now a.at x c.in_ok-end.end ended))
