-- Two numbers of a row, and three or four of a body. Assumes nothing.
use mathlib.Core.Path.{sym, ap, ◌∙◌}
use mathlib.Core.List.{List}
use native.Mathlib.Omega.{arith}
use Prim.Native.Nat.{ℕ, ◌+◌}
use lib.ListN.{get_or}
use lib.Dec.{eqb}
use Rattle.reporting.specs.Entries.{fresh}
use Rattle.saved.proofs.Places.{three_numbers, body_numbers}
use Rattle.saved.proofs.form.entry_in.Goals as goal

pub returns : goal.returns
returns c =
    let bs = c.args.saved.now in
    let m = c.args.with_marks in
    let row = three_numbers 2 2 2 c.args.row (c.args.row + 4) (omega arith) bs in
    let body = body_numbers m bs c.args.body in
    c.fresh.ensures
    ∙ (λ i. fresh (record { cluster = record { 0 = (c.u16_in-cluster.ensures ∙ sym (ap (λ (ns : List ℕ). get_or ns 0 0) row)) i }; attribute = record { 0 = (c.u16_in-attribute.ensures ∙ sym (ap (λ (ns : List ℕ). get_or ns 1 0) row)) i } })
    (record {
      min_interval = (c.u16_in-min_interval.ensures ∙ sym body.minimum) i;
      max_interval = (c.u16_in-max_interval.ensures ∙ sym body.maximum) i;
      reportable_change = (c.u64_in-reportable_change.ensures ∙ sym body.change) i;
      unsigned = eqb (c.mark_in-mark.ensures i) 1;
    }))
