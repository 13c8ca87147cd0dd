-- The record that was read is the one that is done. Assumes nothing.
use mathlib.Core.Path.{refl, sym, ap, ◌∙◌}
use native.Mathlib.Omega.{arith}
use Rattle.write.specs.Inside.{item_of}
use Rattle.write.proofs.Turns.{read_within, took_one}
use Rattle.write.proofs.pass.record_turn.Goals as goal

pub returns-in_err-id : goal.returns-in_err-id
returns-in_err-id g c =
    rw c.from_residual.ensures record {
      took = λ does by. (record { is = sym c.next_record.ensures ∙ ap (item_of c.args.body.now c.args.at) c.in_err-id.was; same = refl });
      later = tt;
    }

pub overflow_add-at : goal.overflow_add-at
overflow_add-at g c = omega (arith, read_within c.args.body.now c.args.at c.next_record.ensures c.in_ok-id.was)

pub slice_bounds-task-count : goal.slice_bounds-task-count
slice_bounds-task-count g c = omega (arith, read_within c.args.body.now c.args.at c.next_record.ensures c.in_ok-id.was)

pub slice_bounds-task-start : goal.slice_bounds-task-start
slice_bounds-task-start g c = omega (arith, read_within c.args.body.now c.args.at c.next_record.ensures c.in_ok-id.was)

pub slice_bounds-task-end : goal.slice_bounds-task-end
slice_bounds-task-end g c = omega (arith, read_within c.args.body.now c.args.at c.next_record.ensures c.in_ok-id.was)

pub returns : goal.returns
returns g c =
    let body = c.args.body.now in
    let at = c.args.at in
    let y = c.task-status in
    record {
      took = λ does by.
          took_one body at c.next_record.ensures c.in_ok-id.was does c.args.request c.args.store.now c.name_of-name.result.0 y.result y.new.arg2 c.name_of-name.ensures (by.of_call _ _ _ _ _ _ y.ensures);
      later = omega (arith, read_within body at c.next_record.ensures c.in_ok-id.was);
    }
