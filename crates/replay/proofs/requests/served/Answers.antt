-- The table is read, and the buffer has the store; what comes back is compared. Assumes nothing.
use mathlib.Core.Path.{◌≡◌, ap, ◌∙◌}
use Prim.Native.Nat.{ℕ}
use lib.ListN.{length}
use lib.Dec.{eqb}
use Rattle.std.specs.Prelude.{Option, Some}
use Rattle.std.specs.Option.{option_eq}
use Rattle.replay.proofs.Says.{filled}
use Rattle.replay.proofs.Served.{request_none, request_found}
use Rattle.replay.proofs.requests.served.Goals as goal

pub returns-in_err-table : goal.returns-in_err-table
returns-in_err-table c =
    c.from_residual.ensures
    ∙ request_none c.args.used.now c.args.store.now c.args.frame.now (length c.args.reply.now) _ c.table_of.ensures c.args.held.now c.in_err-table.was

pub returns : goal.returns
returns c =
    let stored : c.put_run-end.new.buffer ≡ c.args.store.now = filled c.args.copy.now c.args.store.now _ _ c.requires c.put_run-end.ensures in
    request_found c.args.used.now c.args.store.now c.args.frame.now (length c.args.reply.now) _ c.table_of.ensures c.args.held.now c.in_ok-table.table c.in_ok-table.was
    c.handle_request-done.result.answer _ _ _ _ _ _ stored c.u16_at.ensures c.handle_request-done.ensures (c.part.ensures ∙ c.lay-n.ensures)
    _ (c.eq.ensures ∙ ap (λ (r : Option ℕ). option_eq eqb r (Some (length c.args.held.now))) c.match_answer-end.ensures)
