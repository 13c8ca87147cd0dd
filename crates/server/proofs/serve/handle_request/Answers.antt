-- The table as its bytes: not written, or served there and read back. Assumes nothing.
use mathlib.Core.Path.{◌≡◌, ap, sym, ◌∙◌}
use mathlib.Core.Bool.{true}
use lib.ListN.{length}
use Rattle.reporting.specs.Carried.{is_table, reading}
use Rattle.reporting.specs.Table.{capacity}
use Rattle.reporting.proofs.CarriageTable.{read_is}
use Rattle.server.proofs.Served.{read_is_some, not_written, was_written, value_refused, value_served}
use borrow.Author.Rules.{rules}
use Rattle.server.proofs.serve.handle_request.Goals as goal

pub serve_known-answer-requires : goal.serve_known-answer-requires
serve_known-answer-requires c = λ k. (read_is capacity _ _ (c.write_table-known.ensures.read_back k)).0

pub returns-then-not-known : goal.returns-then-not-known
returns-then-not-known c =
    let g = c.args in
    let none = c.if-not-known.true in
    value_refused g.store.now g.table g.cluster.0 g.unicast g.request.now (length g.reply.now) c.serve_known-answer.result _
    (not_written g.table _ (search rules) _ _ c.write_table-known.ensures.bytes_after none)
    _ _ _
    (c.serve_known-answer.ensures.fails none)

pub unwrap-after-requires : goal.unwrap-after-requires
unwrap-after-requires c =
    let whole : is_table capacity c.serve_known-answer.new.table ≡ true = c.serve_known-answer.ensures.stays c.if-not-known.false in
    read_is_some _ _ whole c.read_table.ensures

pub returns : goal.returns
returns c =
    let g = c.args in
    let one = c.if-not-known.false in
    value_served g.store.now g.table g.cluster.0 g.unicast g.request.now (length g.reply.now) c.serve_known-answer.result _
    (was_written g.table _ (search rules) _ _ c.write_table-known.ensures.bytes_after one)
    _
    (c.write_table-known.ensures.read_back one)
    _ _
    (c.serve_known-answer.ensures.stays one)
    (c.serve_known-answer.ensures.served one)
    c.unwrap-after.result
    (ap reading (sym c.unwrap-after.ensures) ∙ c.read_table.ensures)
