-- Bytes that are asked whether they are a table, and then the request over them. Assumes nothing.
use mathlib.Core.Path.{sym, ◌∙◌}
use lib.ListN.{length}
use Rattle.server.proofs.Served.{lent_over}
use Rattle.server.proofs.serve.handle_request_lent.Goals as goal

pub serve_known-requires : goal.serve_known-requires
serve_known-requires c = λ k. sym c.is_table-known.ensures ∙ k

pub returns : goal.returns
returns c =
    let g = c.args in
    lent_over g.store.now g.table.now g.cluster.0 g.unicast g.request.now (length g.reply.now) c.serve_known.result _ c.is_table-known.result c.is_table-known.ensures _ _
    (λ i. (c.type_inv.table i).fits)
    c.serve_known.ensures
