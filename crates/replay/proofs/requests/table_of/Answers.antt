-- The bytes, and zeros behind them. Assumes nothing.
use mathlib.Core.Path.{refl, ap, ◌∙◌}
use Rattle.reporting.specs.Table.{capacity}
use Rattle.reporting.specs.Carried.{read_t}
use Rattle.replay.proofs.Served.{whole_long, whole_short}
use Rattle.replay.proofs.requests.table_of.Goals as goal

pub returns-then-used-gt-TABLE_BYTES : goal.returns-then-used-gt-TABLE_BYTES
returns-then-used-gt-TABLE_BYTES c =
    c.read_table.ensures ∙ ap (read_t capacity) (whole_long c.args.used.now c.if-used-gt-TABLE_BYTES.true)

pub returns : goal.returns
returns c =
    c.read_table-2.ensures ∙ ap (read_t capacity) (whole_short c.args.used.now _ _ _ c.if-used-gt-TABLE_BYTES.false refl c.put_run.ensures)
