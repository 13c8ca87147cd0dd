-- `configuration::configuration_turn` meets its contract: what is put for what was sought is the answer. Assumes nothing.
use Rattle.reporting.specs.Entries.{lookup_l}
use Rattle.reporting.specs.Carried.{table_in}
use Rattle.configure.proofs.Answers.{answered}
use Rattle.configure.proofs.configuration.configuration_turn.Goals as goal

pub returns-in-Err : goal.returns-in-Err
returns-in-Err c = answered _ _ _ _ _ _ _ c.seek.ensures c.in-Err.is _ _ _ _ c.put_failure.ensures

pub returns-in-Ok : goal.returns-in-Ok
returns-in-Ok c =
    answered _ _ _ _ _ _ _ c.seek.ensures c.in-Ok.is _ _ _ _
    (c.put_found.ensures (lookup_l c.in-Ok.key (table_in c.args.table.bytes.now)) c.configuration-setting.ensures)
