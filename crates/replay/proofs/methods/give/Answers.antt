-- An arm for an operation. Assumes nothing.
use mathlib.Core.Path.{◌∙◌}
use Rattle.types.proofs.Machine.{came_back}
use Rattle.reporting.specs.Table.{table_of}
use Rattle.replay.proofs.Calls.{gave_configure, gave_clear, gave_mark, gave_ask, gave_setting, gave_length}
use Rattle.replay.proofs.methods.give.Goals as goal

pub returns-in-0 : goal.returns-in-0
returns-in-0 c =
    let a = c.args in
    gave_configure a.held.now a.at a.call.now (table_of a.table) _ c.byte_at.ensures _ c.key_in-key.ensures c.in-0.is _ c.config_in.ensures _ c.configure.ensures _ c.changed.ensures

pub returns-in-1 : goal.returns-in-1
returns-in-1 c =
    let a = c.args in
    gave_clear a.held.now a.at a.call.now (table_of a.table) _ c.byte_at.ensures _ c.key_in-key.ensures c.in-1.is _ c.clear.ensures _ c.changed-in-1.ensures

pub returns-in-2 : goal.returns-in-2
returns-in-2 c =
    let a = c.args in
    gave_mark a.held.now a.at a.call.now (table_of a.table) _ c.byte_at.ensures _ c.key_in-key.ensures _ _ c.time_in-time.ensures (came_back _ c.signed_at-value.type_inv ∙ c.signed_at-value.ensures) c.in-2.is _ c.mark.ensures _ c.changed-in-2.ensures

pub returns-in-3 : goal.returns-in-3
returns-in-3 c =
    let a = c.args in
    gave_ask a.held.now a.at a.call.now (table_of a.table) _ c.byte_at.ensures _ c.key_in-key.ensures _ _ c.time_in-time.ensures (came_back _ c.signed_at-value.type_inv ∙ c.signed_at-value.ensures) c.in-3.is _ c.ask.ensures _ c.flag_bytes.ensures.report _ c.match_run.ensures

pub returns-in-4 : goal.returns-in-4
returns-in-4 c =
    let a = c.args in
    gave_setting a.held.now a.at a.call.now (table_of a.table) _ c.byte_at.ensures _ c.key_in-key.ensures c.in-4.is _ c.configuration.ensures _ c.match_setting.ensures

pub returns-in_default : goal.returns-in_default
returns-in_default c =
    let a = c.args in
    let n = c.in_default.in_default-own.rest in
    gave_length a.held.now a.at a.call.now (table_of a.table) _ c.byte_at.ensures _ c.key_in-key.ensures n.0.0.0.0.1 n.0.0.0.1 n.0.0.1 n.0.1 n.1 _ c.len.ensures _ c.length_bytes.ensures _ c.match_run-in_default.ensures
