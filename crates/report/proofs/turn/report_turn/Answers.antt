-- No store, no table, no room for the header, or both passes. Assumes nothing.
use mathlib.Core.Path.{◌≡◌, sym, ap, ◌∙◌, subst}
use mathlib.Core.Bool.{true}
use lib.ListN.{length, get_or}
use mathlib.Core.List.{List}
use Prim.Native.Nat.{ℕ, ◌<◌}
use Rattle.std.proofs.Common.{rules}
use Rattle.frame.specs.Answer.{seen}
use Rattle.report.specs.Turn.{after_turn}
use Rattle.store.specs.Layout.{is_store}
use Rattle.reporting.specs.Table.{capacity}
use Rattle.reporting.specs.Carried.{is_table, table_in, table_bytes}
use Rattle.reporting.proofs.CarriageTable.{bytes_back}
use Rattle.report.proofs.Ended.{turn_no_store, turn_no_table, turn_headless, turn_done}
use Rattle.report.proofs.turn.report_turn.Goals as goal

pub returns-then-not-is_store : goal.returns-then-not-is_store
returns-then-not-is_store c = turn_no_store c.args.store.now c.args.sequence c.args.last c.args.time (length c.args.frame.now) c.args.table.now (sym c.is_store.ensures ∙ c.if-not-is_store.true) c.refuse-answer.result c.refuse-answer.new.reply c.refuse-answer.ensures

pub returns-then-not-is_table : goal.returns-then-not-is_table
returns-then-not-is_table c =
    let store_is : is_store 8 c.args.store.now ≡ true = sym c.is_store.ensures ∙ c.if-not-is_store.false in
    turn_no_table c.args.store.now c.args.sequence c.args.last c.args.time (length c.args.frame.now) c.args.table.now store_is (sym c.is_table.ensures ∙ c.if-not-is_table.true) c.refuse-answer-then-not-is_table.result c.refuse-answer-then-not-is_table.new.reply c.refuse-answer-then-not-is_table.ensures

pub returns-in_default : goal.returns-in_default
returns-in_default c =
    let store_is : is_store 8 c.args.store.now ≡ true = sym c.is_store.ensures ∙ c.if-not-is_store.false in
    let table_is : is_table capacity c.args.table.now ≡ true = sym c.is_table.ensures ∙ c.if-not-is_table.false in
    let own : c.args.table.now ≡ table_bytes capacity (table_in c.args.table.now) = sym (bytes_back capacity c.args.table.now (λ i. (c.slice_known-1.given i).fits) table_is) in
    turn_headless c.args.store.now c.args.sequence c.args.last c.args.time (length c.args.frame.now) c.args.table.now store_is table_is own
    c.clear.new.buffer c.clear.ensures c.unasked-request.result c.unasked-request.ensures c.write_response_header-put.result c.write_response_header-put.new.reply c.write_response_header-put.ensures c.in_default.is

pub invariant_of-held : goal.invariant_of-held
invariant_of-held c =
    let table_is : is_table capacity c.args.table.now ≡ true = sym c.is_table.ensures ∙ c.if-not-is_table.false in
    record { whole = table_is }

pub shape_of-frame : goal.shape_of-frame
shape_of-frame c = c.finish-answer.auto.frame ∙ c.sweep-both.auto.frame ∙ c.sweep-first.auto.frame ∙ c.write_response_header-put.auto.reply ∙ c.clear.auto.buffer

pub returns : goal.returns
returns c =
    let store_is : is_store 8 c.args.store.now ≡ true = sym c.is_store.ensures ∙ c.if-not-is_store.false in
    let table_is : is_table capacity c.args.table.now ≡ true = sym c.is_table.ensures ∙ c.if-not-is_table.false in
    let own : c.args.table.now ≡ table_bytes capacity (table_in c.args.table.now) = sym (bytes_back capacity c.args.table.now (λ i. (c.slice_known-1.given i).fits) table_is) in
    let left : ◌≡◌ {A = List ℕ} _ c.sweep-both.new.table.bytes.now = search rules in
    let done = turn_done c.args.store.now c.args.sequence c.args.last c.args.time (length c.args.frame.now) c.args.table.now store_is table_is own
    c.clear.new.buffer c.clear.ensures c.unasked-request.result c.unasked-request.ensures c.write_response_header-put.result c.write_response_header-put.new.reply c.write_response_header-put.ensures _ c.in-Some.is
    c.sweep-first.result c.sweep-both.result c.sweep-first.new.table.bytes.now c.sweep-both.new.table.bytes.now c.sweep-first.new.frame c.sweep-both.new.frame c.finish-answer.new.frame c.finish-answer.result
    c.sweep-first.auto.frame c.sweep-both.auto.frame (λ i. subst (λ (x : List ℕ). get_or x i 0 < 256) left (c.type_inv.table i).fits) c.sweep-first.ensures.swept c.sweep-both.ensures.swept c.finish-answer.ensures in
    ap (λ (x : List ℕ). seen c.finish-answer.result c.finish-answer.new.frame (after_turn x c.sweep-both.result.last)) left ∙ done
