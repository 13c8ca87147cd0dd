-- The header, the checks, and the writes where none failed. Assumes nothing.
use Rattle.std.specs.Prelude.{Err}
use Rattle.std.proofs.Common.{rules}
use mathlib.Core.Path.{◌≡◌, sym, ap, ◌∙◌}
use mathlib.Core.Bool.{Bool, cond}
use mathlib.Core.List.{List}
use Prim.Native.Nat.{ℕ}
use lib.ListN.{length}
use Rattle.frame.specs.declared.command_identifier.CommandIdentifier.TheVariants.{WriteAttributesResponse}
use Rattle.frame.specs.declared.answer.Refusal.TheVariants.{ReplyTooLong}
use Rattle.write.specs.Write.{written, checked, written_all, write_undivided}
use Rattle.write.specs.Inside.{check_only}
use Rattle.write.proofs.Turns.{unheaded}
use Rattle.write.proofs.Undivided.{undivided_run}
use Rattle.write.proofs.attributes.write_attributes_undivided.Goals as goal
use Rattle.write.proofs.attributes.write_attributes_undivided.Goals.{then-is_clean, else-is_clean}

pub returns-in_err-start : goal.returns-in_err-start
unfolding write_undivided
returns-in_err-start c =
    let a = c.args in
    let b = c.begin_reply-begun in
    let why : c.in_err-start.field-0.0 ≡ ReplyTooLong = cc (rw c.in_err-start.ensures.ok_part at c.in_err-start.ensures.value) in
    let kept : c.from_residual.result ≡ Err c.in_err-start.field-0.0 = search rules in
    rw (kept, why) (unheaded a.request WriteAttributesResponse a.store.now (length a.reply.now) b.result b.new.reply b.ensures _ c.in_err-start.ensures.ok_part)

pub returns : goal.returns
unfolding written checked
returns c =
    let a = c.args in
    let b = c.begin_reply-begun in
    let start = c.in_ok-start in
    let f = c.pass_records-first in
    let y = c.conclude in
    let by : Bool → List ℕ = λ b. cond b (written_all 8 a.request a.body.now f.new.store) f.new.store in
    let stored : c.if-is_clean.store ≡ by c.is_clean.result =
    elim c.if-is_clean.branch [ then-is_clean h ↦ h.store-is ∙ h.apply_write_records.ensures ∙ ap by (sym h.if-is_clean.true) | else-is_clean h ↦ h.store-is ∙ ap by (sym h.if-is_clean.false) ] in
    undivided_run a.request a.store.now (length a.reply.now) b.result b.new.reply b.ensures a.body.now start.start start.ensures.ok_part f.result f.new.store f.new.reply
    (f.ensures (check_only 8) (record { of_call = λ s name t v status after e. search rules })) f.auto.reply
    c.is_clean.result c.is_clean.ensures c.if-is_clean.store stored y.result y.new.reply y.ensures
