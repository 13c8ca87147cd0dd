-- `attributes::put_list` meets its contract: the byte is put, the records behind it, and the byte is set where one is left out.
use Rattle.std.specs.Prelude.{Some}
use mathlib.Core.Path.{ap, ◌∙◌}
use native.Mathlib.Omega.{arith}
use Rattle.frame.proofs.Buffer.{put_at}
use Rattle.store.specs.Contents.{attributes_of}
use Rattle.discover.specs.Discover.{at_or_after}
use Rattle.discover.proofs.Flagged.{list_byteless, list_all, list_part, list_roomless}
use Rattle.discover.proofs.attributes.put_list.Goals as goal

pub returns-in_err-first : goal.returns-in_err-first
returns-in_err-first c = λ before w. rw c.from_residual.ensures (list_byteless _ before _ w _ _ c.put_byte.ensures (at_or_after c.args.start.0 (attributes_of 8 c.args.store.now)) c.args.wanted c.in_err-first.was)

pub bounds-reply-from : goal.bounds-reply-from
bounds-reply-from c =
    let fits = put_at _ _ _ _ _ _ c.put_byte.ensures c.in_ok-first.was in
    omega (arith, fits.0, c.put_records.auto.reply, c.put_byte.auto.buffer)

pub returns-in-All : goal.returns-in-All
returns-in-All c =
    λ before w. list_all _ before _ w _ _ c.put_byte.ensures _ _ _ c.in_ok-first.was _ _ c.put_records.ensures _ (c.in_ok-out.was ∙ ap Some c.in-All.is)

pub returns-in-Part : goal.returns-in-Part
returns-in-Part c =
    λ before w. list_part _ before _ w _ _ c.put_byte.ensures _ _ _ c.in_ok-first.was _ _ c.put_records.ensures _ (c.in_ok-out.was ∙ ap Some c.in-Part.is)

pub returns-in_err-out : goal.returns-in_err-out
returns-in_err-out c =
    λ before w. rw c.from_residual-in_err-out.ensures (list_roomless _ before _ w _ _ c.put_byte.ensures _ _ _ c.in_ok-first.was _ _ c.put_records.ensures c.in_err-out.was)
