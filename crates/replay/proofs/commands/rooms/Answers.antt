-- Each room leaves the same to compare. Assumes nothing.
use Rattle.std.proofs.Common.{Option, ℕ, ◌≤◌, List, length, take, subst, arith}
use lib.Seq.{length-take-le}
use Rattle.replay.specs.Commands.{answer_with}
use Rattle.replay.specs.Inside.{Turned}
use Rattle.replay.specs.declared.commands.Place.{Place}
use Rattle.replay.proofs.Answers.{going_more, going_off, going_done}
use Rattle.replay.proofs.commands.rooms.Goals.{else-loop-room-test, then-loop-room-test+in-Some+else-room-last}
use Rattle.replay.proofs.commands.rooms.Goals as goal

-- the part of the buffer that is lent has the room that is asked for
turned : (tells : ℕ → List ℕ) (held : List ℕ) (place : Place) (room : ℕ) (reply : List ℕ) (r : Option Place) → room ≤ length reply
    → Turned held place (tells (length (take room reply))) r → Turned held place (tells room) r
turned tells held place room reply r h t = subst (λ (k : ℕ). Turned held place (tells k) r) (length-take-le room reply h) t

pub returns-in_default : goal.returns-in_default
returns-in_default c =
    let a = c.args in
    let l = c.loop-room in
    let t = turned (answer_with a.command a.request a.body.now a.store.now) _ l.place l.room l.reply _ (omega arith) c.room_turn.ensures in
    going_off _ _ _ _ _ l.invariant (omega arith) _ c.in_default.is t

pub loop-room-preserved : goal.loop-room-preserved
loop-room-preserved c =
    let a = c.args in
    let l = c.loop-room in
    let t = turned (answer_with a.command a.request a.body.now a.store.now) _ l.place l.room l.reply _ (omega arith) c.room_turn.ensures in
    going_more _ _ _ _ _ l.invariant (omega arith) _ _ c.in-Some.is t

pub returns : goal.returns
returns c =
    let a = c.args in
    let l = c.loop-room in
    elim c.loop-room-test.branch [
      | else-loop-room-test w ↦ rw w.place-is (going_done _ _ _ _ _ l.invariant (omega arith))
      | then-loop-room-test+in-Some+else-room-last w ↦
          let t = turned (answer_with a.command a.request a.body.now a.store.now) _ l.place l.room l.reply _ (omega arith) w.room_turn.ensures in
          rw w.place-is (going_done _ _ _ _ _ (going_more _ _ _ _ _ l.invariant (omega arith) _ _ w.in-Some.is t) (omega arith))
    ]
