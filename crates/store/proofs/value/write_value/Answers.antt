-- As many bytes as the room has and the store goes are laid. Assumes nothing.
use Prim.Native.Nat.{◌-◌}
use mathlib.Core.Path.{◌≡◌, ◌∙◌}
use native.Mathlib.Omega.{arith}
use lib.ListN.{length, length-take, length-drop}
use Rattle.store.proofs.Fitted.{stored_part}
use Rattle.store.proofs.value.write_value.Goals as goal

pub returns : goal.returns
returns c =
    let a = c.args in
    let l = c.loop-i in
    let long : length l.b-items ≡ c.min-end.result - c.min-from.result = l.auto.b-items ∙ simp (length-take, length-drop) (omega arith) in
    stored_part a.s.now a.a a.value.now l.b-items _ _ c.min-from.ensures c.min-end.ensures long (λ k h. l.invariant k (omega arith))
