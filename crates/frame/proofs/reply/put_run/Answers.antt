-- `reply::put_run` meets its contract: the two tests together ask whether the bytes fit, and each turn lays one. Assumes nothing.
use Rattle.std.specs.Prelude.{Some}
use mathlib.Core.Path.{◌≡◌, sym, ap, ◌∙◌}
use mathlib.Core.List.{List, ◌++◌}
use Prim.Native.Nat.{ℕ, ◌+◌, ◌-◌}
use native.Mathlib.Omega.{arith}
use lib.ListN.{length, take, drop, length-take, length-drop}
use Rattle.std.proofs.lemmas.List.{ext_get_or}
use Rattle.frame.specs.Inside.Buffer.{putting}
use Rattle.frame.proofs.Buffer.{put_fits, put_past, mid_sets}
use Rattle.frame.proofs.reply.put_run.Goals as goal

pub returns-then-buffer-at : goal.returns-then-buffer-at
returns-then-buffer-at c =
    let a = c.args in
    sym (put_past a.buffer.now a.at a.bytes.now (omega arith))

pub returns-then-buffer-at-2 : goal.returns-then-buffer-at-2
returns-then-buffer-at-2 c =
    let a = c.args in
    sym (put_past a.buffer.now a.at a.bytes.now (omega arith))

pub returns : goal.returns
returns c =
    let a = c.args in
    let l = c.loop-i in
    let d = a.buffer.now in
    let n : ℕ = a.at + length a.bytes.now - a.at in
    let long : length l.b-items ≡ length a.bytes.now = l.auto.b-items ∙ simp (length-take, length-drop) (omega arith) in
    let laid : l.b-items ≡ a.bytes.now = ext_get_or 0 l.b-items a.bytes.now long (λ k h. l.invariant k (omega arith)) in
    ap (λ (l : List ℕ). putting (Some (a.at + length a.bytes.now)) (take a.at d ++ (l ++ drop n (drop a.at d)))) laid
    ∙ ap (λ (l : List ℕ). putting (Some (a.at + length a.bytes.now)) l) (mid_sets d a.bytes.now a.at n (omega arith) (omega arith))
    ∙ sym (put_fits d a.at a.bytes.now (omega arith))
