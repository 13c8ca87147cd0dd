-- A lent part that came back all zeros. Assumes nothing.
use native.Mathlib.Omega.{arith}
use mathlib.Core.Path.{◌≡◌, sym, ap, ◌∙◌}
use Prim.Native.Nat.{ℕ, ◌+◌, ◌-◌}
use lib.ListN.{length, drop, length-drop, length-replicate}
use lib.Seq.{sets, length-take-le}
use Rattle.types.specs.Number.{zeros}
use Rattle.frame.proofs.Buffer.{mid_sets}
use Rattle.reporting.specs.Carried.{slot_bytes}
use Rattle.reporting.proofs.held.blank_slot.Goals as goal

pub returns : goal.returns
returns c =
    let bs = c.args.bytes.now in
    let at = c.args.at in
    let n : at + slot_bytes - at ≡ slot_bytes = omega arith in
    let z : c.clear.new.buffer ≡ zeros slot_bytes = c.clear.ensures ∙ ap zeros (length-take-le (at + slot_bytes - at) (drop at bs) (omega (arith, length-drop at bs, c.requires)) ∙ n) in
    let m : length c.clear.new.buffer ≡ slot_bytes = ap length z ∙ length-replicate {A = ℕ} slot_bytes 0 in
    mid_sets bs c.clear.new.buffer at (at + slot_bytes - at) (m ∙ sym n) (omega (arith, m, c.requires)) ∙ ap (sets bs at) z
