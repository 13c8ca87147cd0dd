-- What is left to write, written here, is the whole written from the start. Assumes nothing.
use native.Mathlib.Omega.{arith}
use Prim.Native.Nat.{ℕ, ◌+◌, ◌-◌, ◌/◌, ◌%◌, ◌≤◌, ◌<◌}
use mathlib.Core.Path.{◌≡◌, refl, sym, ◌∙◌}
use mathlib.Core.List.{List}
use lib.ListN.{set}
use lib.Seq.{sets}
use Rattle.types.specs.Number.{bytes_of}
use Rattle.types.proofs.Numbers.{put_step, put_done}
use Rattle.types.proofs.number.put_le.Goals as goal

-- before the first turn all is left to write
first : (l : List ℕ) (at width n : ℕ) → sets l at (bytes_of (width - (at - at)) n) ≡ sets l at (bytes_of width n)
first l at width n =
    let z : width - (at - at) ≡ width = omega arith in
    rw z refl

-- a turn writes the low byte of what is left
step : (l : List ℕ) (at width p v : ℕ) → at ≤ p → p - at < width → sets l p (bytes_of (width - (p - at)) v) ≡ sets (set l p (v % 256)) (p + 1) (bytes_of (width - (p + 1 - at)) (v / 256))
step l at width p v h k =
    let e : width - (p + 1 - at) ≡ width - (p - at) - 1 = omega arith in
    rw e (put_step l p (width - (p - at)) v (omega arith))

pub loop-p-preserved : goal.loop-p-preserved
loop-p-preserved c = sym (step c.loop-p.out c.args.at c.args.width c.loop-p.p c.loop-p.v (omega arith) (omega arith)) ∙ c.loop-p.invariant

pub returns : goal.returns
returns c = sym (put_done c.loop-p.out c.loop-p.p (c.args.width - (c.loop-p.p - c.args.at)) c.loop-p.v (λ h. omega arith)) ∙ c.loop-p.invariant
