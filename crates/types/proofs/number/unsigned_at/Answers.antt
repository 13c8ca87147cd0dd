-- From the high byte down: so far the number of the bytes above i, which leaves room for one more. Assumes nothing.
use native.Mathlib.Omega.{arith}
use Prim.Native.Nat.{ℕ, ◌+◌, ◌-◌, ◌*◌, ◌^◌, ◌≤◌, ◌<◌, min}
use mathlib.Core.Path.{◌≡◌, refl, ap, ◌∙◌}
use mathlib.Core.List.{List}
use lib.ListN.{length, get_or, take, drop, length-drop}
use native.Mathlib.Nat.{sub-zero}
use Rattle.types.specs.Number.{AllBytes, le, unsigned_at}
use Rattle.types.proofs.Numbers.{le_step, le_room, take_least}
use Rattle.types.proofs.number.unsigned_at.Goals as goal

-- before the first turn nothing is read
first_holds : (s : List ℕ) (at m : ℕ) → 0 ≡ le (take (m - m) (drop (at + m) s))
unfolding le
first_holds s at m =
    let z : m - m ≡ 0 = omega arith in
    rw z refl

-- after the last turn all is read
read_whole : (s : List ℕ) (at w m i : ℕ) → m ≡ min w (length s - at) → i ≤ 0 → le (take (m - i) (drop (at + i) s)) ≡ unsigned_at s at w
unfolding unsigned_at
read_whole s at w m i e h =
    let z : i ≡ 0 = omega arith in
    let k : m - i ≡ min w (length (drop at s)) = rw (z, e, length-drop at s) (sub-zero _) in
    let a : at + i ≡ at = omega arith in
    rw (k, a) (ap le (take_least w (drop at s)))

-- what is read so far leaves room for one byte more
room : (s : List ℕ) (at m i n : ℕ) → AllBytes s → 0 < i → m ≤ 8 → n ≡ le (take (m - i) (drop (at + i) s)) → n < 2 ^ 56
room s at m i n h p b e = rw e (le_room s at m i h p b)

pub loop-i-init : goal.loop-i-init
loop-i-init c = first_holds c.args.s.now c.args.at c.available-i.result

pub overflow_mul-n : goal.overflow_mul-n
overflow_mul-n c =
    let r = room c.args.s.now c.args.at c.available-i.result c.loop-i.i c.loop-i.n (λ i. (c.type_inv.s i).fits) c.loop-i-test.true (omega arith) c.loop-i.invariant in
    omega arith

pub overflow_add-n-in-loop-i : goal.overflow_add-n-in-loop-i
overflow_add-n-in-loop-i c =
    let r = room c.args.s.now c.args.at c.available-i.result c.loop-i.i c.loop-i.n (λ i. (c.type_inv.s i).fits) c.loop-i-test.true (omega arith) c.loop-i.invariant in
    omega (arith, c.type_inv.s (c.args.at + (c.loop-i.i - 1)))

pub loop-i-preserved : goal.loop-i-preserved
loop-i-preserved c =
    ap (λ x. x * 256 + get_or c.args.s.now (c.args.at + (c.loop-i.i - 1)) 0) c.loop-i.invariant
    ∙ le_step _ _ _ _ c.loop-i-test.true (omega arith) (omega arith)

pub returns : goal.returns
returns c = c.loop-i.invariant ∙ read_whole _ _ _ _ _ c.available-i.ensures c.loop-i-test.false
