use native.Mathlib.Omega.{arith}
use mathlib.Core.Path.{◌≡◌}
use Prim.Native.Nat.{ℕ}
use Rattle.std.proofs.Common.{rules}
use borrow.Author.Count.{below_more}
use Rattle.store.proofs.lookup.place.Goals as goal

pub loop-i-preserved : goal.loop-i-preserved
loop-i-preserved g c = below_more (λ k. (r : ℕ) × goal.F-post g c.args.name k r × (r ≡ c.args.wanted → ⊥)) _ c.loop-i.invariant (c.name.result, (search rules), c.if-name-wanted.false)

pub returns-clause-passed : goal.returns-clause-passed
returns-clause-passed g c = λ k h. c.loop-i.invariant k (omega arith)
