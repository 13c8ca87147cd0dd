-- A command by its code: an arm for a code. Assumes nothing.
use mathlib.Core.Path.{sym}
use mathlib.Core.Bool.{false}
use mathlib.Core.List.{List, [], ◌∷◌}
use Prim.Native.Nat.{ℕ, zero, suc, ◌≤◌, ◌<◌}
use native.Mathlib.Omega.{arith}
use borrow.Author.Rules.{rules}
use Rattle.types.proofs.Finite.{NoneOf, by_rest}
use Rattle.frame.specs.CommandIdentifier.{command_of}
use Rattle.frame.proofs.Codes.{other_of}
use Rattle.frame.proofs.command_identifier.CommandIdentifierFromU8.from.Goals as goal

-- the codes below n, an arm for each, the last arm first
abbrev arms : ℕ → List (List ℕ)
arms zero = []
arms (suc n) = (n ∷ []) ∷ arms n

-- a code that no arm names lies behind the named ones
past_arms : (b : ℕ) → NoneOf (arms 14) b → 14 ≤ b
past_arms b o =
    let none : b < 14 → ⊥ = λ h. by_rest (λ k. false) (arms 14) 0 14 tt b (omega arith) h o in
    omega (arith, none)

pub returns-in-0 : goal.returns-in-0
unfolding command_of
returns-in-0 c = search rules

pub returns-in-1 : goal.returns-in-1
unfolding command_of
returns-in-1 c = search rules

pub returns-in-2 : goal.returns-in-2
unfolding command_of
returns-in-2 c = search rules

pub returns-in-3 : goal.returns-in-3
unfolding command_of
returns-in-3 c = search rules

pub returns-in-4 : goal.returns-in-4
unfolding command_of
returns-in-4 c = search rules

pub returns-in-5 : goal.returns-in-5
unfolding command_of
returns-in-5 c = search rules

pub returns-in-6 : goal.returns-in-6
unfolding command_of
returns-in-6 c = search rules

pub returns-in-7 : goal.returns-in-7
unfolding command_of
returns-in-7 c = search rules

pub returns-in-8 : goal.returns-in-8
unfolding command_of
returns-in-8 c = search rules

pub returns-in-9 : goal.returns-in-9
unfolding command_of
returns-in-9 c = search rules

pub returns-in-10 : goal.returns-in-10
unfolding command_of
returns-in-10 c = search rules

pub returns-in-11 : goal.returns-in-11
unfolding command_of
returns-in-11 c = search rules

pub returns-in-12 : goal.returns-in-12
unfolding command_of
returns-in-12 c = search rules

pub returns-in-13 : goal.returns-in-13
unfolding command_of
returns-in-13 c = search rules

pub returns-in_default : goal.returns-in_default
returns-in_default c = sym (other_of _ (past_arms _ c.in_default.in_default-own.rest))
