-- The counted codes, and each arm, hold for their codes by one computed test. Assumes nothing.
use Rattle.std.specs.Prelude.{None, Option, Some}
use Prim.Native.Nat.{ℕ}
use mathlib.Core.Path.{◌≡◌, refl, ap, sym, ◌∙◌}
use mathlib.Core.Bool.{Bool, false, ◌||◌}
use mathlib.Core.List.{List, [], ◌∷◌}
use native.Mathlib.Omega.{arith}
use Rattle.types.specs.Ids.{among, counted_width, size_of}
use Rattle.types.proofs.Sizes.{size_keys, size_run, size_kind, size_rest}
use Rattle.types.proofs.ids.TypeId.fixed_size.Goals as goal

-- the codes whose sizes are counted: those of the four families, and three more
abbrev counted : ℕ → Bool
counted t = among 0x18 0x31 t || among 0x08 0x10 t

abbrev count : ℕ → Option ℕ
count t = Some (counted_width t)

neither : (x y : Bool) → x ≡ false → y ≡ false → (x || y) ≡ false
neither x y e f = rw (e, f) refl

-- the codes that the arms name one by one
abbrev none : List ℕ
none = 0x00 ∷ []

abbrev twos : List ℕ
twos = 0x38 ∷ []

abbrev fours : List ℕ
fours = 0x39 ∷ 0xea ∷ []

abbrev eights : List ℕ
eights = 0x3a ∷ 0xf0 ∷ []

abbrev sixteen : List ℕ
sixteen = 0xf1 ∷ []

abbrev named : List (List ℕ)
named = sixteen ∷ eights ∷ fours ∷ twos ∷ none ∷ []

pub returns-then-among : goal.returns-then-among
unfolding size_of
returns-then-among c =
    ap Some c.counted_width.ensures
    ∙ size_kind (among 0x18 0x31) count 256 tt c.args.self.0 (omega arith) (sym c.among.ensures ∙ c.if-among.true)

pub returns-then-among-2 : goal.returns-then-among-2
unfolding size_of
returns-then-among-2 c =
    ap Some c.counted_width-then-among-2.ensures
    ∙ size_kind (among 0x08 0x10) count 256 tt c.args.self.0 (omega arith) (sym c.among-2.ensures ∙ c.if-among-2.true)

pub returns-in-0 : goal.returns-in-0
unfolding size_of
returns-in-0 c = size_keys (Some 0) none tt c.args.self.0 c.in-0.is

pub returns-in-58 : goal.returns-in-58
unfolding size_of
returns-in-58 c = size_keys (Some 8) eights tt c.args.self.0 c.in-58.is

pub returns-in-241 : goal.returns-in-241
unfolding size_of
returns-in-241 c = size_keys (Some 16) sixteen tt c.args.self.0 c.in-241.is

pub returns-in_default : goal.returns-in_default
unfolding size_of
returns-in_default c =
    let uncounted : counted c.args.self.0 ≡ false = neither _ _ (sym c.among.ensures ∙ c.if-among.false) (sym c.among-2.ensures ∙ c.if-among-2.false) in
    size_rest counted named 0 0xe0 tt c.args.self.0 (omega arith) (omega (arith, c.in_default.if-code-lt224-own.true)) c.in_default.in_default-own.rest uncounted

pub returns-in_default-2 : goal.returns-in_default-2
unfolding size_of
returns-in_default-2 c = size_run None 0xe3 5 tt c.args.self.0 (omega (arith, c.in_default.if-code-lt227-own.false)) (omega (arith, c.in_default.if-code-lt232-own.true))

pub returns-in_default-3 : goal.returns-in_default-3
unfolding size_of
returns-in_default-3 c =
    let uncounted : counted c.args.self.0 ≡ false = neither _ _ (sym c.among.ensures ∙ c.if-among.false) (sym c.among-2.ensures ∙ c.if-among-2.false) in
    size_rest counted named 0xea 22 tt c.args.self.0 (omega (arith, c.in_default.if-code-lt234-own.false)) (omega arith) c.in_default.in_default-own.rest uncounted

pub returns-in-57 : goal.returns-in-57
unfolding size_of
returns-in-57 c = size_keys (Some 4) fours tt c.args.self.0 c.in-57.is

pub returns-in-57-2 : goal.returns-in-57-2
unfolding size_of
returns-in-57-2 c = size_run (Some 4) 0xe0 3 tt c.args.self.0 (omega (arith, c.in-57.if-code-lt224-own.false)) (omega (arith, c.in-57.if-code-lt227-own.true))

pub returns-in-56 : goal.returns-in-56
unfolding size_of
returns-in-56 c = size_keys (Some 2) twos tt c.args.self.0 c.in-56.is

pub returns-in-56-2 : goal.returns-in-56-2
unfolding size_of
returns-in-56-2 c = size_run (Some 2) 0xe8 2 tt c.args.self.0 (omega (arith, c.in-56.if-code-lt232-own.false)) (omega (arith, c.in-56.if-code-lt234-own.true))
