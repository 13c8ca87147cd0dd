-- The length byte is read, and what it counts is held against the room. Assumes nothing.
use mathlib.Core.Path.{◌≡◌, sym, ◌∙◌}
use mathlib.Core.Bool.{true, false}
use Rattle.types.proofs.Numbers.{one_byte}
use Rattle.types.proofs.Extents.{count_mark, count_plain}
use Rattle.store.specs.Layout.{is_text}
use Prim.Native.Nat.{ℕ, ◌+◌}
use mathlib.Core.Path.{refl}
use mathlib.Core.List.{List}
use lib.Dec.{ltb}
use Rattle.types.specs.Extent.{count}
use Rattle.store.specs.declared.lookup.Attribute.{Attribute}
use Rattle.store.specs.Write.{too_long}
use Rattle.store.proofs.write.too_long.Goals as goal

-- only a string can be too long: by its length byte and what that counts
long_other : (a : Attribute) (v : List ℕ) → is_text a ≡ false → false ≡ too_long a v
unfolding too_long
long_other a v h = rw h refl

long_text : (a : Attribute) (v : List ℕ) (n : ℕ) → is_text a ≡ true → n ≡ count 1 v 0 → ltb a.room (1 + n) ≡ too_long a v
unfolding too_long
long_text a v n h e = rw (h, e) refl

pub returns-then-not-is_text : goal.returns-then-not-is_text
returns-then-not-is_text c = long_other c.args.a c.args.value.now (sym c.is_text.ensures ∙ c.if-not-is_text.true)

pub returns-then-n : goal.returns-then-n
returns-then-n c =
    let text : is_text c.args.a ≡ true = sym c.is_text.ensures ∙ c.if-not-is_text.false in
    long_text c.args.a c.args.value.now 0 text
    (count_mark 1 c.args.value.now 0 _ (c.byte_at-n.ensures ∙ one_byte c.args.value.now 0) c.if-n.true)

pub returns : goal.returns
returns c =
    let text : is_text c.args.a ≡ true = sym c.is_text.ensures ∙ c.if-not-is_text.false in
    long_text c.args.a c.args.value.now _ text
    (count_plain 1 c.args.value.now 0 _ (c.byte_at-n.ensures ∙ one_byte c.args.value.now 0) c.if-n.false)
