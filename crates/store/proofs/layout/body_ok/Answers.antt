-- The form says which rooms are right; a string is held against its room by its length byte. Assumes nothing.
use Rattle.std.proofs.Common.{arith}
use Rattle.std.proofs.lemmas.Bool.Decides.{nat_tests}
use Rattle.store.specs.Layout.{is_text, room_ok, length_ok, unused_ok}
use Rattle.store.proofs.Layouts.{text_length_below}
use Rattle.store.proofs.layout.body_ok.Goals as goal

pub overflow_add-used : goal.overflow_add-used
overflow_add-used c =
    let g = c.args in
    omega (arith, c.text_length-used.ensures, text_length_below g.s.now g.a (c.type_inv.s g.a.offset).fits)

pub returns-then-w-le16 : goal.returns-then-w-le16
unfolding room_ok length_ok unused_ok is_text
returns-then-w-le16 c = grind (arith, nat_tests)

pub returns-else-w-le16 : goal.returns-else-w-le16
unfolding room_ok
returns-else-w-le16 c = grind (arith, nat_tests)

pub returns-then-used-room : goal.returns-then-used-room
unfolding room_ok length_ok unused_ok is_text
returns-then-used-room c = grind (arith, nat_tests)

pub returns-else-used-room : goal.returns-else-used-room
unfolding room_ok length_ok is_text
returns-else-used-room c = grind (arith, nat_tests)

pub returns-in_default : goal.returns-in_default
unfolding room_ok
returns-in_default c = grind (arith, nat_tests)
