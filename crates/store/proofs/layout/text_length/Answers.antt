-- The byte is the mark that counts nothing, or the count. Assumes nothing.
use mathlib.Core.Path.{◌∙◌}
use Rattle.std.proofs.Common.{rules}
use Rattle.types.proofs.Numbers.{one_byte}
use Rattle.types.proofs.Extents.{count_mark, count_plain}
use Rattle.store.proofs.layout.text_length.Goals as goal

pub returns-in-255 : goal.returns-in-255
returns-in-255 c =
    let a = c.args in
    count_mark 1 a.s.now a.a.offset _ (c.byte_at.ensures ∙ one_byte a.s.now a.a.offset) c.in-255.is

pub returns-in_default : goal.returns-in_default
returns-in_default c =
    let a = c.args in
    count_plain 1 a.s.now a.a.offset _ (c.byte_at.ensures ∙ one_byte a.s.now a.a.offset) (search rules)
