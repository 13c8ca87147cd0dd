-- A failure is three bytes. Assumes nothing.
use mathlib.Core.Path.{◌∙◌}
use Rattle.types.specs.Number.{bytes_of}
use Rattle.write.specs.Reply.{encode}
use Rattle.write.proofs.pass.note.Goals as goal

pub returns : goal.returns
unfolding encode bytes_of
returns c = c.list_failure.ensures ∙ rw (c.from.ensures, c.to_le_bytes.ensures)
