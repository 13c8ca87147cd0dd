-- `header::write_response_header` meets its contract: the third byte is the command's code. Assumes nothing.
use mathlib.Core.Path.{ap, ◌∙◌}
use mathlib.Core.List.{[], ◌∷◌}
use Prim.Native.Nat.{ℕ}
use Rattle.frame.specs.Header.{reply_head}
use Rattle.frame.specs.Inside.Buffer.{put}
use Rattle.frame.proofs.header.write_response_header.Goals as goal

pub returns : goal.returns
unfolding reply_head
returns c =
    let a = c.args in
    c.put_run.ensures
    ∙ ap (λ (k : ℕ). put a.reply.now 0 (0x18 ∷ a.request.sequence_number ∷ k ∷ [])) c.from.ensures
