-- `configuration::put_setting` meets its contract: nine bytes and the change cut to its width, in one run. Assumes nothing.
use mathlib.Core.Path.{sym, ap, subst}
use Prim.Native.Nat.{ℕ, ◌+◌, ◌≤◌}
use native.Mathlib.Omega.{arith}
use lib.Seq.{length-take-le}
use Rattle.frame.specs.Inside.Buffer.{put}
use Rattle.configure.proofs.Widths.{width_least}
use Rattle.configure.proofs.Encodings.{setting_bytes}
use Rattle.configure.proofs.configuration.put_setting.Goals as goal

pub overflow_add-end : goal.overflow_add-end
overflow_add-end c =
    let enough : c.change_width-end.result ≤ 8 = subst (λ (k : ℕ). k ≤ 8) (sym c.change_width-end.ensures) (width_least c.args.type_id.0) in
    omega (arith, enough)

pub slice_bounds-all-end : goal.slice_bounds-all-end
slice_bounds-all-end c =
    let enough : c.change_width-end.result ≤ 8 = subst (λ (k : ℕ). k ≤ 8) (sym c.change_width-end.ensures) (width_least c.args.type_id.0) in
    omega (arith, enough)

pub slice_bounds-put_run-end : goal.slice_bounds-put_run-end
slice_bounds-put_run-end c =
    let enough : c.change_width-end.result ≤ 8 = subst (λ (k : ℕ). k ≤ 8) (sym c.change_width-end.ensures) (width_least c.args.type_id.0) in
    sym (length-take-le _ _ (omega (arith, enough)))

pub returns : goal.returns
returns c =
    let a = c.args in
    rw (c.put_run.ensures, c.to_le_bytes.ensures, c.to_le_bytes-2.ensures, c.to_le_bytes-3.ensures)
    (ap (put a.reply.now a.out) (setting_bytes a.direction a.id.0 a.type_id.0 a.config c.le_bytes.result _ c.le_bytes.ensures (ap (λ (k : ℕ). 9 + k) c.change_width-end.ensures)))
