-- Four numbers, one behind the other. Assumes nothing.
use native.Mathlib.Nat.{mod-eq_of_lt}
use native.Mathlib.Omega.{arith}
use Prim.Native.Nat.{◌+◌}
use Rattle.std.specs.Int.{from_bool}
use mathlib.Core.Path.{◌≡◌, refl, sym, ap, ◌∙◌}
use mathlib.Core.Bool.{Bool, true, false}
use lib.ListN.{set}
use Rattle.types.specs.Number.{bytes_of}
use Rattle.reporting.specs.Carried.{if_marked}
use Rattle.reporting.proofs.CarriageEntry.{told_below}
use Rattle.saved.proofs.Places.{body_puts}
use Rattle.saved.proofs.form.write_body.Goals as goal

-- a truth value is 1 or 0
byte_of : (told : Bool) → from_bool told ≡ if_marked told 1
byte_of true = refl
byte_of false = refl

pub returns : goal.returns
unfolding bytes_of
returns c =
    let s = c.args in
    let g = s.config in
    let noted = set c.put_u64_in.new.bytes (s.at + 12) in
    body_puts s.at g.min_interval g.max_interval g.reportable_change (if_marked g.unsigned 1)
    s.saved.now c.put_u16_in.new.bytes c.put_u16_in-2.new.bytes c.put_u64_in.new.bytes _
    c.put_u16_in.ensures c.put_u16_in-2.ensures c.put_u64_in.ensures (ap noted (byte_of g.unsigned ∙ sym (mod-eq_of_lt (told_below g.unsigned 1 256 (omega arith)))))
