-- Three numbers, one behind the other. Assumes nothing.
use native.Mathlib.Omega.{arith}
use Prim.Native.Nat.{◌+◌}
use Rattle.saved.proofs.Places.{three_puts}
use Rattle.saved.proofs.form.write_row.Goals as goal

pub returns : goal.returns
returns c =
    three_puts 2 2 2 c.args.at (c.args.at + 4) (omega arith) c.args.key.cluster.0 c.args.key.attribute.0 c.args.offset
    c.args.saved.now c.put_u16_in.new.bytes c.put_u16_in-2.new.bytes c.put_u16_in-3.new.bytes
    c.put_u16_in.ensures c.put_u16_in-2.ensures c.put_u16_in-3.ensures
