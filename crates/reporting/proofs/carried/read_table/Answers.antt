-- The entries below the count of bytes that are a table. Assumes nothing.
use native.Mathlib.Omega.{arith}
use mathlib.Core.Path.{◌≡◌, sym, ◌∙◌}
use mathlib.Core.Bool.{true}
use Rattle.reporting.specs.Table.{capacity}
use Rattle.reporting.specs.Carried.{is_table}
use Rattle.reporting.proofs.CarriageLoops.{known_size, known_count, read_none, read_all}
use Rattle.reporting.proofs.carried.read_table.Goals as goal

pub returns-then-not-is_table : goal.returns-then-not-is_table
returns-then-not-is_table c = read_none c.args.bytes.now (sym c.is_table.ensures ∙ c.if-not-is_table.true)

pub bounds-bytes-0 : goal.bounds-bytes-0
bounds-bytes-0 c =
    let known : is_table capacity c.args.bytes.now ≡ true = sym c.is_table.ensures ∙ c.if-not-is_table.false in
    omega (arith, known_size c.args.bytes.now known)

pub overflow_cast-count : goal.overflow_cast-count
overflow_cast-count c = omega (arith, c.type_inv.bytes 0)

pub read_slots-requires : goal.read_slots-requires
read_slots-requires c =
    let known : is_table capacity c.args.bytes.now ≡ true = sym c.is_table.ensures ∙ c.if-not-is_table.false in
    let k = known in
    (known_count c.args.bytes.now k, omega (arith, known_size c.args.bytes.now k))

pub returns : goal.returns
returns c =
    let known : is_table capacity c.args.bytes.now ≡ true = sym c.is_table.ensures ∙ c.if-not-is_table.false in
    c.read_slots.ensures ∙ read_all c.args.bytes.now known
