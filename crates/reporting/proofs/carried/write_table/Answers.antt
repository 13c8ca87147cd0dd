-- After i turns the bytes are the count, the first i slots, and zeros. Assumes nothing.
use borrow.Author.Rules.{rules}
use native.Mathlib.Omega.{arith}
use Prim.Native.Nat.{ℕ, ◌<◌}
use mathlib.Core.Path.{◌≡◌, sym, ap, subst, ◌∙◌}
use mathlib.Core.Bool.{false≢true}
use mathlib.Core.List.{map}
use lib.ListN.{length, take}
use lib.Seq.{length-take-le}
use Rattle.reporting.specs.Table.{capacity}
use Rattle.reporting.specs.Carried.{quieted, read_t}
use Rattle.reporting.specs.Claims.RoundTrip.{AllClean}
use Rattle.reporting.proofs.CarriageTable.{quieted_read}
use Rattle.reporting.proofs.Slots.{length_mapped}
use Rattle.reporting.proofs.CarriageLoops.{cleared_length, filled_start, filled_turn, clean_turn, filled_all, write_sized, write_counted, write_done}
use Rattle.reporting.proofs.carried.write_table.Goals as goal

pub returns-then-bytes-ne-TABLE_BYTES : goal.returns-then-bytes-ne-TABLE_BYTES
returns-then-bytes-ne-TABLE_BYTES c = record { bytes_after = write_sized c.args.table c.args.bytes.now c.if-bytes-ne-TABLE_BYTES.true; read_back = λ q. absurd (false≢true q) }

pub returns-then-count-gt-LIMIT : goal.returns-then-count-gt-LIMIT
returns-then-count-gt-LIMIT c = record { bytes_after = write_counted c.args.table c.args.bytes.now c.if-bytes-ne-TABLE_BYTES.false c.if-count-gt-LIMIT.true; read_back = λ q. absurd (false≢true q) }

pub bounds-bytes-0 : goal.bounds-bytes-0
bounds-bytes-0 c =
    let k = c.clear in
    omega (arith, cleared_length c.args.bytes.now k.new.buffer c.if-bytes-ne-TABLE_BYTES.false k.ensures)

pub loop-i-init : goal.loop-i-init
loop-i-init c =
    let a = c.args in
    let k = c.clear in
    let f = filled_start a.table.count a.table.entries a.bytes.now k.new.buffer c.if-bytes-ne-TABLE_BYTES.false k.ensures in
    (f.0, (f.1, tt))

pub loop-i-preserved : goal.loop-i-preserved
loop-i-preserved c =
    let t = c.args.table in
    let n : length c.args.table.entries ≡ capacity = search (length_mapped, rules) in
    let l = c.loop-i in
    let h = c.loop-i-test.true in
    let w = c.write_slot in
    let below : l.i < capacity = omega (arith, c.if-count-gt-LIMIT.false) in
    let f = filled_turn t.count t.entries l.i _ l.bytes w.new.bytes n below l.invariant.0 l.invariant.1.0 w.ensures.bytes_after in
    (f.0, (f.1, clean_turn t.entries l.i _ (omega arith) l.invariant.1.1 w.ensures.clean))

pub shape_of-bytes : goal.shape_of-bytes
shape_of-bytes c = c.loop-i.invariant.0 ∙ sym c.if-bytes-ne-TABLE_BYTES.false

pub returns : goal.returns
returns c =
    let l = c.loop-i in
    let t = c.args.table in
    let n : length c.args.table.entries ≡ capacity = search (length_mapped, rules) in
    let small = c.if-count-gt-LIMIT.false in
    let e = l.invariant.1.0 ∙ filled_all t l.i n small (omega arith) c.loop-i-test.false in
    let i : l.i ≡ t.count = omega arith in record { bytes_after = write_done t c.args.bytes.now c.if-bytes-ne-TABLE_BYTES.false l.bytes small e; read_back = λ q. ap (read_t capacity) e ∙ quieted_read capacity (take t.count t.entries) (omega (arith, length-take-le t.count t.entries (omega arith))) (subst (λ (k : ℕ). AllClean (map quieted (take k t.entries))) i l.invariant.1.1) }
