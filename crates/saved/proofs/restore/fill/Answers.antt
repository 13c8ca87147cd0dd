-- After i turns the table has the first i entries of the form. Assumes nothing.
use native.Mathlib.Omega.{arith}
use Prim.Native.Nat.{◌+◌, ◌*◌}
use mathlib.Core.Path.{◌≡◌, ap, subst, ◌∙◌}
use mathlib.Core.Bool.{Bool}
use lib.ListN.{length, drop, length-set}
use lib.Dec.{eqb}
use Rattle.reporting.specs.Table.{capacity}
use Rattle.reporting.specs.Carried.{numbers_in, count_in, table_bytes}
use Rattle.reporting.specs.Claims.RoundTrip.{AllClean}
use Rattle.reporting.proofs.CarriageLoops.{empty_length}
use Rattle.saved.specs.Saved.{form_of, marked, row_of, offset_at, saved_size, entry_from}
use Rattle.saved.proofs.Places.{place_there, rows_before}
use Rattle.saved.proofs.Forms.{laid_so, entry_at, fill_turn, clean_turn, all_filled}
use Rattle.saved.proofs.restore.fill.Goals as goal

pub loop-i-init : goal.loop-i-init
loop-i-init c = record { size = ap length c.requires.0 ∙ empty_length; first = c.requires.0; clean = tt }

pub bounds-saved-0 : goal.bounds-saved-0
bounds-saved-0 c = omega (arith, (laid_so (eqb (length c.args.saved.now) (saved_size marked (count_in c.args.saved.now))) c.args.saved.now capacity c.requires.1).size)

pub has_marks-with_marks-requires : goal.has_marks-with_marks-requires
has_marks-with_marks-requires c = (laid_so (eqb (length c.args.saved.now) (saved_size marked (count_in c.args.saved.now))) c.args.saved.now capacity c.requires.1).count

pub body_at-at-requires : goal.body_at-at-requires
body_at-at-requires c = let n = (laid_so (eqb (length c.args.saved.now) (saved_size marked (count_in c.args.saved.now))) c.args.saved.now capacity c.requires.1).count in (n, omega (arith, n, c.loop-i-test.true))

pub entry_in-e-requires : goal.entry_in-e-requires
entry_in-e-requires c =
    let m : Bool = eqb (length c.args.saved.now) (saved_size marked (count_in c.args.saved.now)) in
    let l = laid_so m c.args.saved.now capacity c.requires.1 in
    let k = count_in c.args.saved.now in (
      omega (arith, l.size, rows_before m k, c.loop-i-test.true),
      place_there m c.has_marks-with_marks.result k c.loop-i.i c.body_at-at.result (length c.args.saved.now) c.has_marks-with_marks.ensures c.body_at-at.ensures c.loop-i-test.true l.size,
    )

pub write_slot-requires : goal.write_slot-requires
write_slot-requires c = omega (arith, (laid_so (eqb (length c.args.saved.now) (saved_size marked (count_in c.args.saved.now))) c.args.saved.now capacity c.requires.1).count, c.loop-i.invariant.size)

pub loop-i-preserved : goal.loop-i-preserved
loop-i-preserved c =
    let bs = c.args.saved.now in
    let m : Bool = eqb (length bs) (saved_size marked (count_in bs)) in
    let i = c.loop-i.i in
    let h = c.loop-i-test.true in
    let e = c.entry_in-e in
    let w = c.write_slot in
    let placed : c.body_at-at.result ≡ offset_at (form_of m) (count_in bs) i = c.body_at-at.ensures ∙ ap (λ (b : Bool). offset_at (form_of b) (count_in bs) i) c.has_marks-with_marks.ensures in
    let told : e.result ≡ entry_at m bs i = e.ensures ∙ (λ j. entry_from (numbers_in (row_of marked) (drop (1 + 6 * i) bs)) (numbers_in (form_of (c.has_marks-with_marks.ensures j)).bodies (drop (placed j) bs))) in
    record {
      size = length-set w.new.bytes 0 (i + 1) ∙ w.auto.bytes ∙ c.loop-i.invariant.size;
      first = fill_turn m bs i h e.result told (laid_so m bs capacity c.requires.1).count c.loop-i.table w.new.bytes c.loop-i.invariant.first w.ensures.bytes_after;
      clean = clean_turn m bs i h e.result told c.loop-i.invariant.clean w.ensures.clean;
    }

pub returns : goal.returns
returns c =
    let bs = c.args.saved.now in
    let all = all_filled (eqb (length bs) (saved_size marked (count_in bs))) bs c.loop-i.i c.loop-i-test.false in
    record { table_after = c.loop-i.invariant.first ∙ ap (table_bytes capacity) all; all_clean = subst AllClean all c.loop-i.invariant.clean }
