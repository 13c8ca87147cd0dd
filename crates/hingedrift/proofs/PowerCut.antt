-- A power cut (specs/Claims/PowerCut.antt), computed: the log after it meets all that demand 3 of a table just read in supposes. Assumes nothing.
use mathlib.Core.Path.{◌≡◌, refl, sym, subst}
use mathlib.Core.Logic.{inr}
use mathlib.Core.List.{List, [], ◌∷◌}
use native.Mathlib.Omega.{arith}
use Rattle.types.specs.Number.{all_zero, le, bytes_of, signed_of, residue}
use Rattle.frame.specs.Answer.{no_state}
use Rattle.frame.specs.Reply.{padded}
use Rattle.reporting.specs.Entries.{distinct}
use Rattle.reporting.specs.Due.{moved_by}
use Rattle.reporting.specs.Table.{capacity}
use Rattle.reporting.specs.Carried.{laid, numbers_in, rows_laid, rows_in, numbers_of, entry_of, is_slot, table_bytes, slots_in, table_in, are_slots, is_table}
use Rattle.reporting.specs.Lent.{on_lent, ask_lent, mark_lent}
use Rattle.reporting.specs.Claims.Events.{Event}
use Rattle.reporting.specs.Demand3.{asks_of, Supposed, Promised}
use Rattle.saved.specs.Saved.{contents_from, saved_bytes, all_set, entries_from, saved_in, follow_on, marks_ok, is_laid, is_saved}
use Rattle.saved.specs.Lent.{save_lent, restore_lent}
use Rattle.server.specs.Claims.Bench.{key}
use Rattle.server.specs.Claims.ServedHistory.{g}
use Rattle.server.specs.Claims.LogExample.{reported}
use Rattle.hingedrift.specs.Serving.{handed}
use Rattle.hingedrift.specs.Saving.{save_left}
use Rattle.hingedrift.specs.Claims.PowerCut.{form, memory, back, after, told, CutStands, RestoreStands, RestoreSupposed}
use Rattle.hingedrift.proofs.Logged.{demand_3_of_restored}
use Rattle.server.proofs.Bytes.{bytes_small}
use Rattle.hingedrift.proofs.LogExample.{log_stands}

-- what hd_save gave of attribute 5's entry
saved_so : handed 0 20 (padded 32 form) no_state ≡ save_left (table_bytes capacity (reported ∷ [])) 32
unfolding all_zero le bytes_of padded distinct laid numbers_in rows_laid rows_in numbers_of entry_of is_slot table_bytes slots_in table_in are_slots is_table on_lent contents_from saved_bytes all_set save_lent
saved_so = refl

-- up to the mark they are the first calls of the other log
pub cut_stands : CutStands
cut_stands =
    let l = log_stands.1 in
    (log_stands.0, (l.0, l.1, (l.2.0, l.2.1, (l.2.2.0, l.2.2.1, (tt, saved_so, tt)))))

pub restore_stands : RestoreStands
unfolding all_zero le bytes_of signed_of residue padded distinct moved_by laid numbers_in rows_laid rows_in numbers_of entry_of is_slot table_bytes slots_in table_in are_slots is_table on_lent ask_lent mark_lent all_set entries_from saved_in follow_on marks_ok is_laid is_saved restore_lent
restore_stands = (
  refl,
  (
    (bytes_small form refl, (λ e. omega (arith, e), refl)),
    (tt, refl, ((omega arith, omega arith), refl, (tt, refl, (tt, refl, tt)))),
  ),
)

pub restore_supposed : RestoreSupposed
unfolding le numbers_in rows_in entries_from saved_in
restore_supposed = (
  refl,
  (
    omega arith,
    (
      refl,
      record {
        undisturbed = tt;
        paced = (omega arith, omega arith, (omega arith, omega arith, tt));
        positive = omega arith;
        marked_asks = (refl, (refl, inr refl));
        not_before = refl;
      },
    ),
  ),
)

pub restore_promised : Promised g 59 (asks_of key told)
restore_promised =
    let s = restore_supposed.1.1 in
    subst (λ (es : List Event). Promised g 59 (asks_of key es)) s.0
    (demand_3_of_restored memory form back after key g 59 restore_stands.1.0 restore_stands.1.1 restore_supposed.0 restore_supposed.1.0
    (subst (Supposed key 59) (sym s.0) s.1))
