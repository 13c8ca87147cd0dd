-- Forms under two limits (specs/Claims/Limits.antt): only the count is held to the limit. Assumes nothing.
use mathlib.Core.Path.{◌≡◌, refl, sym, ap, ◌∙◌}
use mathlib.Core.Bool.{Bool, true, false, ◌&&◌}
use mathlib.Core.List.{List}
use Prim.Native.Nat.{ℕ, ◌≤◌}
use native.Mathlib.Omega.{arith}
use lib.ListN.{length}
use lib.Dec.{leb, eqb}
use borrow.Author.Tests.{le-leb, lt-leb, leb-true}
use Rattle.types.specs.Number.{le, bytes_of}
use Rattle.reporting.specs.Entries.{distinct}
use Rattle.reporting.specs.Table.{capacity}
use Rattle.reporting.specs.Carried.{laid, numbers_in, rows_laid, rows_in, count_in, table_bytes}
use Rattle.saved.specs.Saved.{Form, marked, saved_size, contents_from, saved_bytes, all_set, is_savable, rows_of, bodies_of, entries_from, saved_in, follow_on, marks_ok, is_laid, is_saved, form_in}
use Rattle.saved.specs.Claims.Limits.{FormUnderLimits, FormAboveLimit, SixteenKeepBytes, OldBox}
use Rattle.saved.proofs.RoundTrip.{form_back}

-- bytes are a form under a limit as the test of their count says, and whatever is asked of them besides
by_count : (f : Form) (limit : ℕ) (bs : List ℕ) (b : Bool) → leb (count_in bs) limit ≡ b
    → is_saved f limit bs
    ≡ ((b && (eqb (length bs) (saved_size f (count_in bs)) && (follow_on f (count_in bs) 0 (rows_of f bs) && marks_ok (bodies_of f bs)))) && is_savable (saved_in f bs))
unfolding is_saved is_laid
by_count f limit bs b e =
    ap (λ (c : Bool). (c && (eqb (length bs) (saved_size f (count_in bs)) && (follow_on f (count_in bs) 0 (rows_of f bs) && marks_ok (bodies_of f bs)))) && is_savable (saved_in f bs)) e

pub form_under_limits : FormUnderLimits
form_under_limits f small large bs few order =
    by_count f small bs true (le-leb (count_in bs) small few) ∙ sym (by_count f large bs true (le-leb (count_in bs) large (omega arith)))

pub form_above_limit : FormAboveLimit
form_above_limit limit form bs many size =
    let none : is_saved (form_in form) limit form ≡ false = by_count (form_in form) limit form false (lt-leb (count_in form) limit many) in
    rw (size, none) refl

-- what is a form has a count within the limit
count_within : (f : Form) (limit : ℕ) (bs : List ℕ) → is_saved f limit bs ≡ true → count_in bs ≤ limit
count_within f limit bs h = go (leb (count_in bs) limit) refl
  where
    go : (b : Bool) → leb (count_in bs) limit ≡ b → count_in bs ≤ limit
    go true e = leb-true (count_in bs) limit e
    go false e = let z : false ≡ true = sym (by_count f limit bs false e) ∙ h in let y : ◌≡◌ {A = ℕ} 0 1 = cc in absurd (omega arith)

pub sixteen_keep_bytes : SixteenKeepBytes
sixteen_keep_bytes bs h e = (sym (form_under_limits marked 16 capacity bs (count_within marked 16 bs e) (omega arith)) ∙ e, form_back 16 bs h e)

pub old_box : OldBox
unfolding le bytes_of laid numbers_in rows_laid rows_in contents_from saved_bytes distinct all_set entries_from saved_in follow_on marks_ok is_laid is_saved table_bytes
old_box = record { sixteen_then = refl; sixteen_now = refl; seventeen_then = refl; seventeen_now = refl; past_now = refl }
