-- The numbers that are read from bytes are within their widths. Assumes nothing.
use Prim.Native.Nat.{ℕ, zero, suc}
use mathlib.Core.Bool.{Bool, true, false}
use mathlib.Core.List.{List}
use lib.ListN.{length, drop}
use lib.Dec.{eqb}
use Rattle.types.specs.Number.{AllBytes}
use Rattle.types.proofs.Numbers.{bytes_drop}
use Rattle.reporting.specs.Carried.{numbers_in, rows_in, count_in}
use Rattle.reporting.specs.Claims.RoundTrip.{AllClean}
use Rattle.reporting.proofs.Carriage.{within_numbers}
use Rattle.reporting.proofs.Lending.{fresh_clean}
use Rattle.saved.specs.Saved.{form_of, marked, row_of, body_bytes, offset_at, saved_size, entries_from, saved_in, form_in}

-- each entry has its one form: the numbers are within their widths, and there is no report
entries_clean : (with : Bool) (m : ℕ) (x y : List ℕ) → AllBytes x → AllBytes y → AllClean (entries_from (rows_in (row_of marked) m x) (rows_in (form_of with).bodies m y))
unfolding entries_from rows_in numbers_in
entries_clean with zero x y h k = tt
entries_clean true (suc m) x y h k =
    let r = within_numbers (row_of marked) x h in
    let b = within_numbers (form_of true).bodies y k in (
      fresh_clean _ _ r.0 r.1.0 b.0 b.1.0 b.1.1.0,
      entries_clean true m (drop 6 x) (drop (body_bytes (form_of true)) y) (bytes_drop x 6 h) (bytes_drop y (body_bytes (form_of true)) k),
    )
entries_clean false (suc m) x y h k =
    let r = within_numbers (row_of marked) x h in
    let b = within_numbers (form_of false).bodies y k in (
      fresh_clean _ _ r.0 r.1.0 b.0 b.1.0 b.1.1.0,
      entries_clean false m (drop 6 x) (drop (body_bytes (form_of false)) y) (bytes_drop x 6 h) (bytes_drop y (body_bytes (form_of false)) k),
    )

pub saved_clean : (with : Bool) (bs : List ℕ) → AllBytes bs → AllClean (saved_in (form_of with) bs)
unfolding saved_in
saved_clean with bs h =
    entries_clean with (count_in bs) (drop 1 bs) (drop (offset_at (form_of with) (count_in bs) 0) bs) (bytes_drop bs 1 h) (bytes_drop bs (offset_at (form_of with) (count_in bs) 0) h)

-- in the form that they have
pub own_clean : (bs : List ℕ) → AllBytes bs → AllClean (saved_in (form_in bs) bs)
own_clean bs h = saved_clean (eqb (length bs) (saved_size marked (count_in bs))) bs h
