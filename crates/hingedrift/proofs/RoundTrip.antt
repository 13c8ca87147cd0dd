-- The saved form towards C: what its two calls leave (specs/Claims/Left.antt), and both ways (specs/Claims/RoundTrip.antt). Assumes nothing.
use Rattle.std.specs.Prelude.{Err, Ok}
use mathlib.Core.Path.{◌≡◌, refl, sym, ap, ◌∙◌}
use mathlib.Core.Bool.{Bool, true, false, cond}
use mathlib.Core.List.{List, []}
use Prim.Native.Nat.{ℕ, ◌^◌, ◌≤◌, ◌<◌}
use native.Mathlib.Omega.{arith}
use lib.ListN.{length, take}
use lib.Dec.{leb}
use borrow.Author.Tests.{leb-true, le-leb}
use Rattle.types.specs.Number.{AllBytes}
use Rattle.frame.specs.declared.answer.Refusal.TheVariants.{ReplyTooLong, NotATable, NotASavedForm}
use Rattle.frame.specs.Reply.{padded}
use Rattle.frame.specs.Answer.{refusal_number, Outcome, no_state, replied, refused}
use Rattle.frame.proofs.Buffer.{take_padded}
use Rattle.reporting.specs.declared.entry.Entry.{Entry}
use Rattle.reporting.specs.Table.{capacity}
use Rattle.reporting.specs.Carried.{count_in, size_ok, table_in, table_bytes, is_table}
use Rattle.reporting.specs.Lent.{on_lent, left_as, ChangeLeft}
use Rattle.reporting.specs.Claims.RoundTrip.{AllClean}
use Rattle.reporting.proofs.Carriage.{both}
use Rattle.reporting.proofs.CarriageTable.{table_is, table_back, table_clean, table_count}
use Rattle.reporting.proofs.CarriageLoops.{known_count}
use Rattle.saved.specs.Saved.{marked, plain, saved_size, saved_bytes, is_savable, saved_in, is_laid, is_saved, form_in}
use Rattle.saved.specs.Lent.{save_lent, restore_lent}
use Rattle.saved.proofs.Forms.{saved_count}
use Rattle.saved.proofs.RoundTrip.{saved_is, saved_back, form_back}
use Rattle.saved.proofs.Widths.{own_clean}
use Rattle.saved.proofs.Demand3.{saved_small}
use Rattle.saved.proofs.Lending.{saved_length}
use Rattle.server.proofs.Says.{Says, sends, declines, says_either, says_clears, says_zeros, says_long}
use Rattle.hingedrift.specs.Tables.{Left, left, no_result}
use Rattle.hingedrift.specs.Serving.{handed}
use Rattle.hingedrift.specs.Saving.{save_left, restore_left}
use Rattle.hingedrift.specs.Claims.Left.{HdSaveClears, HdSaveThenZeros, HdSaveLength, HdRestoreStays, HdRestoreLeavesTable, HdRestoreEmpties}
use Rattle.hingedrift.specs.Claims.RoundTrip.{HdSaveRestore, HdRestoreSave, HdRestoreSaveOld}

-- ---- what a save leaves

module _ (bs : List ℕ) (room : ℕ) where
  fits_says : (l : List Entry) (b : Bool) → leb (length (saved_bytes marked l)) room ≡ b → Says [] room (cond b (replied room (saved_bytes marked l) no_state) (refused room ReplyTooLong no_state))
  fits_says l true e = sends (saved_bytes marked l) (leb-true _ _ e) refl
  fits_says l false e = declines ReplyTooLong refl

  save_says : Says [] room (save_left bs room)
  unfolding save_lent on_lent
  save_says =
      says_either [] room (is_table capacity bs) _ _
      (says_either [] room (is_savable (table_in bs)) _ _ (fits_says (table_in bs) (leb (length (saved_bytes marked (table_in bs))) room) refl) (declines NotASavedForm refl))
      (declines NotATable refl)

pub hd_save_clears : HdSaveClears
hd_save_clears bs size = says_clears [] size _ (save_says bs size)

pub hd_save_then_zeros : HdSaveThenZeros
hd_save_then_zeros bs size = says_zeros [] size _ (save_says bs size)

pub hd_save_length : HdSaveLength
hd_save_length bs size = says_long [] size _ (save_says bs size)

-- ---- what a restore leaves

-- by the table's size and by whether the bytes are a saved form
by : List ℕ → List ℕ → Bool → Bool → ChangeLeft
by was form sized saved =
    cond sized (cond saved (left_as (Ok true) (table_bytes capacity (saved_in (form_in form) form))) (left_as (Err NotASavedForm) (table_bytes capacity []))) (left_as (Err NotATable) was)

as_left : ChangeLeft → Left (Unit {0})
as_left x = left x.told.number x.bytes no_result

module _ (was form : List ℕ) where
  restore_by : (a b : Bool) → size_ok capacity was ≡ a → is_saved (form_in form) capacity form ≡ b → restore_left was form ≡ as_left (by was form a b)
  unfolding restore_lent by as_left
  restore_by a b p q = λ i. as_left (by was form (p i) (q i))

  table-left : AllBytes form → (b : Bool) → is_saved (form_in form) capacity form ≡ b → is_table capacity (as_left (by was form true b)).table ≡ true
  unfolding by as_left
  table-left h true s = table_is capacity (saved_in (form_in form) form) (saved_small capacity form s) (own_clean form h)
  table-left h false s = table_is capacity [] (omega arith) tt

  emptied : (a b : Bool) → (as_left (by was form a b)).number ≡ refusal_number NotASavedForm → (as_left (by was form a b)).table ≡ table_bytes capacity []
  unfolding by as_left
  emptied true true e = absurd (omega (arith, e))
  emptied true false e = refl
  emptied false b e = absurd (omega (arith, e))

  -- it gave 0 over bytes of a table's size, and the bytes were a saved form
  given : (table : List ℕ) (a b : Bool) → is_saved (form_in form) capacity form ≡ b → left 0 table no_result ≡ as_left (by was form a b) → (is_saved (form_in form) capacity form ≡ true) × (table ≡ table_bytes capacity (saved_in (form_in form) form))
  unfolding by as_left
  given table true true s e = (s, ap (λ (x : Left (Unit {0})). x.table) e)
  given table true false s e = let z : ◌≡◌ {A = ℕ} 0 13 = ap (λ (x : Left (Unit {0})). x.number) e in absurd (omega (arith, z))
  given table false b s e = let z : ◌≡◌ {A = ℕ} 0 8 = ap (λ (x : Left (Unit {0})). x.number) e in absurd (omega (arith, z))

pub hd_restore_stays : HdRestoreStays
unfolding by as_left
hd_restore_stays was form p = restore_by was form false (is_saved (form_in form) capacity form) p refl

pub hd_restore_leaves_table : HdRestoreLeavesTable
hd_restore_leaves_table was form h p = ap (λ (x : Left (Unit {0})). is_table capacity x.table) (restore_by was form true (is_saved (form_in form) capacity form) p refl) ∙ table-left was form h (is_saved (form_in form) capacity form) refl

pub hd_restore_empties : HdRestoreEmpties
hd_restore_empties was form e =
    let w = restore_by was form (size_ok capacity was) (is_saved (form_in form) capacity form) refl refl in
    ap (λ (x : Left (Unit {0})). x.table) w ∙ emptied was form (size_ok capacity was) (is_saved (form_in form) capacity form) (sym (ap (λ (x : Left (Unit {0})). x.number) w) ∙ e)

-- ---- both ways

-- by whether the bytes are a table, whether it is written, and whether the form fits
saves : List ℕ → ℕ → Bool → Bool → Bool → Outcome (Unit {0})
saves bs room known written fits =
    cond known
    (cond written (cond fits (replied room (saved_bytes marked (table_in bs)) no_state) (refused room ReplyTooLong no_state)) (refused room NotASavedForm no_state))
    (refused room NotATable no_state)

-- a save that gave 0
record Saved (bs : List ℕ) (room used : ℕ) (buffer : List ℕ) : Type 0 where
  table : is_table capacity bs ≡ true
  written : is_savable (table_in bs) ≡ true
  size : used ≡ length (saved_bytes marked (table_in bs))
  bytes : buffer ≡ padded room (saved_bytes marked (table_in bs))

module _ (bs : List ℕ) (room : ℕ) where
  save_by : (a b c : Bool) → is_table capacity bs ≡ a → is_savable (table_in bs) ≡ b → leb (length (saved_bytes marked (table_in bs))) room ≡ c → save_left bs room ≡ saves bs room a b c
  unfolding save_lent on_lent saves
  save_by a b c p q r = λ i. saves bs room (p i) (q i) (r i)

  save_given : (used : ℕ) (buffer : List ℕ) (a b c : Bool) → is_table capacity bs ≡ a → is_savable (table_in bs) ≡ b → handed 0 used buffer no_state ≡ saves bs room a b c → Saved bs room used buffer
  unfolding saves
  save_given used buffer true true true p q e =
      record { table = p; written = q; size = ap (λ (o : Outcome (Unit {0})). o.size) e; bytes = ap (λ (o : Outcome (Unit {0})). o.reply) e }
  save_given used buffer true true false p q e = let z : ◌≡◌ {A = ℕ} 0 5 = ap (λ (o : Outcome (Unit {0})). o.number) e in absurd (omega (arith, z))
  save_given used buffer true false c p q e = let z : ◌≡◌ {A = ℕ} 0 13 = ap (λ (o : Outcome (Unit {0})). o.number) e in absurd (omega (arith, z))
  save_given used buffer false b c p q e = let z : ◌≡◌ {A = ℕ} 0 8 = ap (λ (o : Outcome (Unit {0})). o.number) e in absurd (omega (arith, z))

-- offsets have two bytes
small : saved_size marked capacity < 2 ^ 16
small = omega arith

pub hd_save_restore : HdSaveRestore
unfolding by as_left
hd_save_restore bs room used buffer was h e sized =
    let l : List Entry = table_in bs in
    let o = save_given bs room used buffer (is_table capacity bs) (is_savable l) (leb (length (saved_bytes marked l)) room) refl refl (e ∙ save_by bs room _ _ _ refl refl refl) in
    let n : length l ≤ capacity = omega (arith, table_count bs, known_count bs o.table) in
    let clean : AllClean l = table_clean capacity bs h o.table in
    let form : take used buffer ≡ saved_bytes marked l = (λ i. take (o.size i) (o.bytes i)) ∙ take_padded room (saved_bytes marked l) in
    ap (restore_left was) form
    ∙ restore_by was (saved_bytes marked l) true true sized (saved_is capacity l small n clean o.written)
    ∙ ap (λ (m : List Entry). left 0 (table_bytes capacity m) no_result) (saved_back capacity l small n clean)

-- what was read is written: its entries, with marks
saved_again : (was form table : List ℕ) (room : ℕ) → AllBytes form → left 0 table no_result ≡ restore_left was form → length (saved_bytes marked (saved_in (form_in form) form)) ≤ room
    → replied room (saved_bytes marked (saved_in (form_in form) form)) no_state ≡ save_left table room
unfolding is_saved saves
saved_again was form table room h e k =
    let w = given was form table (size_ok capacity was) (is_saved (form_in form) capacity form) refl (e ∙ restore_by was form _ _ refl refl) in
    let l : List Entry = saved_in (form_in form) form in
    let n : length l ≤ capacity = saved_small capacity form w.0 in
    let clean : AllClean l = own_clean form h in
    let same : table_in table ≡ l = ap table_in w.1 ∙ table_back capacity l n clean in
    let bytes : saved_bytes marked (table_in table) ≡ saved_bytes marked l = ap (saved_bytes marked) same in
    let fits : leb (length (saved_bytes marked (table_in table))) room ≡ true = le-leb _ room (omega (arith, ap length bytes, k)) in
    let savable : is_savable (table_in table) ≡ true = ap is_savable same ∙ (both (is_laid (form_in form) capacity form) (is_savable l) w.0).1 in
    sym
    (save_by table room true true true (ap (is_table capacity) w.1 ∙ table_is capacity l n clean) savable fits
    ∙ ap (λ (b : List ℕ). replied room b no_state) bytes)

-- where a restore gave 0, the bytes were a saved form
was_saved : (was form table : List ℕ) → left 0 table no_result ≡ restore_left was form → is_saved (form_in form) capacity form ≡ true
was_saved was form table e = (given was form table (size_ok capacity was) (is_saved (form_in form) capacity form) refl (e ∙ restore_by was form _ _ refl refl)).0

pub hd_restore_save : HdRestoreSave
hd_restore_save was form table room h own e k =
    let is : is_saved marked capacity form ≡ true = ap (λ f. is_saved f capacity form) (sym own) ∙ was_saved was form table e in
    let back : saved_bytes marked (saved_in (form_in form) form) ≡ form = ap (λ f. saved_bytes marked (saved_in f form)) own ∙ form_back capacity form h is in
    ap (λ (b : List ℕ). replied room b no_state) (sym back) ∙ saved_again was form table room h e (omega (arith, ap length back, k))

pub hd_restore_save_old : HdRestoreSaveOld
hd_restore_save_old was form table room h own e k =
    let l : saved_bytes marked (saved_in (form_in form) form) ≡ saved_bytes marked (saved_in plain form) = ap (λ f. saved_bytes marked (saved_in f form)) own in
    let n : length (saved_bytes marked (saved_in plain form)) ≡ saved_size marked (count_in form) = saved_length (saved_in plain form) ∙ ap (saved_size marked) (saved_count false form) in
    (λ i. handed 0 (sym n i) (padded room (saved_bytes marked (saved_in plain form))) no_state)
    ∙ ap (λ (b : List ℕ). replied room b no_state) (sym l)
    ∙ saved_again was form table room h e (omega (arith, ap length l, n, k))
