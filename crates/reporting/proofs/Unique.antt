-- No second answer fits a contract: what an answer tells says which answer it is, and what the contracts see of a table leaves
-- open only the slots past its count. Assumes nothing.
use Rattle.std.specs.Prelude.{Err, None, Ok, Option, Result, Some, is_some}
use mathlib.Core.Path.{◌≡◌, refl, sym, ap, ◌∙◌, subst}
use mathlib.Core.Logic.{⊎_elim}
use mathlib.Core.Bool.{Bool, true, false, cond, true≢false, false≢true}
use mathlib.Core.List.{List}
use Prim.Native.Nat.{ℕ}
use native.Mathlib.Omega.{arith}
use lib.Dec.{ltb}
use borrow.Author.Tests.{ltb-false}
use Rattle.types.specs.Number.{AllBytes}
use Rattle.frame.proofs.Codes.{refusal_same, refusal_nonzero}
use Rattle.reporting.specs.declared.entry.Entry.{Entry}
use Rattle.reporting.specs.declared.table.ReportingTable.{ReportingTable}
use Rattle.frame.specs.declared.answer.Refusal.{Refusal}
use Rattle.reporting.specs.declared.table.Changed.{Changed}
use Rattle.reporting.specs.declared.entry.ReportingConfig.{ReportingConfig}
use Rattle.reporting.specs.Table.{capacity, Table, holding, bad, live, table_of, entries_of, Alike, ChangeTold, change_told, ReportTold, report_told, SettingTold, setting_told, LengthTold, length_told, HandedBack, handed_back, configure_t, clear_t, mark_t, configuration_t, ask_t, length_t}
use Rattle.reporting.specs.Entries.{configure_l, clear_l, mark_l}
use Rattle.reporting.specs.Carried.{table_in, table_bytes, is_table, table_read, Reading, read_t, Written, written, write_t, reading}
use Rattle.reporting.specs.Lent.{ask_lent, configuration_lent, mark_lent, clear_lent, ChangeLeft}
use Rattle.reporting.specs.Inside.{ChangeKept, configure_in}
use Rattle.reporting.specs.Claims.Unique.{IsTableOnce, ReadTableOnce, WriteTableOnce, ReadSlotOnce, WriteSlotOnce, DistanceOnce, DistanceByOnce, IsOnce, WishOnce, MovedByOnce, RipeOnce, FreshOnce, IsOfOnce, EntryMarkOnce, DueOnce, FindSlotOnce, TableRefDueOnce, TableRefConfigurationOnce, ReadOnce, TableMutMarkOnce, TableMutConfigureOnce, TableMutClearOnce, AskLentOnce, ConfigurationLentOnce, MarkLentOnce, ClearLentOnce, ConfigureLentOnce, U16InOnce, U64InOnce, PutU16InOnce, PutU64InOnce, NewOnce, ConfigureOnce, ClearOnce, ReportingTableMarkOnce, ConfigurationOnce, AskOnce, LenOnce}
use Rattle.reporting.proofs.CarriageTable.{bytes_back}
use Rattle.reporting.proofs.Lending.{seen_bytes}

-- ---- answers

pub change_same : (a b : Result Bool Refusal) → change_told a ≡ change_told b → a ≡ b
change_same a b p = go a b (ap (λ (x : ChangeTold). x.number) p) (ap (λ (x : ChangeTold). x.accepted) p)
  where
    go : (a b : Result Bool Refusal) → (change_told a).number ≡ (change_told b).number → (change_told a).accepted ≡ (change_told b).accepted → a ≡ b
    go (Ok x) (Ok y) n v = ap Ok v
    go (Ok x) (Err w) n v = absurd (omega (arith, refusal_nonzero w))
    go (Err u) (Ok y) n v = absurd (omega (arith, refusal_nonzero u))
    go (Err u) (Err w) n v = ap Err (refusal_same u w n)

pub report_same : (a b : Result Bool Refusal) → report_told a ≡ report_told b → a ≡ b
report_same a b p = go a b (ap (λ (x : ReportTold). x.number) p) (ap (λ (x : ReportTold). x.due) p)
  where
    go : (a b : Result Bool Refusal) → (report_told a).number ≡ (report_told b).number → (report_told a).due ≡ (report_told b).due → a ≡ b
    go (Ok x) (Ok y) n v = ap Ok v
    go (Ok x) (Err w) n v = absurd (omega (arith, refusal_nonzero w))
    go (Err u) (Ok y) n v = absurd (omega (arith, refusal_nonzero u))
    go (Err u) (Err w) n v = ap Err (refusal_same u w n)

pub setting_same : (a b : Result (Option ReportingConfig) Refusal) → setting_told a ≡ setting_told b → a ≡ b
setting_same a b p = go a b p (ap (λ (x : SettingTold). x.number) p) (ap (λ (x : SettingTold). x.found) p)
  where
    go : (a b : Result (Option ReportingConfig) Refusal) → setting_told a ≡ setting_told b → (setting_told a).number ≡ (setting_told b).number → (setting_told a).found ≡ (setting_told b).found → a ≡ b
    go (Ok (Some g)) (Ok (Some h)) p n v = ap (λ (x : SettingTold). Ok (Some x.configuration)) p
    go (Ok (Some g)) (Ok None) p n v = absurd (true≢false v)
    go (Ok (Some g)) (Err w) p n v = absurd (true≢false v)
    go (Ok None) (Ok (Some h)) p n v = absurd (false≢true v)
    go (Ok None) (Ok None) p n v = refl
    go (Ok None) (Err w) p n v = absurd (omega (arith, refusal_nonzero w))
    go (Err u) (Ok (Some h)) p n v = absurd (false≢true v)
    go (Err u) (Ok None) p n v = absurd (omega (arith, refusal_nonzero u))
    go (Err u) (Err w) p n v = ap Err (refusal_same u w n)

pub length_same : (a b : Result ℕ Refusal) → length_told a ≡ length_told b → a ≡ b
length_same a b p = go a b (ap (λ (x : LengthTold). x.number) p) (ap (λ (x : LengthTold). x.length) p)
  where
    go : (a b : Result ℕ Refusal) → (length_told a).number ≡ (length_told b).number → (length_told a).length ≡ (length_told b).length → a ≡ b
    go (Ok m) (Ok n) e v = ap Ok v
    go (Ok m) (Err w) e v = absurd (omega (arith, refusal_nonzero w))
    go (Err u) (Ok n) e v = absurd (omega (arith, refusal_nonzero u))
    go (Err u) (Err w) e v = ap Err (refusal_same u w e)

-- ---- tables

IsTable : Table → Type 0
IsTable (holding l) = Unit
IsTable (bad t) = ⊥

holding≢bad : (l : List Entry) (t : ReportingTable) → holding l ≡ bad t → ⊥
unfolding IsTable
holding≢bad l t p = subst IsTable p tt

whole_of : ReportingTable → Table → ReportingTable
whole_of t (holding l) = t
whole_of t (bad u) = u

pub alike : (t u : ReportingTable) → table_of t ≡ table_of u → Alike t u
unfolding whole_of
alike t u e = go (ltb capacity t.count) refl (ltb capacity u.count) refl e
  where
    go : (a : Bool) → ltb capacity t.count ≡ a → (b : Bool) → ltb capacity u.count ≡ b → cond a (bad t) (holding (live t)) ≡ cond b (bad u) (holding (live u)) → Alike t u
    go true h true k p = let q : t ≡ u = ap (whole_of t) p in record { entries = ap live q; whole = λ _. q }
    go true h false k p = absurd (holding≢bad (live u) t (sym p))
    go false h true k p = absurd (holding≢bad (live t) u p)
    go false h false k p =
        record {
          entries = ap entries_of p;
          whole = ⊎_elim (λ z. absurd (omega (arith, ltb-false capacity t.count h))) (λ z. absurd (omega (arith, ltb-false capacity u.count k)));
        }

-- two results that meet one contract of configure, clear or mark
pub one_result : (o : HandedBack) (r s : Changed) → handed_back r ≡ o → handed_back s ≡ o → (r.answer ≡ s.answer) × Alike r.table s.table
one_result o r s p q =
    let e : handed_back r ≡ handed_back s = p ∙ sym q in (
      change_same r.answer s.answer (ap (λ (x : HandedBack). x.told) e),
      alike r.table s.table (ap (λ (x : HandedBack). x.table) e),
    )

-- two answers that meet one contract of ask, configuration or len
pub one_report : (o : ReportTold) (r s : Result Bool Refusal) → report_told r ≡ o → report_told s ≡ o → r ≡ s
one_report o r s p q = report_same r s (p ∙ sym q)

pub one_setting : (o : SettingTold) (r s : Result (Option ReportingConfig) Refusal) → setting_told r ≡ o → setting_told s ≡ o → r ≡ s
one_setting o r s p q = setting_same r s (p ∙ sym q)

pub one_length : (o : LengthTold) (r s : Result ℕ Refusal) → length_told r ≡ o → length_told s ≡ o → r ≡ s
one_length o r s p q = length_same r s (p ∙ sym q)

-- two answers and exit buffers that meet one contract of what is written
one_written : (o : Written) (r q : Bool) (x y : List ℕ) → written r x ≡ o → written q y ≡ o → (r ≡ q) × (x ≡ y)
one_written o r q x y e f = let p = e ∙ sym f in (ap (λ (z : Written). z.done) p, ap (λ (z : Written). z.bytes) p)

-- src/carried.rt

pub is_table_once : IsTableOnce
is_table_once bytes r q e f = e ∙ sym f

pub read_table_once : ReadTableOnce
read_table_once bytes r q e f = (
  known r ∙ ap (λ (x : Reading). x.known) (e ∙ sym f) ∙ sym (known q),
  λ t u a b. alike t u (ap (λ (x : Reading). x.table) (ap reading (sym a) ∙ e ∙ sym f ∙ ap reading b)),
)
  where
    known : (r : Option ReportingTable) → is_some r ≡ (reading r).known
    known (Some t) = refl
    known None = refl

pub write_table_once : WriteTableOnce
write_table_once bytes table r q x y e f = one_written (write_t capacity table bytes) r q x y e f

-- src/distance.rt

pub read_slot_once : ReadSlotOnce
read_slot_once bytes at r q e f = e ∙ sym f

pub write_slot_once : WriteSlotOnce
write_slot_once bytes at e x y p q = p ∙ sym q

pub distance_once : DistanceOnce
distance_once a b r q e f = e ∙ sym f

-- src/entry.rt

pub distance_by_once : DistanceByOnce
distance_by_once unsigned a b r q e f = e ∙ sym f

pub is_once : IsOnce
is_once self other r q e f = e ∙ sym f

pub wish_once : WishOnce
wish_once self r q e f = e ∙ sym f

pub moved_by_once : MovedByOnce
moved_by_once self from to r q e f = e ∙ sym f

pub ripe_once : RipeOnce
ripe_once self since moved r q e f = e ∙ sym f

pub fresh_once : FreshOnce
fresh_once key config r q e f = e ∙ sym f

pub is_of_once : IsOfOnce
is_of_once self key r q e f = e ∙ sym f

pub entry_mark_once : EntryMarkOnce
entry_mark_once self now value r q e f = e ∙ sym f

pub due_once : DueOnce
due_once self now value r q e f = e ∙ sym f

-- src/held.rt

pub find_slot_once : FindSlotOnce
find_slot_once self key r q e f = e ∙ sym f

pub table_ref_due_once : TableRefDueOnce
table_ref_due_once self key time value r q e f = e ∙ sym f

pub table_ref_configuration_once : TableRefConfigurationOnce
table_ref_configuration_once self key r q e f =
    let same : ◌≡◌ {A = Result (Option ReportingConfig) Refusal} (Ok r) (Ok q) = one_setting (configuration_t key (holding (table_in self))) (Ok r) (Ok q) e f in
    cc

pub read_once : ReadOnce
read_once self r q e f = e ∙ sym f

-- two buffers in which a reader sees the same entries
one_seen : (l : List Entry) (x y : List ℕ) → AllBytes x → AllBytes y → read_t capacity x ≡ table_read true l → read_t capacity y ≡ table_read true l → x ≡ y
one_seen l x y a b e f = seen_bytes l x a e ∙ sym (seen_bytes l y b f)

pub table_mut_mark_once : TableMutMarkOnce
table_mut_mark_once self key time value x y a b e f = one_seen (mark_l key time value (table_in self)) x y a b e f

pub table_mut_configure_once : TableMutConfigureOnce
unfolding configure_in
table_mut_configure_once self key config r q x y a b e f = (
  ap (λ (z : ChangeKept). z.told.accepted) (e ∙ sym f),
  one_seen (configure_l capacity key config (table_in self)) x y a b (ap (λ (z : ChangeKept). z.table) e) (ap (λ (z : ChangeKept). z.table) f),
)

pub table_mut_clear_once : TableMutClearOnce
table_mut_clear_once self key x y a b e f = one_seen (clear_l key (table_in self)) x y a b e f

-- src/lent.rt

pub ask_lent_once : AskLentOnce
ask_lent_once bytes key now value r q e f = one_report (ask_lent key now value bytes) r q e f

pub configuration_lent_once : ConfigurationLentOnce
configuration_lent_once bytes key r q e f = one_setting (configuration_lent key bytes) r q e f

pub mark_lent_once : MarkLentOnce
mark_lent_once bytes key now value r q x y e f = one_written (mark_lent key now value bytes) r q x y e f

pub clear_lent_once : ClearLentOnce
clear_lent_once bytes key r q x y e f = one_written (clear_lent key bytes) r q x y e f

pub configure_lent_once : ConfigureLentOnce
configure_lent_once bytes key config r q x y e f =
    let p = e ∙ sym f in
    (change_same r q (ap (λ (z : ChangeLeft). z.told) p), ap (λ (z : ChangeLeft). z.bytes) p)

-- bytes that are one table are the same
pub one_carried : (x y : List ℕ) → AllBytes x → AllBytes y → is_table capacity x ≡ true → is_table capacity y ≡ true → holding (table_in x) ≡ holding (table_in y) → x ≡ y
one_carried x y a b t u e = sym (bytes_back capacity x a t) ∙ ap (λ (l : Table). table_bytes capacity (entries_of l)) e ∙ bytes_back capacity y b u

-- src/table.rt

pub u16_in_once : U16InOnce
u16_in_once bytes at r q e f = e ∙ sym f

pub u64_in_once : U64InOnce
u64_in_once bytes at r q e f = e ∙ sym f

pub put_u16_in_once : PutU16InOnce
put_u16_in_once bytes at n x y e f = e ∙ sym f

pub put_u64_in_once : PutU64InOnce
put_u64_in_once bytes at n x y e f = e ∙ sym f

pub new_once : NewOnce
new_once r q e f = alike r q (e ∙ sym f)

pub configure_once : ConfigureOnce
configure_once self key config r q e f = one_result (configure_t capacity key config (table_of self)) r q e f

pub clear_once : ClearOnce
clear_once self key r q e f = one_result (clear_t key (table_of self)) r q e f

pub reporting_table_mark_once : ReportingTableMarkOnce
reporting_table_mark_once self key now value r q e f = one_result (mark_t key now value (table_of self)) r q e f

pub configuration_once : ConfigurationOnce
configuration_once self key r q e f = one_setting (configuration_t key (table_of self)) r q e f

pub ask_once : AskOnce
ask_once self key now value r q e f = one_report (ask_t key now value (table_of self)) r q e f

pub len_once : LenOnce
len_once self r q e f = one_length (length_t (table_of self)) r q e f
