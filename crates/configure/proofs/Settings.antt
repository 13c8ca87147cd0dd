-- A deed in the table's bytes: from what the table's functions ensure to what the deed comes to. Assumes nothing.
use Rattle.std.specs.Prelude.{Ok}
use mathlib.Core.Path.{◌≡◌, ap, ◌∙◌}
use mathlib.Core.Bool.{Bool, true}
use mathlib.Core.List.{List}
use Prim.Native.Nat.{ℕ}
use Rattle.frame.specs.declared.status.Status.{Status}
use Rattle.frame.specs.declared.status.Status.TheVariants.{Success}
use Rattle.frame.specs.Failures.{did}
use Rattle.reporting.specs.declared.entry.Key.{Key}
use Rattle.reporting.specs.declared.entry.ReportingConfig.{ReportingConfig}
use Rattle.reporting.specs.Entries.{accepts_l, configure_l, clear_l}
use Rattle.reporting.specs.Table.{capacity}
use Rattle.reporting.specs.Carried.{table_in, table_read, read_t}
use Rattle.reporting.specs.Inside.{ChangeKept, kept_as, configure_in}
use Rattle.reporting.specs.declared.entry.Wish.TheVariants.{ToSet}
use Rattle.reporting.specs.Wish.{status_w}
use Rattle.reporting.proofs.CarriageTable.{read_is}
use Rattle.configure.specs.declared.settle.Deed.{Deed}
use Rattle.configure.specs.Inside.{Settles}

-- what a function on the bytes did is what the deed comes to
module _ (k : Key) (bs after : List ℕ) where
  pub clear_settles : read_t capacity after ≡ table_read true (clear_l k (table_in bs)) → Settles (Ok (Deed.Clears k)) bs after Success
  clear_settles e =
      let h = read_is capacity after (clear_l k (table_in bs)) e in
      record { table = h.0; is = ap (did Success) h.1 }

  pub set_settles : (g : ReportingConfig) (accepted : Bool) (status : Status) → status ≡ status_w ToSet accepted → kept_as accepted after ≡ configure_in k g (table_in bs)
      → Settles (Ok (Deed.Sets k g)) bs after status
  unfolding configure_in
  set_settles g accepted status q e =
      let h = read_is capacity after (configure_l capacity k g (table_in bs)) (ap (λ (x : ChangeKept). x.table) e) in
      let is : status ≡ status_w ToSet (accepts_l capacity k (table_in bs)) = q ∙ ap (λ (x : ChangeKept). status_w ToSet x.told.accepted) e in
      record { table = h.0; is = λ i. did (is i) (h.1 i) }
