-- From what the functions of crate `reporting` ensure to what the functions towards C leave. Assumes nothing.
use Prim.Native.Nat.{ℕ, ◌≤◌, ◌<◌}
use mathlib.Core.Path.{◌≡◌, refl, sym, ap, ◌∙◌}
use mathlib.Core.Bool.{Bool, true, false, cond, ◌&&◌}
use mathlib.Core.List.{List}
use lib.ListN.{length}
use borrow.Author.Tests.{eq-eqb, ne_eqb, le-ltb, lt-ltb}
use lib.Dec.{ltb}
use Rattle.types.specs.Number.{AllBytes, zeros}
use Rattle.frame.specs.Answer.{refusal_number}
use Rattle.frame.specs.declared.answer.Refusal.TheVariants.{NotATable, NotASavedForm}
use Rattle.reporting.specs.declared.entry.Key.{Key}
use Rattle.reporting.specs.declared.entry.ReportingConfig.{ReportingConfig}
use Rattle.reporting.specs.Table.{capacity}
use Rattle.reporting.specs.Carried.{is_table, table_in, table_length}
use Rattle.reporting.specs.Lent.{ChangeLeft, configure_lent}
use Rattle.reporting.specs.Inside.{kept_as, configure_in}
use Rattle.reporting.proofs.Lending.{configure_refused, configure_known}
use Rattle.reporting.proofs.CarriageLoops.{empty_bytes}
use Rattle.hingedrift.specs.Tables.{bit, left, no_result, Left, new_left, configure_left}

-- hd_table_new
module _ (bs : List ℕ) where
  pub new_refused : (n : ℕ) → n ≡ refusal_number NotATable → (length bs ≡ table_length → ⊥) → left n bs no_result ≡ new_left bs
  unfolding new_left
  new_refused n e h = ap (λ (m : ℕ). left m bs no_result) e ∙ sym (rw (ne_eqb (length bs) table_length h))

  pub new_cleared : (after : List ℕ) → length bs ≡ table_length → after ≡ zeros (length bs) → left 0 after no_result ≡ new_left bs
  unfolding new_left
  new_cleared after n e =
      ap (λ (l : List ℕ). left 0 l no_result) (e ∙ ap zeros n ∙ sym empty_bytes)
      ∙ sym (rw (eq-eqb (length bs) table_length n))

-- hd_configure: what is left, by whether the bytes are a table and whether the mark is above 1
abbrev pub configure_by : List ℕ → Bool → Bool → ChangeLeft → Left ℕ
configure_by bs known large x = cond (known && large) (left (refusal_number NotASavedForm) bs 0) (left x.told.number x.bytes (bit x.told.accepted))

module _ (bs : List ℕ) (k : Key) (g : ReportingConfig) (m : ℕ) where
  by : (a b : Bool) → is_table capacity bs ≡ a → ltb 1 m ≡ b → configure_by bs a b (configure_lent k g bs) ≡ configure_left bs k g m
  by a b p q = λ i. configure_by bs (sym p i) (sym q i) (configure_lent k g bs)

  pub configure_no_table : (n : ℕ) → is_table capacity bs ≡ false → n ≡ refusal_number NotATable → left n bs 0 ≡ configure_left bs k g m
  configure_no_table n h e =
      ap (λ (x : ℕ). left x bs 0) e
      ∙ ap (λ (x : ChangeLeft). left x.told.number x.bytes (bit x.told.accepted)) (configure_refused bs k g h)
      ∙ by false (ltb 1 m) h refl

  pub configure_no_mark : (n : ℕ) → is_table capacity bs ≡ true → 1 < m → n ≡ refusal_number NotASavedForm → left n bs 0 ≡ configure_left bs k g m
  configure_no_mark n h large e = ap (λ (x : ℕ). left x bs 0) e ∙ by true true h (lt-ltb 1 m large)

  -- the answer that the table's own function gave, and the bytes that it left
  pub configured_so : is_table capacity bs ≡ true → m ≤ 1 → (k' : Key) → k' ≡ k → (r : Bool) (bs' : List ℕ) → AllBytes bs' → kept_as r bs' ≡ configure_in k' g (table_in bs)
      → left 0 bs' (bit r) ≡ configure_left bs k g m
  configured_so h small k' key r bs' bytes p =
      ap (λ (x : ChangeLeft). left x.told.number x.bytes (bit x.told.accepted)) (configure_known bs h k' g r bs' bytes p ∙ (λ i. configure_lent (key i) g bs))
      ∙ by true false h (le-ltb 1 m small)
