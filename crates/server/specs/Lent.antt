-- Definitions. A request served over bytes that carry the reporting table (document 01: "Towards C the table travels as lent bytes .. other bytes get
-- 8").
use Rattle.std.specs.Prelude.{ℕ, Bool, cond, List}
use Rattle.frame.specs.declared.answer.Refusal.TheVariants.{NotAStore, NotATable}
use Rattle.frame.specs.Answer.{Outcome, within, refused}
use Rattle.store.specs.Layout.{is_store}
use Rattle.reporting.specs.Table.{capacity, holding}
use Rattle.reporting.specs.Carried.{is_table, table_in}
use Rattle.reporting.specs.Lent.{bytes_after}
use Rattle.server.specs.Serve.{State, serve}

-- what is lent and may change
pub record Lent : Type 0 where
  pub store : List ℕ
  pub table : List ℕ

abbrev pub lent : List ℕ → List ℕ → Lent
lent s bs = record { store = s; table = bs }

abbrev pub carried : List ℕ → State → Lent
carried bs x = lent x.store (bytes_after bs x.table)

-- 7, then 8 for bytes that are no table, then as the table that they are is served
unfoldable pub serve_lent : List ℕ → List ℕ → ℕ → Bool → List ℕ → ℕ → Outcome Lent
serve_lent s bs cluster unicast frame size =
    cond (is_table capacity bs)
    (within (carried bs) (serve 8 capacity s (holding (table_in bs)) cluster unicast frame size))
    (refused size (cond (is_store 8 s) NotATable NotAStore) (lent s bs))
