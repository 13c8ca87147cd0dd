-- Inside. What inner functions say; nothing that a caller must believe.
use Rattle.std.specs.Prelude.{◌≡◌, ℕ, Bool, true, false, cond, List, Result}
use Rattle.frame.specs.declared.answer.Refusal.TheVariants.{NotAStore, NotATable}
use Rattle.frame.specs.declared.answer.Refusal.{Refusal}
use Rattle.frame.specs.Answer.{seen, refused}
use Rattle.store.specs.Layout.{is_store}
use Rattle.reporting.specs.Table.{capacity, holding}
use Rattle.reporting.specs.Carried.{is_table, table_in}
use Rattle.server.specs.Serve.{state, serve}
use Rattle.server.specs.Lent.{lent}

-- ---- a request over bytes

-- where they are known to be a table, it is served over that one, and they are one afterwards; otherwise it is refused, and nothing changes
pub record OverBytes (known : Bool) (s bs : List ℕ) (cluster : ℕ) (unicast : Bool) (frame : List ℕ) (size : ℕ) (a : Result ℕ Refusal) (d s' bs' : List ℕ) : Type 0 where
  pub stays : known ≡ true → is_table capacity bs' ≡ true
  pub served : known ≡ true → seen a d (state s' (holding (table_in bs'))) ≡ serve 8 capacity s (holding (table_in bs)) cluster unicast frame size
  pub fails : known ≡ false → seen a d (lent s' bs') ≡ refused size (cond (is_store 8 s) NotATable NotAStore) (lent s bs)
