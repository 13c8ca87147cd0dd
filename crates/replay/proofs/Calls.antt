-- Laws of calls on a table by value (`specs/Methods.antt`). Assumes nothing.
use Rattle.std.specs.Prelude.{None, Option, Some}
use mathlib.Core.Path.{◌≡◌, refl, sym, ap, ◌∙◌}
use mathlib.Core.Bool.{Bool, true, false, cond, ◌&&◌, true≢false, false≢true}
use mathlib.Core.List.{List, [], ◌∷◌, ◌++◌, map}
use Prim.Native.Nat.{ℕ, zero, suc, ◌+◌, ◌-◌, ◌*◌, ◌/◌, ◌%◌, ◌≤◌, ◌<◌}
use native.Mathlib.Omega.{arith}
use lib.ListN.{length, get_or, take, drop, drop_of_length-le, length-map}
use lib.Seq.{take_at, length-take-le}
use lib.Dec.{leb}
use lib.IntN.{ℤ}
use borrow.Author.Tests.{eq-eqb, ne_eqb, le-leb, leb-true, leb-false, lt-ltb}
use Rattle.std.specs.List.{list_all}
use Rattle.std.specs.Simd.{first_chunks}
use Rattle.std.proofs.lemmas.List.{at_drop_more}
use Rattle.types.specs.Number.{bytes_of, zeros}
use Rattle.frame.specs.Reply.{padded}
use Rattle.reporting.specs.declared.entry.Key.{Key}
use Rattle.reporting.specs.declared.entry.ReportingConfig.{ReportingConfig}
use Rattle.reporting.specs.declared.table.ReportingTable.{ReportingTable}
use Rattle.reporting.specs.Table.{capacity, Table, live, table_of, holding, HandedBack, ReportTold, SettingTold, LengthTold, configure_t, clear_t, mark_t, ask_t, configuration_t, length_t}
use Rattle.reporting.specs.Carried.{widths, rows_laid, numbers_of, table_size, table_bytes, Written, written, write_t, slot_bytes, table_length}
use Rattle.reporting.proofs.Carriage.{length_rows}
use Rattle.reporting.proofs.Slots.{is-table}
use Rattle.replay.specs.Bytes.{same}
use Rattle.replay.specs.Methods.{key_in, config_in, time_in, value_in, report_says, setting_says, length_says, config_says, Called, changing, looking, called, table_says, history, calls_in, are_calls}
use Rattle.replay.specs.Inside.{matched, Found, found}
use Rattle.replay.proofs.Matches.{matched_on, matched_off, same_on, same_none}

-- ---- a configuration as bytes: six, and then eight

module _ (held : List ℕ) (at number found a b c d : ℕ) (g : ReportingConfig) (ea : a ≡ g.min_interval % 256) (eb : b ≡ g.min_interval / 256 % 256) (ec : c ≡ g.max_interval % 256) (ed : d ≡ g.max_interval / 256 % 256) where
  config_is : (number ∷ found ∷ a ∷ b ∷ c ∷ d ∷ []) ++ bytes_of 8 g.reportable_change ≡ number ∷ found ∷ config_says g
  unfolding bytes_of
  config_is = λ i. number ∷ found ∷ ea i ∷ eb i ∷ ec i ∷ ed i ∷ bytes_of 8 g.reportable_change

  pub config_off : matched held at (number ∷ found ∷ a ∷ b ∷ c ∷ d ∷ []) ≡ None → None ≡ matched held at (number ∷ found ∷ config_says g)
  config_off h = sym (matched_off held at (number ∷ found ∷ a ∷ b ∷ c ∷ d ∷ []) (bytes_of 8 g.reportable_change) h) ∙ ap (matched held at) config_is

  pub config_on : (o : ℕ) → matched held at (number ∷ found ∷ a ∷ b ∷ c ∷ d ∷ []) ≡ Some o → (change : List ℕ) → change ≡ bytes_of 8 g.reportable_change → (r : Option ℕ) → r ≡ matched held o change → r ≡ matched held at (number ∷ found ∷ config_says g)
  config_on o h change e r p =
      p ∙ ap (matched held o) e ∙ sym (matched_on held at (number ∷ found ∷ a ∷ b ∷ c ∷ d ∷ []) (bytes_of 8 g.reportable_change) o h) ∙ ap (matched held at) config_is

-- ---- a call by its operation

module _ (held : List ℕ) (at : ℕ) (c : List ℕ) (t : Table) (op : ℕ) (eo : op ≡ get_or c 0 0) (k : Key) (ek : k ≡ key_in c) where
  -- what is found of what the call says is found of the call
  by_op : (x : Called) → x ≡ called c t → (r : Found) → r ≡ found held at x → r ≡ found held at (called c t)
  by_op x e r p = p ∙ ap (found held at) e

  pub gave_configure : op ≡ 0 → (g : ReportingConfig) → g ≡ config_in c → (o : HandedBack) → o ≡ configure_t capacity k g t → (r : Found) → r ≡ found held at (changing o) → r ≡ found held at (called c t)
  unfolding called
  gave_configure h g eg o e r p =
      let z : get_or c 0 0 ≡ 0 = sym eo ∙ h in
      by_op (changing o) (ap changing (e ∙ (λ i. configure_t capacity (ek i) (eg i) t)) ∙ sym (rw z)) r p

  pub gave_clear : op ≡ 1 → (o : HandedBack) → o ≡ clear_t k t → (r : Found) → r ≡ found held at (changing o) → r ≡ found held at (called c t)
  unfolding called
  gave_clear h o e r p = let z : get_or c 0 0 ≡ 1 = sym eo ∙ h in by_op (changing o) (ap changing (e ∙ (λ i. clear_t (ek i) t)) ∙ sym (rw z)) r p

  pub gave_setting : op ≡ 4 → (x : SettingTold) → x ≡ configuration_t k t → (m : Option ℕ) → m ≡ matched held at (setting_says x) → ◌≡◌ {A = Found} (record { at = m; table = t }) (found held at (called c t))
  unfolding called
  gave_setting h x e m p =
      let z : get_or c 0 0 ≡ 4 = sym eo ∙ h in
      by_op (looking t (setting_says x)) (ap (λ (y : SettingTold). looking t (setting_says y)) (e ∙ (λ i. configuration_t (ek i) t)) ∙ sym (rw z)) (record { at = m; table = t }) (λ i. record { at = p i; table = t })

  module _ (now : ℕ) (v : ℤ) (en : now ≡ time_in c) (ev : v ≡ value_in c) where
    pub gave_mark : op ≡ 2 → (o : HandedBack) → o ≡ mark_t k now v t → (r : Found) → r ≡ found held at (changing o) → r ≡ found held at (called c t)
    unfolding called
    gave_mark h o e r p =
        let z : get_or c 0 0 ≡ 2 = sym eo ∙ h in
        by_op (changing o) (ap changing (e ∙ (λ i. mark_t (ek i) (en i) (ev i) t)) ∙ sym (rw z)) r p

    pub gave_ask : op ≡ 3 → (x : ReportTold) → x ≡ ask_t k now v t → (bytes : List ℕ) → bytes ≡ report_says x → (m : Option ℕ) → m ≡ matched held at bytes → ◌≡◌ {A = Found} (record { at = m; table = t }) (found held at (called c t))
    unfolding called
    gave_ask h x e bytes eb m p =
        let z : get_or c 0 0 ≡ 3 = sym eo ∙ h in
        by_op (looking t (report_says x)) (ap (λ (y : ReportTold). looking t (report_says y)) (e ∙ (λ i. ask_t (ek i) (en i) (ev i) t)) ∙ sym (rw z)) (record { at = m; table = t }) (λ i. record { at = (p ∙ ap (matched held at) eb) i; table = t })

  pub gave_length : (op ≡ 0 → ⊥) → (op ≡ 1 → ⊥) → (op ≡ 2 → ⊥) → (op ≡ 3 → ⊥) → (op ≡ 4 → ⊥) → (x : LengthTold) → x ≡ length_t t → (bytes : List ℕ) → bytes ≡ length_says x → (m : Option ℕ) → m ≡ matched held at bytes → ◌≡◌ {A = Found} (record { at = m; table = t }) (found held at (called c t))
  unfolding called
  gave_length n0 n1 n2 n3 n4 x e bytes eb m p =
      by_op (looking t (length_says x))
      (ap (λ (y : LengthTold). looking t (length_says y)) e
      ∙ sym (rw (sym eo, ne_eqb op 0 n0, ne_eqb op 1 n1, ne_eqb op 2 n2, ne_eqb op 3 n3, ne_eqb op 4 n4)))
      (record { at = m; table = t }) (λ i. record { at = (p ∙ ap (matched held at) eb) i; table = t })

-- ---- the table's bytes

module _ (t : ReportingTable) (bs after : List ℕ) (w : Bool) (n : length bs ≡ table_length) (p : written w after ≡ write_t capacity t bs) where
  by_count : written w after ≡ cond (leb t.count capacity) (written true (table_bytes capacity (live t))) (written false bs)
  unfolding write_t
  by_count = p ∙ rw (eq-eqb (length bs) table_length n) refl

  pub laid_small : w ≡ true → t.count ≤ capacity
  laid_small h = go (leb t.count capacity) refl by_count
    where
      go : (b : Bool) → leb t.count capacity ≡ b → written w after ≡ cond b (written true (table_bytes capacity (live t))) (written false bs) → t.count ≤ capacity
      go true e q = leb-true t.count capacity e
      go false e q = absurd (true≢false (sym h ∙ ap (λ (x : Written). x.done) q))

  pub laid_none : w ≡ false → [] ≡ table_says (table_of t)
  unfolding table_says
  laid_none h = go (leb t.count capacity) refl by_count
    where
      go : (b : Bool) → leb t.count capacity ≡ b → written w after ≡ cond b (written true (table_bytes capacity (live t))) (written false bs) → [] ≡ table_says (table_of t)
      go true e q = absurd (false≢true (sym h ∙ ap (λ (x : Written). x.done) q))
      go false e q = rw (lt-ltb capacity t.count (leb-false t.count capacity e)) refl

  module _ (h : w ≡ true) (l : length t.entries ≡ capacity) where
    as_many : length (live t) ≡ t.count
    as_many = length-take-le t.count t.entries (omega (arith, laid_small h))

    used : List ℕ
    used = length (live t) ∷ rows_laid widths (map numbers_of (live t))

    long : length used ≡ 1 + slot_bytes * t.count
    unfolding used
    long =
        let r : length (rows_laid widths (map numbers_of (live t))) ≡ length (live t) * slot_bytes = length_rows widths (map numbers_of (live t)) ∙ ap (λ (n : ℕ). n * slot_bytes) (length-map (live t) numbers_of) in
        omega (arith, r, as_many)

    after_is : after ≡ padded (table_size capacity) used
    unfolding table_bytes used
    after_is =
        let q : written w after ≡ written true (table_bytes capacity (live t)) = by_count ∙ ap (λ (b : Bool). cond b (written true (table_bytes capacity (live t))) (written false bs)) (le-leb t.count capacity (laid_small h)) in
        ap (λ (x : Written). x.bytes) q

    pub laid_says : take (1 + slot_bytes * t.count) after ≡ table_says (table_of t)
    unfolding table_says used padded
    laid_says =
        ap (take (1 + slot_bytes * t.count)) after_is
        ∙ take_at used (zeros (table_size capacity - length used)) (1 + slot_bytes * t.count) long
        ∙ sym (ap table_says (is-table t (laid_small h)))

-- ---- the calls of an input

calls_are : (n : ℕ) (s : List ℕ) → first_chunks 17 n s ≡ calls_in n s
unfolding calls_in
calls_are zero s = refl
calls_are (suc n) s = ap (λ (cs : List (List ℕ)). take 17 s ∷ cs) (calls_are n (drop 17 s))

-- as the library asks whether each of them is one
pub all_calls : (n : ℕ) (input : List ℕ) (calls : List (List ℕ)) → calls ≡ first_chunks 17 n input → list_all (λ c. leb (get_or c 0 0) 5) calls ≡ are_calls (calls_in n input)
unfolding are_calls
all_calls n input calls e = go calls ∙ ap are_calls (e ∙ calls_are n input)
  where
    go : (cs : List (List ℕ)) → list_all (λ c. leb (get_or c 0 0) 5) cs ≡ are_calls cs
    go [] = refl
    go (c ∷ cs) = ap (λ (b : Bool). leb (get_or c 0 0) 5 && b) (go cs)

-- ---- a history

-- from call i on, what is left to compare is the whole
abbrev pub Follows : List (List ℕ) → List ℕ → Table → ℕ → ℕ → Type 0
Follows calls held t at i = same (history (drop i calls) t) (drop at held) ≡ same (history calls (holding [])) held

module _ (n : ℕ) (input held : List ℕ) (calls : List (List ℕ)) (ec : calls ≡ first_chunks 17 n input) (t : Table) where
  whole : same (history calls (holding [])) held ≡ same (history (calls_in n input) (holding [])) held
  whole = ap (λ (cs : List (List ℕ)). same (history cs (holding [])) held) (ec ∙ calls_are n input)

  module _ (at i : ℕ) (inv : Follows calls held t at i) where
    module _ (h : i < length calls) (r : Found) (e : r ≡ found held at (called (get_or calls i []) t)) where
      this : Called
      this = called (get_or calls i []) t

      step : history (drop i calls) t ≡ this.says ++ history (drop (i + 1) calls) this.table
      unfolding history this
      step = at_drop_more (λ cs. history cs t) calls i [] h

      pub follow_more : (o : ℕ) → r.at ≡ Some o → Follows calls held r.table o (i + 1)
      unfolding this
      follow_more o k =
          ap (λ (u : Table). same (history (drop (i + 1) calls) u) (drop o held)) (ap (λ (x : Found). x.table) e)
          ∙ sym (same_on held at this.says (history (drop (i + 1) calls) this.table) o (sym (ap (λ (x : Found). x.at) e) ∙ k))
          ∙ ap (λ (l : List ℕ). same l (drop at held)) (sym step)
          ∙ inv

      pub follow_off : r.at ≡ None → false ≡ same (history (calls_in n input) (holding [])) held
      unfolding this
      follow_off k =
          sym (same_none held at this.says (history (drop (i + 1) calls) this.table) (sym (ap (λ (x : Found). x.at) e) ∙ k))
          ∙ ap (λ (l : List ℕ). same l (drop at held)) (sym step)
          ∙ inv
          ∙ whole

    pub follow_done : length calls ≤ i → (b : Bool) → b ≡ same (table_says t) (drop at held) → b ≡ same (history (calls_in n input) (holding [])) held
    unfolding history
    follow_done h b e = e ∙ sym (ap (λ (cs : List (List ℕ)). same (history cs t) (drop at held)) (drop_of_length-le calls h)) ∙ inv ∙ whole
