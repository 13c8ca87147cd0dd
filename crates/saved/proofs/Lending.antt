-- What writing and reading say, by the tests that the code makes. Assumes nothing.
use Rattle.std.specs.Prelude.{Err, Ok}
use Prim.Native.Nat.{ℕ, ◌*◌, ◌≤◌, ◌<◌}
use mathlib.Core.Path.{◌≡◌, refl, ap, sym, ◌∙◌}
use mathlib.Core.Bool.{Bool, true, false, cond}
use mathlib.Core.List.{List, [], ◌∷◌, map}
use native.Mathlib.Omega.{arith}
use lib.ListN.{length, set, length-append, length-map}
use lib.Seq.{sets}
use lib.Dec.{leb, eqb}
use borrow.Author.Tests.{le-leb, lt-leb, eq-eqb, ne_eqb}
use Rattle.types.specs.Number.{zeros}
use Rattle.frame.specs.declared.answer.Refusal.TheVariants.{ReplyTooLong, NotATable, NotASavedForm}
use Rattle.frame.specs.Reply.{padded}
use Rattle.frame.specs.Answer.{Outcome, no_state, seen, replied, refused}
use Rattle.frame.proofs.Buffer.{sets_padded}
use Rattle.reporting.specs.declared.entry.Entry.{Entry}
use Rattle.reporting.specs.Table.{capacity}
use Rattle.reporting.specs.Carried.{rows_laid, count_in, table_in, table_bytes, is_table, table_length}
use Rattle.reporting.specs.Lent.{on_lent, left_as}
use Rattle.reporting.specs.Claims.RoundTrip.{AllClean}
use Rattle.reporting.proofs.Carriage.{length_rows}
use Rattle.reporting.proofs.CarriageTable.{table_is, table_back, table_count}
use Rattle.reporting.proofs.CarriageLoops.{empty_bytes, count_first}
use Rattle.saved.specs.Saved.{marked, key_of, body_of, row_of, body_bytes, offset_at, saved_size, contents_from, saved_bytes, is_savable, saved_in, is_laid, is_saved, form_in}
use Rattle.saved.specs.Lent.{save_l, save_lent, restore_lent}
use Rattle.saved.proofs.Rows.{length_contents}
use Rattle.saved.proofs.Forms.{laid_so, saved_count}

-- ---- a form

module _ (l : List Entry) where
  abbrev one : List ℕ
  one = rows_laid (row_of marked) (contents_from marked (length l) 0 (map key_of l))

  abbrev two : List ℕ
  two = rows_laid marked.bodies (map body_of l)

  pub length_one : length one ≡ length l * 6
  length_one = length_rows (row_of marked) (contents_from marked (length l) 0 (map key_of l)) ∙ ap (λ (k : ℕ). k * 6) (length_contents (length l) 0 (map key_of l) ∙ length-map l key_of)

  pub length_two : length two ≡ length l * body_bytes marked
  length_two = length_rows marked.bodies (map body_of l) ∙ ap (λ (k : ℕ). k * body_bytes marked) (length-map l body_of)

  pub saved_length : length (saved_bytes marked l) ≡ saved_size marked (length l)
  unfolding saved_bytes
  saved_length = omega (arith, length-append one two, length_one, length_two)

  -- the count, then the contents, then the bodies, in a buffer that was cleared
  pub saved_written : (room : ℕ) (d₀ d₁ d₂ : List ℕ) → saved_size marked (length l) ≤ room → d₀ ≡ zeros room → d₁ ≡ sets (set d₀ 0 (length l)) 1 one → d₂ ≡ sets d₁ (offset_at marked (length l) 0) two → d₂ ≡ padded room (saved_bytes marked l)
  unfolding saved_bytes
  saved_written room d₀ d₁ d₂ h z p q =
      let start : set d₀ 0 (length l) ≡ padded room (length l ∷ []) = ap (λ (d : List ℕ). set d 0 (length l)) z ∙ count_first room (length l) (omega arith) in
      let rows : d₁ ≡ padded room (length l ∷ one) = p ∙ ap (λ (d : List ℕ). sets d 1 one) start ∙ sets_padded room (length l ∷ []) one (omega (arith, length_one)) in
      let at : offset_at marked (length l) 0 ≡ length (length l ∷ one) = omega (arith, length_one) in
      q
      ∙ (λ i. sets (rows i) (at i) two)
      ∙ sets_padded room (length l ∷ one) two (omega (arith, length_one, length_two))

-- ---- writing

module _ (bs : List ℕ) (room : ℕ) where
  pub save_no_table : is_table capacity bs ≡ false → refused room NotATable no_state ≡ save_lent bs room
  unfolding save_lent on_lent
  save_no_table h = ap (λ (b : Bool). cond b (save_l room (table_in bs)) (refused room NotATable no_state)) (sym h)

  module _ (is : is_table capacity bs ≡ true) where
    known : save_l room (table_in bs) ≡ save_lent bs room
    unfolding save_lent on_lent
    known = ap (λ (b : Bool). cond b (save_l room (table_in bs)) (refused room NotATable no_state)) (sym is)

    -- by whether it is written, and whether it fits
    by : Bool → Bool → Outcome (Unit {0})
    by savable fits = cond savable (cond fits (replied room (saved_bytes marked (table_in bs)) no_state) (refused room ReplyTooLong no_state)) (refused room NotASavedForm no_state)

    said : (a b : Bool) → is_savable (table_in bs) ≡ a → leb (length (saved_bytes marked (table_in bs))) room ≡ b → by a b ≡ save_lent bs room
    unfolding by
    said a b p q = (λ i. by (sym p i) (sym q i)) ∙ known

    pub save_not_written : is_savable (table_in bs) ≡ false → refused room NotASavedForm no_state ≡ save_lent bs room
    unfolding by
    save_not_written p = said false (leb (length (saved_bytes marked (table_in bs))) room) p refl

    size : length (saved_bytes marked (table_in bs)) ≡ saved_size marked (count_in bs)
    size = saved_length (table_in bs) ∙ ap (saved_size marked) (table_count bs)

    module _ (p : is_savable (table_in bs) ≡ true) where
      pub save_too_long : room < saved_size marked (count_in bs) → refused room ReplyTooLong no_state ≡ save_lent bs room
      unfolding by
      save_too_long h = said true false p (lt-leb (length (saved_bytes marked (table_in bs))) room (omega (arith, size)))

      pub save_done : (d₀ d₁ d₂ : List ℕ) → saved_size marked (count_in bs) ≤ room → d₀ ≡ zeros room
          → d₁ ≡ sets (set d₀ 0 (count_in bs)) 1 (rows_laid (row_of marked) (contents_from marked (count_in bs) 0 (map key_of (table_in bs))))
          → d₂ ≡ sets d₁ (offset_at marked (count_in bs) 0) (rows_laid marked.bodies (map body_of (table_in bs)))
          → seen (Ok (saved_size marked (count_in bs))) d₂ no_state ≡ save_lent bs room
      unfolding by
      save_done d₀ d₁ d₂ h z q r =
          let n = sym (table_count bs) in
          let w : d₂ ≡ padded room (saved_bytes marked (table_in bs)) =
          saved_written (table_in bs) room d₀ d₁ d₂ (omega (arith, table_count bs)) z
          (q ∙ (λ i. sets (set d₀ 0 (n i)) 1 (rows_laid (row_of marked) (contents_from marked (n i) 0 (map key_of (table_in bs))))))
          (r ∙ (λ i. sets d₁ (offset_at marked (n i) 0) (rows_laid marked.bodies (map body_of (table_in bs))))) in
          (λ i. record { number = 0; size = sym size i; reply = w i; state = no_state })
          ∙ said true true p (le-leb (length (saved_bytes marked (table_in bs))) room (omega (arith, size)))

-- ---- reading

module _ (form bs : List ℕ) where
  pub restore_no_table : (length bs ≡ table_length → ⊥) → left_as (Err NotATable) bs ≡ restore_lent form bs
  unfolding restore_lent
  restore_no_table h = sym (rw (ne_eqb (length bs) table_length h))

  module _ (n : length bs ≡ table_length) where
    by_form : (b : Bool) → is_saved (form_in form) capacity form ≡ b → cond b (left_as (Ok true) (table_bytes capacity (saved_in (form_in form) form))) (left_as (Err NotASavedForm) (table_bytes capacity [])) ≡ restore_lent form bs
    unfolding restore_lent
    by_form b e = sym (rw (eq-eqb (length bs) table_length n, e))

    -- the buffer that was cleared is an empty table
    emptied : (t : List ℕ) → t ≡ zeros (length bs) → t ≡ table_bytes capacity []
    emptied t z = z ∙ ap zeros n ∙ sym empty_bytes

    refused_so : (t : List ℕ) → t ≡ zeros (length bs) → is_saved (form_in form) capacity form ≡ false → left_as (Err NotASavedForm) t ≡ restore_lent form bs
    refused_so t z e = ap (left_as (Err NotASavedForm)) (emptied t z) ∙ by_form false e

    pub restore_not_laid : (t : List ℕ) → t ≡ zeros (length bs) → is_laid (form_in form) capacity form ≡ false → left_as (Err NotASavedForm) t ≡ restore_lent form bs
    unfolding is_saved
    restore_not_laid t z h = refused_so t z (rw h refl)

    module _ (h : is_laid (form_in form) capacity form ≡ true) where
      pub fill_empty : (t : List ℕ) → t ≡ zeros (length bs) → (t ≡ table_bytes capacity []) × (is_laid (form_in form) capacity form ≡ true)
      fill_empty t z = (emptied t z, h)

      module _ (clean : AllClean (saved_in (form_in form) form)) where
        few : length (saved_in (form_in form) form) ≤ capacity
        few =
            let m : Bool = eqb (length form) (saved_size marked (count_in form)) in
            omega (arith, saved_count m form, (laid_so m form capacity h).count)

        pub filled_table : (t : List ℕ) → t ≡ table_bytes capacity (saved_in (form_in form) form) → is_table capacity t ≡ true
        filled_table t e = ap (is_table capacity) e ∙ table_is capacity (saved_in (form_in form) form) few clean

        -- whether it is a saved form is whether the table that was filled is written
        judged : (t : List ℕ) → t ≡ table_bytes capacity (saved_in (form_in form) form) → is_saved (form_in form) capacity form ≡ is_savable (table_in t)
        unfolding is_saved
        judged t e = rw h (sym (ap (λ (x : List ℕ). is_savable (table_in x)) e ∙ ap is_savable (table_back capacity (saved_in (form_in form) form) few clean)))

        pub restore_done : (t : List ℕ) → t ≡ table_bytes capacity (saved_in (form_in form) form) → is_savable (table_in t) ≡ true → left_as (Ok true) t ≡ restore_lent form bs
        restore_done t e s = ap (left_as (Ok true)) e ∙ by_form true (judged t e ∙ s)

        pub restore_not_written : (t z : List ℕ) → t ≡ table_bytes capacity (saved_in (form_in form) form) → is_savable (table_in t) ≡ false → z ≡ zeros (length bs) → left_as (Err NotASavedForm) z ≡ restore_lent form bs
        restore_not_written t z e s c = refused_so z c (judged t e ∙ s)
