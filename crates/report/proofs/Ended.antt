-- The end of a turn, and the whole. Assumes nothing.
use Rattle.std.specs.Prelude.{Err, None, Ok, Option, Result, Some}
use mathlib.Core.Path.{◌≡◌, refl, sym, ap, ◌∙◌, subst}
use mathlib.Core.Bool.{true, false, not, cond}
use mathlib.Core.List.{List, [], ◌∷◌, ◌++◌, append-nil}
use Prim.Native.Nat.{ℕ, ◌≤◌, ◌<◌}
use native.Mathlib.Omega.{arith}
use lib.ListN.{length, length-append, length-replicate}
use borrow.Author.Tests.{le-leb, lt-leb}
use Rattle.types.specs.Number.{AllBytes, bytes_of, zeros}
use Rattle.frame.specs.declared.answer.Refusal.{Refusal}
use Rattle.frame.specs.declared.answer.Refusal.TheVariants.{ReplyTooLong, NothingToSend, NotAStore, NotATable}
use Rattle.frame.specs.declared.header.ZclHeader.{ZclHeader}
use Rattle.frame.specs.declared.command_identifier.CommandIdentifier.TheVariants.{ReportAttributes}
use Rattle.frame.specs.Answer.{Outcome, no_state, within, seen, replied, refused}
use Rattle.frame.specs.Inside.Buffer.{putting, put, Shows}
use Rattle.frame.specs.Header.{reply_head}
use Rattle.frame.specs.Encoded.{encode_all}
use Rattle.frame.proofs.Buffer.{PutAt, shows_cleared, shows_put, shows_full}
use Rattle.frame.proofs.Outcome.{seen_reply, seen_refused}
use Rattle.store.specs.declared.lookup.Attribute.{Attribute}
use Rattle.store.specs.Contents.{attributes_of}
use Rattle.store.specs.Layout.{is_store}
use Rattle.reporting.specs.Table.{capacity}
use Rattle.reporting.specs.Carried.{is_table, table_in, table_bytes}
use Rattle.reporting.proofs.CarriageTable.{read_own}
use Rattle.reporting.proofs.Lending.{seen_bytes}
use Rattle.report.specs.declared.turn.Swept.{Swept}
use Rattle.report.specs.Report.{encode, unasked, report_head}
use Rattle.report.specs.Round.{above, last_of}
use Rattle.report.specs.Turn.{Turn, id_of, record_in, turn_of, turn_for, after_turn}
use Rattle.report.specs.Inside.Loop.{Sweep, sweep_at, sweep, swept, ended}
use Rattle.report.specs.Inside.Turn.{Stands, Sweeps, closing, Finishes}
use Rattle.report.proofs.Sweeps.{loop_is}

-- ---- the answer

-- a frame with a record is longer than its header
longer : (s : List ℕ) (head : List ℕ) (a : Attribute) (more : List Attribute) → length (head ++ encode_all (record_in s) (a ∷ more)) ≤ length head → ⊥
unfolding encode_all record_in encode bytes_of
longer s head a more h = let n = length-append head (encode_all (record_in s) (a ∷ more)) in omega (arith, n, h)

module _ (d : List ℕ) (from : ℕ) (c : Swept) where
  pub finish_none : (why : Refusal) → why ≡ cond c.full ReplyTooLong NothingToSend → c.out ≤ from → (x : Result ℕ Refusal) (d₁ : List ℕ) → seen x d₁ no_state ≡ refused (length d) why no_state
      → Finishes d from c x d₁
  finish_none why w e x d₁ h s sequence [] f sh = h ∙ ap (λ y. refused (length d) y no_state) w
  finish_none why w e x d₁ h s sequence (a ∷ more) f sh = absurd (longer s (report_head sequence) a more (let p = sh.place in omega (arith, p, e, f)))

  pub finish_some : from < c.out → Finishes d from c (Ok c.out) d
  unfolding encode_all
  finish_some e s sequence [] f sh = absurd (let p = sh.place ∙ ap length (append-nil (report_head sequence)) in omega (arith, p, e, f))
  finish_some e s sequence (a ∷ more) f sh = seen_reply (length d) d c.out (report_head sequence ++ encode_all (record_in s) (a ∷ more)) no_state sh refl

-- ---- the whole

module _ (s : List ℕ) (sequence last time space : ℕ) (bs : List ℕ) where
  abbrev u : Turn
  u = turn_for s sequence last time space

  -- an answer, with what a turn may change
  seen_so : (x : Result ℕ Refusal) (d : List ℕ) (o : Outcome (Unit {0})) (bs₁ : List ℕ) (back : ℕ) → seen x d no_state ≡ o → seen x d (after_turn bs₁ back) ≡ within (λ (z : Unit {0}). after_turn bs₁ back) o
  seen_so x d o bs₁ back h = ap (within (λ (z : Unit {0}). after_turn bs₁ back)) h

  pub turn_no_store : is_store 8 s ≡ false → (x : Result ℕ Refusal) (d : List ℕ) → seen x d no_state ≡ refused space NotAStore no_state → seen x d (after_turn bs last) ≡ turn_of 8 u bs
  unfolding turn_of
  turn_no_store e x d h = seen_so x d (refused space NotAStore no_state) bs last h ∙ rw e

  module _ (store : is_store 8 s ≡ true) where
    pub turn_no_table : is_table capacity bs ≡ false → (x : Result ℕ Refusal) (d : List ℕ) → seen x d no_state ≡ refused space NotATable no_state → seen x d (after_turn bs last) ≡ turn_of 8 u bs
    unfolding turn_of
    turn_no_table e x d h = seen_so x d (refused space NotATable no_state) bs last h ∙ rw (store, e)

    module _ (table : is_table capacity bs ≡ true) (own : bs ≡ table_bytes capacity (table_in bs)) where
      headless : space < length (report_head sequence) → refused space ReplyTooLong (after_turn bs last) ≡ turn_of 8 u bs
      unfolding turn_of
      headless h = rw (store, table, lt-leb (length (report_head sequence)) space h)

      -- a cleared buffer, and the header put there
      module _ (d₀ : List ℕ) (z : d₀ ≡ zeros space) (request : ZclHeader) (is : request ≡ unasked sequence) (r : Option ℕ) (d₁ : List ℕ)
          (p : putting r d₁ ≡ put d₀ 0 (reply_head request ReportAttributes)) where
        puts : putting r d₁ ≡ put d₀ 0 (report_head sequence)
        puts = p ∙ ap (λ (x : ZclHeader). put d₀ 0 (reply_head x ReportAttributes)) is

        len : length d₀ ≡ space
        len = ap length z ∙ length-replicate space 0

        pub turn_headless : r ≡ None → seen (Err ReplyTooLong) d₁ (after_turn bs last) ≡ turn_of 8 u bs
        turn_headless q =
            let w = shows_full d₀ 0 [] (report_head sequence) r d₁ (shows_cleared space d₀ z) puts q in
            seen_so (Err ReplyTooLong) d₁ (refused space ReplyTooLong no_state) bs last (seen_refused space d₁ ReplyTooLong no_state (w.1 ∙ z))
            ∙ headless (let l = len in omega (arith, w.0, l))

        module _ (from : ℕ) (q : r ≡ Some from) where
          fitted : PutAt d₀ [] (report_head sequence) from d₁
          fitted = shows_put d₀ 0 [] (report_head sequence) r from d₁ (shows_cleared space d₀ z) puts q

          enough : length (report_head sequence) ≤ space
          enough = let l = len in omega (arith, fitted.fits, l)

          abbrev start : Swept
          start = record { out = from; last = last; full = false }

          begins : Stands s last sequence (sweep_at (table_in bs) [] false) bs d₁ start
          unfolding encode_all
          begins =
              record {
                table = read_own capacity bs table;
                shows = subst (Shows d₁ from) (sym (append-nil (report_head sequence))) fitted.shows;
                full = refl;
                last = refl;
              }

          closed : (x : Sweep) (bs₁ d₂ d₃ : List ℕ) (c : Swept) (t : Result ℕ Refusal) → AllBytes bs₁ → length d₂ ≡ space → Stands s last sequence x bs₁ d₂ c → Finishes d₂ from c t d₃
              → seen t d₃ (after_turn bs₁ c.last) ≡ ended u x.entries x.full x.written
          closed x bs₁ d₂ d₃ c t ab l st f =
              go x.written (f s sequence x.written fitted.shows.place st.shows) st.last
            where
              bytes : bs₁ ≡ table_bytes capacity x.entries
              bytes = seen_bytes x.entries bs₁ ab st.table

              left : (w : List Attribute) → c.last ≡ last_of id_of last w → after_turn bs₁ c.last ≡ after_turn (table_bytes capacity x.entries) (last_of id_of last w)
              left w e = λ i. after_turn (bytes i) (e i)

              go : (w : List Attribute) → seen t d₃ no_state ≡ closing (length d₂) sequence s c.full w → c.last ≡ last_of id_of last w → seen t d₃ (after_turn bs₁ c.last) ≡ ended u x.entries x.full w
              go [] k e =
                  seen_so t d₃ (refused (length d₂) (cond c.full ReplyTooLong NothingToSend) no_state) bs₁ c.last k
                  ∙ (λ i. refused (l i) (cond (st.full i) ReplyTooLong NothingToSend) (left [] e i))
              go (b ∷ more) k e =
                  seen_so t d₃ (replied (length d₂) (report_head sequence ++ encode_all (record_in s) (b ∷ more)) no_state) bs₁ c.last k
                  ∙ (λ i. replied (l i) (report_head sequence ++ encode_all (record_in s) (b ∷ more)) (left (b ∷ more) e i))

          pub turn_done : (first both : Swept) (bs₁ bs₂ d₂ d₃ d₄ : List ℕ) (t : Result ℕ Refusal) → length d₂ ≡ length d₁ → length d₃ ≡ length d₂ → AllBytes bs₂
              → Sweeps s last true time bs d₁ start first bs₁ d₂ → Sweeps s last false time bs₁ d₂ first both bs₂ d₃ → Finishes d₃ from both t d₄
              → seen t d₄ (after_turn bs₂ both.last) ≡ turn_of 8 u bs
          turn_done first both bs₁ bs₂ d₂ d₃ d₄ t l₂ l₃ ab one two f =
              let n₁ : length d₁ ≡ space = fitted.same ∙ len in
              let a = one.1 sequence (sweep_at (table_in bs) [] false) begins in
              let b = two.1 sequence _ a in
              let c : Stands s last sequence (swept 8 u (table_in bs)) bs₂ d₃ both =
              subst (λ y. Stands s last sequence y bs₂ d₃ both)
              (λ i. sweep (λ a. not (above last (id_of a))) (turn_for s sequence last time ((l₂ ∙ n₁) i)) (attributes_of 8 s) (sweep (λ a. above last (id_of a)) (turn_for s sequence last time (n₁ i)) (attributes_of 8 s) (sweep_at (table_in bs) [] false))) b in
              closed (swept 8 u (table_in bs)) bs₂ d₃ d₄ both t ab (l₃ ∙ l₂ ∙ n₁) c f
              ∙ sym (loop_is 8 u bs store table own (le-leb (length (report_head sequence)) space enough))
