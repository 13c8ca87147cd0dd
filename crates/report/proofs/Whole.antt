-- A report: the store, the header, the list, and its ids. Assumes nothing.
use Rattle.std.specs.Prelude.{Err, None, Option, Result, Some}
use mathlib.Core.Path.{◌≡◌, ap, ◌∙◌}
use mathlib.Core.Bool.{true, false}
use mathlib.Core.List.{List, []}
use Prim.Native.Nat.{ℕ, ◌≤◌, ◌<◌}
use native.Mathlib.Omega.{arith}
use lib.ListN.{length, length-replicate}
use borrow.Author.Tests.{le-leb, lt-leb, le-ltb, lt-ltb}
use Rattle.types.specs.Number.{zeros}
use Rattle.frame.specs.Inside.Buffer.{putting, put}
use Rattle.frame.specs.Header.{reply_head}
use Rattle.frame.specs.Answer.{no_state, seen, refused}
use Rattle.frame.specs.declared.header.ZclHeader.{ZclHeader}
use Rattle.frame.specs.declared.command_identifier.CommandIdentifier.TheVariants.{ReportAttributes}
use Rattle.frame.specs.declared.answer.Refusal.{Refusal}
use Rattle.frame.specs.declared.answer.Refusal.TheVariants.{ReplyTooLong, NotAStore, EmptyReport}
use Rattle.frame.proofs.Buffer.{PutAt, shows_cleared, shows_put, shows_full}
use Rattle.frame.proofs.Outcome.{seen_refused}
use Rattle.store.specs.Layout.{is_store}
use Rattle.report.specs.Report.{report_from, report_reply, unasked, report_of}
use Rattle.report.specs.Inside.Report.{ReportsAll}

module _ (s : List ℕ) (sequence : ℕ) (ids : List ℕ) (room : ℕ) where
  abbrev head : List ℕ
  head = reply_head (unasked sequence) ReportAttributes

  -- no store
  pub report_of_none : is_store 8 s ≡ false → refused room NotAStore no_state ≡ report_of 8 s sequence ids room
  unfolding report_of
  report_of_none e = rw e

  module _ (store : is_store 8 s ≡ true) where
    headless : room < length head → refused room ReplyTooLong no_state ≡ report_of 8 s sequence ids room
    unfolding report_of
    headless h = rw (store, lt-leb (length head) room h)

    listless : length head ≤ room → length ids ≡ 0 → refused room EmptyReport no_state ≡ report_of 8 s sequence ids room
    unfolding report_of
    listless h e = rw (store, le-leb (length head) room h, le-ltb 0 (length ids) (omega arith))

    behind_it : length head ≤ room → (length ids ≡ 0 → ⊥) → report_reply room head (report_from 8 s room (length head) [] ids) ≡ report_of 8 s sequence ids room
    unfolding report_of
    behind_it h e = rw (store, le-leb (length head) room h, lt-ltb 0 (length ids) (omega (arith, e)))

    -- a cleared buffer, and the header put there
    module _ (d₀ : List ℕ) (z : d₀ ≡ zeros room) (request : ZclHeader) (is : request ≡ unasked sequence) (r : Option ℕ) (d₁ : List ℕ)
        (p : putting r d₁ ≡ put d₀ 0 (reply_head request ReportAttributes)) where
      puts : putting r d₁ ≡ put d₀ 0 head
      puts = p ∙ ap (λ (x : ZclHeader). put d₀ 0 (reply_head x ReportAttributes)) is

      len : length d₀ ≡ room
      len = ap length z ∙ length-replicate room 0

      -- it does not fit
      pub report_headless : r ≡ None → seen (Err ReplyTooLong) d₁ no_state ≡ report_of 8 s sequence ids room
      report_headless q =
          let w = shows_full d₀ 0 [] head r d₁ (shows_cleared room d₀ z) puts q in
          let l : length d₀ ≡ room = len in
          seen_refused room d₁ ReplyTooLong no_state (w.1 ∙ z) ∙ headless (omega (arith, w.0))

      module _ (from : ℕ) (q : r ≡ Some from) where
        fitted : PutAt d₀ [] head from d₁
        fitted = shows_put d₀ 0 [] head r from d₁ (shows_cleared room d₀ z) puts q

        within : length head ≤ room
        within = let l : length d₀ ≡ room = len in omega (arith, fitted.fits)

        -- the list is empty
        pub report_empty : length ids ≡ 0 → (a : Result ℕ Refusal) (after : List ℕ) → seen a after no_state ≡ refused (length d₁) EmptyReport no_state
            → seen a after no_state ≡ report_of 8 s sequence ids room
        report_empty e a after g =
            g ∙ ap (λ (k : ℕ). refused k EmptyReport no_state) (fitted.same ∙ len) ∙ listless within e

        -- its ids, behind the header
        pub report_all : (length ids ≡ 0 → ⊥) → (a : Result ℕ Refusal) (after : List ℕ) → ReportsAll s ids d₁ from a after → seen a after no_state ≡ report_of 8 s sequence ids room
        report_all e a after g =
            g head fitted.shows
            ∙ ap (λ (k : ℕ). report_reply k head (report_from 8 s k (length head) [] ids)) (fitted.same ∙ len)
            ∙ behind_it within e
