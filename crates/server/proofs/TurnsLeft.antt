-- What a report turn leaves: it replies or refuses, and a refusal leaves all as it came. Assumes nothing.
use mathlib.Core.Path.{◌≡◌, refl, sym, ap, ◌∙◌}
use mathlib.Core.Bool.{Bool, true, false, cond}
use mathlib.Core.List.{List, [], ◌∷◌, ◌++◌, append-nil, append_assoc}
use Prim.Native.Nat.{ℕ, ◌+◌, ◌≤◌}
use native.Mathlib.Omega.{arith}
use lib.ListN.{length, length-append}
use lib.Dec.{leb}
use borrow.Author.Tests.{leb-true, le-leb}
use Rattle.frame.specs.declared.command_identifier.CommandIdentifier.TheVariants.{ReportAttributes}
use Rattle.frame.specs.declared.answer.Refusal.{Refusal}
use Rattle.frame.specs.declared.answer.Refusal.TheVariants.{ReplyTooLong, NothingToSend, NotAStore, NotATable}
use Rattle.frame.specs.Answer.{Outcome, refused}
use Rattle.frame.specs.Encoded.{encode_all, fits}
use Rattle.store.specs.declared.lookup.Attribute.{Attribute}
use Rattle.store.specs.Layout.{is_store}
use Rattle.reporting.specs.Table.{capacity}
use Rattle.reporting.specs.Carried.{is_table, table_in}
use Rattle.report.specs.Report.{unasked, report_head}
use Rattle.report.specs.Round.{round, fitting_behind}
use Rattle.report.specs.Turn.{Turn, id_of, record_in, due_of, one_frame, written_of, After, after_turn, framed, sent, turn_of}
use Rattle.server.specs.Claims.Left.{TurnClears, TurnThenZeros, TurnLength, TurnUntouched}
use Rattle.server.specs.Claims.Starts.{TurnsStart}
use Rattle.server.proofs.Says.{Says, sends, declines, says_clears, says_zeros, says_long, says_starts}

-- as many as fit, fit
module _ {A : Type 0} (fit : List A → Bool) where
  fits_behind : (early l : List A) → fit early ≡ true → fit (early ++ fitting_behind fit early l) ≡ true
  fits_behind early [] h = ap fit (append-nil early) ∙ h
  fits_behind early (a ∷ l) h = go (fit (early ++ (a ∷ []))) refl (fits_behind (early ++ (a ∷ [])) l)
    where
      go : (b : Bool) → fit (early ++ (a ∷ [])) ≡ b → (fit (early ++ (a ∷ [])) ≡ true → fit ((early ++ (a ∷ [])) ++ fitting_behind fit (early ++ (a ∷ [])) l) ≡ true)
          → fit (early ++ cond b (a ∷ fitting_behind fit (early ++ (a ∷ [])) l) []) ≡ true
      go true e ih = ap fit (sym (append_assoc early (a ∷ []) (fitting_behind fit (early ++ (a ∷ [])) l))) ∙ ih e
      go false e ih = ap fit (append-nil early) ∙ h

module _ (form : ℕ) (u : Turn) (bs : List ℕ) where
  abbrev head : List ℕ
  head = report_head u.sequence

  none_fits : leb (length head) u.room ≡ true → one_frame u [] ≡ true
  unfolding fits encode_all
  none_fits h = let k = leb-true (length head) u.room h in le-leb (length head + 0) u.room (omega (arith, k))

  -- what holds of every refusal, and of a frame with a record, holds of a turn
  turn_case : (P : Outcome After → Type 0) → ((why : Refusal) → P (refused u.room why (after_turn bs u.last)))
      → ((a : Attribute) (more : List Attribute) → one_frame u (a ∷ more) ≡ true → P (framed u bs (a ∷ more))) → P (turn_of form u bs)
  unfolding turn_of
  turn_case P no-frame frame =
      either (is_store form u.store) _ _ (either (is_table capacity bs) _ _ (by_head (leb (length head) u.room) refl) (no-frame NotATable)) (no-frame NotAStore)
    where
      either : (b : Bool) (x y : Outcome After) → P x → P y → P (cond b x y)
      either true x y h k = h
      either false x y h k = k

      by_frame : (w : List Attribute) → one_frame u w ≡ true → P (framed u bs w)
      by_frame [] h = no-frame ReplyTooLong
      by_frame (a ∷ more) h = frame a more h

      by_due : (d w : List Attribute) → one_frame u w ≡ true → P (sent u bs d w)
      by_due [] w h = no-frame NothingToSend
      by_due (a ∷ d) w h = by_frame w h

      by_head : (b : Bool) → leb (length head) u.room ≡ b
          → P (cond b (sent u bs (due_of form u.store u.now (table_in bs)) (written_of form u (table_in bs))) (refused u.room ReplyTooLong (after_turn bs u.last)))
      by_head true e =
          by_due (due_of form u.store u.now (table_in bs)) (written_of form u (table_in bs))
          (fits_behind (one_frame u) [] (round id_of u.last (due_of form u.store u.now (table_in bs))) (none_fits e))
      by_head false e = no-frame ReplyTooLong

  within_room : (w : List Attribute) → one_frame u w ≡ true → length (head ++ encode_all (record_in u.store) w) ≤ u.room
  unfolding fits
  within_room w h =
      let k = leb-true (length head + length (encode_all (record_in u.store) w)) u.room h in
      let n = length-append head (encode_all (record_in u.store) w) in
      omega (arith, k, n)

  turn_says : Says head u.room (turn_of form u bs)
  turn_says = turn_case (Says head u.room) (λ why. declines why refl) (λ a more h. sends (encode_all (record_in u.store) (a ∷ more)) (within_room (a ∷ more) h) refl)

pub turn_clears : TurnClears
turn_clears form u bs = says_clears _ u.room _ (turn_says form u bs)

pub turn_then_zeros : TurnThenZeros
turn_then_zeros form u bs = says_zeros _ u.room _ (turn_says form u bs)

pub turn_length : TurnLength
turn_length form u bs = says_long _ u.room _ (turn_says form u bs)

pub turn_untouched : TurnUntouched
turn_untouched form u bs =
    turn_case form u bs (λ o. (o.number ≡ 0 → ⊥) → o.state ≡ after_turn bs u.last) (λ why n. refl) (λ a more h n. absurd (n refl))

pub turns_start : TurnsStart
turns_start form u bs = says_starts (unasked u.sequence) ReportAttributes u.room _ (turn_says form u bs)
