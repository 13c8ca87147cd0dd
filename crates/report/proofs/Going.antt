-- The loop over the ids of a report: what is left of the list, from where it stands, is the whole. Assumes nothing.
use Rattle.std.specs.Prelude.{Err, Ok, Result}
use mathlib.Core.Path.{◌≡◌, refl, sym, ap, ◌∙◌, subst}
use mathlib.Core.Bool.{cond}
use mathlib.Core.List.{List, [], ◌∷◌, ◌++◌, append-nil}
use Prim.Native.Nat.{ℕ, ◌+◌, ◌≤◌, ◌<◌}
use native.Mathlib.Numerals.{add-one}
use lib.ListN.{length, get_or, drop, drop_of_length-le}
use lib.Seq.{drop-cons}
use Rattle.frame.specs.Inside.Buffer.{Shows}
use Rattle.frame.specs.Answer.{no_state, seen}
use Rattle.frame.specs.Walk.{done, stopped, walk, reached}
use Rattle.frame.specs.Encoded.{encode_all}
use Rattle.frame.specs.declared.answer.Refusal.{Refusal}
use Rattle.frame.proofs.Outcome.{seen_reply, seen_refused}
use Rattle.report.specs.Report.{ReportRecord, encode, Reported, all, trouble, report_one, goes_on, report_from, report_reply}
use Rattle.report.specs.Inside.Report.{More, Over, Shown, Reports}

-- ---- one id and the rest of the list

module _ (form : ℕ) (s : List ℕ) (room head : ℕ) (rs : List ReportRecord) (id : ℕ) (ids : List ℕ) where
  -- the walk from what this id makes of the records
  abbrev on : Reported → Reported
  on y = reached (cond (goes_on y) (walk (report_one form s room head) goes_on y done ids) (stopped (all rs) y))

  -- the rest goes on from these records
  from_more : (more : List ReportRecord) → report_one form s room head (all rs) id ≡ all more → report_from form s room head rs (id ∷ ids) ≡ report_from form s room head more ids
  unfolding report_from walk
  from_more more e = ap on e

  -- the rest is not looked at
  from_over : (why : Refusal) → report_one form s room head (all rs) id ≡ trouble why → report_from form s room head rs (id ∷ ids) ≡ trouble why
  unfolding report_from walk
  from_over why e = ap on e

-- ---- the loop

-- where the loop stands: the records that the buffer shows behind the head, and that the rest of the list goes on from them
pub record Going (s ids : List ℕ) (room : ℕ) (head frame : List ℕ) (i out : ℕ) : Type 0 where
  pub records : List ReportRecord
  pub shows : Shows frame out (head ++ encode_all encode records)
  pub same : report_from 8 s room (length head) records (drop i ids) ≡ report_from 8 s room (length head) [] ids

pub going_first : (s ids : List ℕ) (room : ℕ) (head frame : List ℕ) (out : ℕ) → Shows frame out head → Going s ids room head frame 0 out
unfolding encode_all
going_first s ids room head frame out w = record { records = []; shows = subst (Shows frame out) (sym (append-nil head)) w; same = refl }

module _ (s ids : List ℕ) (room : ℕ) (head frame : List ℕ) (i out : ℕ) (g : Going s ids room head frame i out) (len : length frame ≡ room) where
  -- no id is left
  pub going_done : length ids ≤ i → seen (Ok out) frame no_state ≡ report_reply room head (report_from 8 s room (length head) [] ids)
  unfolding report_from walk report_reply
  going_done h =
      seen_reply room frame out (head ++ encode_all encode g.records) no_state g.shows len
      ∙ ap (report_reply room head) (sym (ap (report_from 8 s room (length head) g.records) (drop_of_length-le ids h)) ∙ g.same)

  module _ (h : i < length ids) (r : Result ℕ Refusal) (after : List ℕ) (turn : Reports s (get_or ids i 0) frame out r after) where
    -- the next id, with the rest of the list behind it
    next : report_from 8 s room (length head) g.records (get_or ids i 0 ∷ drop (i + 1) ids) ≡ report_from 8 s room (length head) [] ids
    next =
        sym (ap (report_from 8 s room (length head) g.records) (drop-cons ids i 0 h ∙ ap (λ (k : ℕ). get_or ids i 0 ∷ drop k ids) (sym (add-one i)))) ∙ g.same

    -- what it makes of the records
    abbrev made : ℕ → Reported
    made k = report_one 8 s k (length head) (all g.records) (get_or ids i 0)

    shown : (a : Result ℕ Refusal) → r ≡ a → Shown head room (made room) a after
    shown a q =
        subst (λ (x : Result ℕ Refusal). Shown head room (made room) x after) q
        (subst (λ (k : ℕ). Shown head k (made k) r after) len (turn head g.records g.shows))

    -- its record fits
    pub going_more : (o : ℕ) → r ≡ Ok o → Going s ids room head after (i + 1) o
    going_more o q =
        let w : More head room (made room) o after = shown (Ok o) q in
        record {
          records = w.records;
          shows = w.longer.shows;
          same = sym (from_more 8 s room (length head) g.records (get_or ids i 0) (drop (i + 1) ids) w.records w.is) ∙ next;
        }

    -- it ends the report
    pub going_ends : (why : Refusal) → r ≡ Err why → seen r after no_state ≡ report_reply room head (report_from 8 s room (length head) [] ids)
    unfolding report_reply
    going_ends why q =
        let w : Over room (made room) why after = shown (Err why) q in
        ap (λ (x : Result ℕ Refusal). seen x after no_state) q
        ∙ seen_refused room after why no_state w.cleared
        ∙ ap (report_reply room head) (sym (from_over 8 s room (length head) g.records (get_or ids i 0) (drop (i + 1) ids) why w.is) ∙ next)
