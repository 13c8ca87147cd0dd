-- Consecutive turns of a longer history are the turns of a part of it: so the turn is fair to any n of them. Assumes nothing.
use mathlib.Core.Path.{◌≡◌, refl, sym, ap, ◌∙◌, subst}
use mathlib.Core.Bool.{Bool, true, false, not, cond, ◌&&◌}
use mathlib.Core.List.{List, [], ◌∷◌, ◌++◌}
use Prim.Native.Nat.{ℕ, ◌≤◌}
use lib.ListN.{length}
use native.Mathlib.Omega.{arith}
use lib.Dec.{ltb, eqb}
use Rattle.store.specs.declared.lookup.Attribute.{Attribute}
use Rattle.store.specs.Contents.{cluster_of, attributes_of, reportable}
use Rattle.reporting.specs.declared.entry.Entry.{Entry}
use Rattle.reporting.specs.Entries.{find_l, mark_l}
use Rattle.reporting.specs.Claims.Events.{configured, cleared, asked, marked, after, Leads}
use Rattle.report.specs.Turn.{id_of, key_of, value_in, mark_each, one_frame, is_due}
use Rattle.report.specs.Claims.Words.{Each, OneOf}
use Rattle.report.specs.Claims.Turns.{frame_of, given_back, turned}
use Rattle.report.specs.Claims.History.{Happening, turn, event, left_by, Met, turns_of, HandedFrom, Handed, marking, TurnsAreEvents}
use Rattle.report.specs.Claims.Fairness.{count, of_cluster, Standing, EachAlone, found, reported, FairInRow, StoresOfBytes, NoneNew, DueAlone, Fairness}
use Rattle.report.proofs.Lists.{not_empty, same_first, same_rest, each_sharper}
use Rattle.report.proofs.Counts.{count_turned}
use Rattle.report.proofs.Moves.{due_reportable}
use Rattle.report.proofs.Fair.{count_after, fair_by_less}

-- ---- parts of a list of turns

handed_on : (form : ℕ) (last : ℕ) (pre ms : List Met) → HandedFrom form last (pre ++ ms) → Handed form ms
handed_on form last [] [] h = tt
handed_on form last [] (m ∷ ms) h = h.1
handed_on form last (p ∷ pre) ms h = handed_on form (given_back form p.turn p.entries) pre ms h.1

handed_after : (form : ℕ) (pre ms : List Met) → Handed form (pre ++ ms) → Handed form ms
handed_after form [] ms h = h
handed_after form (p ∷ pre) ms h = handed_on form (given_back form p.turn p.entries) pre ms h

handed_from_first : (form : ℕ) (last : ℕ) (ms post : List Met) → HandedFrom form last (ms ++ post) → HandedFrom form last ms
handed_from_first form last [] post h = tt
handed_from_first form last (m ∷ ms) post h = (h.0, handed_from_first form (given_back form m.turn m.entries) ms post h.1)

handed_first : (form : ℕ) (ms post : List Met) → Handed form (ms ++ post) → Handed form ms
handed_first form [] post h = tt
handed_first form (m ∷ ms) post h = handed_from_first form (given_back form m.turn m.entries) ms post h

alone_after : (form : ℕ) (pre ms : List Met) → DueAlone form (pre ++ ms) → DueAlone form ms
alone_after form [] ms h = h
alone_after form (p ∷ pre) ms h = alone_after form pre ms h.1

alone_first : (form : ℕ) (ms post : List Met) → DueAlone form (ms ++ post) → DueAlone form ms
alone_first form [] post h = tt
alone_first form (m ∷ ms) post h = (h.0, alone_first form ms post h.1)

bytes_after : (pre ms : List Met) → StoresOfBytes (pre ++ ms) → StoresOfBytes ms
bytes_after [] ms h = h
bytes_after (p ∷ pre) ms h = bytes_after pre ms h.1

bytes_first : (ms post : List Met) → StoresOfBytes (ms ++ post) → StoresOfBytes ms
bytes_first [] post h = tt
bytes_first (m ∷ ms) post h = (h.0, bytes_first ms post h.1)

-- ---- parts of a history

new_split : (form limit cluster : ℕ) (hs gs : List Happening) (l : List Entry) → NoneNew form limit cluster (hs ++ gs) l → NoneNew form limit cluster hs l × NoneNew form limit cluster gs (left_by form limit hs l)
new_split form limit cluster [] gs l h = (tt, h)
new_split form limit cluster (turn u ∷ hs) gs l h = new_split form limit cluster hs gs (turned form u l) h
new_split form limit cluster (event e ∷ hs) gs l h = let r = new_split form limit cluster hs gs (after limit e l) h.1 in ((h.0, r.0), r.1)

count_left : (form limit cluster : ℕ) (hs : List Happening) (l : List Entry) → NoneNew form limit cluster hs l → count (of_cluster cluster) (left_by form limit hs l) ≤ count (of_cluster cluster) l
count_left form limit cluster [] l h = omega arith
count_left form limit cluster (turn u ∷ hs) l h = let r = count_left form limit cluster hs (turned form u l) h in let p = count_turned (of_cluster cluster) form u l in omega (arith, r, p)
count_left form limit cluster (event e ∷ hs) l h =
    let p = count_after cluster (of_cluster cluster) (λ k t. t) limit e l h.0 in
    let r = count_left form limit cluster hs (after limit e l) h.1 in
    omega (arith, p, r)

-- the sentence's terms are more than is asked for
standing_new : (form limit cluster : ℕ) (hs : List Happening) (l : List Entry) → Standing cluster hs → NoneNew form limit cluster hs l
standing_new form limit cluster [] l h = tt
standing_new form limit cluster (turn u ∷ hs) l h = standing_new form limit cluster hs (turned form u l) h
standing_new form limit cluster (event (configured k g) ∷ hs) l h =
    (ap (λ b. b && not (ltb (find_l k l) (length l))) h.0, standing_new form limit cluster hs (after limit (configured k g) l) h.1)
standing_new form limit cluster (event (cleared k) ∷ hs) l h = (tt, standing_new form limit cluster hs (after limit (cleared k) l) h.1)
standing_new form limit cluster (event (asked k now v a) ∷ hs) l h = (tt, standing_new form limit cluster hs l h)
standing_new form limit cluster (event (marked k now v) ∷ hs) l h = (tt, standing_new form limit cluster hs (after limit (marked k now v) l) h)

each_due : (form : ℕ) (ms : List Met) → EachAlone form ms → DueAlone form ms
each_due form [] h = tt
each_due form (m ∷ ms) h = (
  each_sharper reportable (is_due m.turn.store m.turn.now m.entries) (λ a. one_frame m.turn (a ∷ [])) (due_reportable m.turn.store m.turn.now m.entries)
      (attributes_of form m.turn.store) h.0,
  each_due form ms h.1,
)

-- a history whose turns are these and those
pub record Cut (form limit cluster : ℕ) (hs : List Happening) (l : List Entry) (these those : List Met) : Type 0 where
  pub early : List Happening
  pub late : List Happening
  pub whole : hs ≡ early ++ late
  pub first : turns_of form limit cluster early l ≡ these
  pub second : turns_of form limit cluster late (left_by form limit early l) ≡ those

cut : (form limit cluster : ℕ) (hs : List Happening) (l : List Entry) (these those : List Met) → turns_of form limit cluster hs l ≡ these ++ those → Cut form limit cluster hs l these those
cut form limit cluster [] l [] those h = record { early = []; late = []; whole = refl; first = refl; second = h }
cut form limit cluster (event e ∷ hs) l [] those h = record { early = []; late = event e ∷ hs; whole = refl; first = refl; second = h }
cut form limit cluster (turn u ∷ hs) l [] those h = record { early = []; late = turn u ∷ hs; whole = refl; first = refl; second = h }
cut form limit cluster [] l (m ∷ these) those h = absurd (not_empty m (these ++ those) (sym h))
cut form limit cluster (event e ∷ hs) l (m ∷ these) those h =
    let r = cut form limit cluster hs (after limit e l) (m ∷ these) those h in
    record { early = event e ∷ r.early; late = r.late; whole = ap (λ x. event e ∷ x) r.whole; first = r.first; second = r.second }
cut form limit cluster (turn u ∷ hs) l (m ∷ these) those h =
    go (eqb (cluster_of u.store) cluster) refl h (cut form limit cluster hs (turned form u l))
  where
    rest : List Met
    rest = turns_of form limit cluster hs (turned form u l)

    here : Met
    here = record { turn = u; entries = l }

    on : Bool → List Happening → List Met
    on b gs = cond b (here ∷ turns_of form limit cluster gs (turned form u l)) (turns_of form limit cluster gs (turned form u l))

    go : (b : Bool) → eqb (cluster_of u.store) cluster ≡ b → cond b (here ∷ rest) rest ≡ m ∷ (these ++ those)
        → ((xs ys : List Met) → rest ≡ xs ++ ys → Cut form limit cluster hs (turned form u l) xs ys) → Cut form limit cluster (turn u ∷ hs) l (m ∷ these) those
    go true e h ih =
        let r = ih these those (same_rest here m rest (these ++ those) h) in
        record {
          early = turn u ∷ r.early;
          late = r.late;
          whole = ap (λ x. turn u ∷ x) r.whole;
          first = ap (λ b. on b r.early) e ∙ (λ i. same_first here m rest (these ++ those) h i ∷ r.first i);
          second = r.second;
        }
    go false e h ih =
        let r = ih (m ∷ these) those h in
        record {
          early = turn u ∷ r.early;
          late = r.late;
          whole = ap (λ x. turn u ∷ x) r.whole;
          first = ap (λ b. on b r.early) e ∙ r.first;
          second = r.second;
        }

-- ---- the turn is fair, to any n of them

pub fair : Fairness
fair form limit cluster x hs l st by ha al one many fo =
    fair_by_less form limit cluster x hs l (standing_new form limit cluster hs l st) by ha (each_due form (turns_of form limit cluster hs l) al) one many fo

pub in_row : FairInRow
in_row form limit cluster x hs l pre row post st order by ha al one many fo =
    let a = cut form limit cluster hs l pre (row ++ post) order in
    let b = cut form limit cluster a.late (left_by form limit a.early l) row post a.second in
    let s = new_split form limit cluster a.early a.late l (subst (λ hs. NoneNew form limit cluster hs l) a.whole (standing_new form limit cluster hs l st)) in
    let t = new_split form limit cluster b.early b.late (left_by form limit a.early l) (subst (λ hs. NoneNew form limit cluster hs (left_by form limit a.early l)) b.whole s.1) in
    let back = sym b.first in
    let n = count_left form limit cluster a.early l s.0 in
    let m : count (of_cluster cluster) l ≤ length (turns_of form limit cluster b.early (left_by form limit a.early l)) = subst (λ ms. count (of_cluster cluster) l ≤ length ms) back many in
    subst (OneOf (reported form x)) b.first
    (fair_by_less form limit cluster x b.early (left_by form limit a.early l) t.0
    (subst StoresOfBytes back (bytes_first row post (bytes_after pre (row ++ post) (subst StoresOfBytes order by))))
    (subst (Handed form) back (handed_first form row post (handed_after form pre (row ++ post) (subst (Handed form) order ha))))
    (subst (DueAlone form) back (alone_first form row post (alone_after form pre (row ++ post) (subst (DueAlone form) order (each_due form (turns_of form limit cluster hs l) al)))))
    (subst (λ ms. 1 ≤ length ms) back one)
    (omega (arith, n, m))
    (subst (Each (found form x)) back fo))

-- ---- a turn is its events

marks_lead : (limit : ℕ) (s : List ℕ) (now : ℕ) (w : List Attribute) (l : List Entry) → Leads limit (marking s now w) l (mark_each s now w l)
marks_lead limit s now [] l = record { honest = tt; table = refl }
marks_lead limit s now (a ∷ w) l =
    let r = marks_lead limit s now w (mark_l (key_of (cluster_of s) (id_of a)) now (value_in s a) l) in
    record { honest = (tt, r.honest); table = r.table }

pub turn_leads : TurnsAreEvents
turn_leads form limit u l = marks_lead limit u.store u.now (frame_of form u l) l
