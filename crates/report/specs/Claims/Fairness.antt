-- Claims. THE TURN IS FAIR: "On a clock that does not go back, where each turn of the cluster is handed the id that its turn before gave back, every
-- reportable attribute's record fits the frame alone and no entry is set or cleared between, an attribute found due in each of n consecutive turns, n
-- being the cluster's entries, is in one of those frames."
-- The clock is not needed: what is found due is supposed. Entries of other clusters may be set and cleared, anything may be marked and asked, and each
-- turn may be over another store of the cluster.
use Rattle.std.specs.Prelude.{◌≡◌, ℕ, suc, ◌≤◌, Bool, false, not, cond, ◌&&◌, List, [], ◌∷◌, ◌++◌, length, ltb, eqb}
use Rattle.types.specs.Number.{AllBytes}
use Rattle.store.specs.Contents.{attributes_of, reportable}
use Rattle.reporting.specs.declared.entry.Key.{Key}
use Rattle.reporting.specs.declared.entry.Entry.{Entry}
use Rattle.reporting.specs.Entries.{find_l}
use Rattle.reporting.specs.Claims.Events.{Event, configured, cleared, asked, marked, after}
use Rattle.report.specs.Round.{keep}
use Rattle.report.specs.Turn.{id_of, due_of, one_frame}
use Rattle.report.specs.Claims.Words.{names, Each, OneOf}
use Rattle.report.specs.Claims.Turns.{found_in, frame_of, turned}
use Rattle.report.specs.Claims.History.{Happening, turn, event, Met, turns_of, Handed}

-- how many entries have a key that passes the test
abbrev pub count : (Key → Bool) → List Entry → ℕ
count ok [] = 0
count ok (e ∷ es) = cond (ok e.key) (suc (count ok es)) (count ok es)

abbrev pub of_cluster : ℕ → Key → Bool
of_cluster cluster k = eqb k.cluster.0 cluster

abbrev pub found : ℕ → ℕ → Met → Bool
found form id m = names id_of id (found_in form m.turn m.entries)

abbrev pub reported : ℕ → ℕ → Met → Bool
reported form id m = names id_of id (frame_of form m.turn m.entries)

-- a store is bytes, so that an id has two of them and a last id is never taken for none
abbrev pub StoresOfBytes : List Met → Type 0
StoresOfBytes [] = Unit
StoresOfBytes (m ∷ ms) = AllBytes m.turn.store × StoresOfBytes ms

-- ---- as the sentence has it

-- "no entry is set or cleared between": none of the cluster
abbrev pub Standing : ℕ → List Happening → Type 0
Standing cluster [] = Unit
Standing cluster (turn u ∷ hs) = Standing cluster hs
Standing cluster (event (configured k g) ∷ hs) = (of_cluster cluster k ≡ false) × Standing cluster hs
Standing cluster (event (cleared k) ∷ hs) = (of_cluster cluster k ≡ false) × Standing cluster hs
Standing cluster (event (asked k now v a) ∷ hs) = Standing cluster hs
Standing cluster (event (marked k now v) ∷ hs) = Standing cluster hs

-- "every reportable attribute's record fits the frame alone"
abbrev pub EachAlone : ℕ → List Met → Type 0
EachAlone form [] = Unit
EachAlone form (m ∷ ms) = Each (λ a. one_frame m.turn (a ∷ [])) (keep reportable (attributes_of form m.turn.store)) × EachAlone form ms

-- The turns of a cluster in a history are n or more, n being its entries, and each finds the attribute due: it is in the frame of one of them. With n = 0
-- there must be a turn for that.
abbrev pub Fairness : Type 0
Fairness =
    (form limit cluster id : ℕ) (hs : List Happening) (l : List Entry)
    → Standing cluster hs
    → StoresOfBytes (turns_of form limit cluster hs l)
    → Handed form (turns_of form limit cluster hs l)
    → EachAlone form (turns_of form limit cluster hs l)
    → 1 ≤ length (turns_of form limit cluster hs l)
    → count (of_cluster cluster) l ≤ length (turns_of form limit cluster hs l)
    → Each (found form id) (turns_of form limit cluster hs l)
    → OneOf (reported form id) (turns_of form limit cluster hs l)

-- The same of a row of turns in a longer history.
abbrev pub FairInRow : Type 0
FairInRow =
    (form limit cluster id : ℕ) (hs : List Happening) (l : List Entry) (pre row post : List Met)
    → Standing cluster hs
    → turns_of form limit cluster hs l ≡ pre ++ (row ++ post)
    → StoresOfBytes (turns_of form limit cluster hs l)
    → Handed form (turns_of form limit cluster hs l)
    → EachAlone form (turns_of form limit cluster hs l)
    → 1 ≤ length row
    → count (of_cluster cluster) l ≤ length row
    → Each (found form id) row
    → OneOf (reported form id) row

-- ---- by less: clearing does no harm, nor does setting again what stands, nor a record that is too long while it is not due

-- no new id of the cluster comes
abbrev pub Known : ℕ → Event → List Entry → Type 0
Known cluster (configured k g) l = (of_cluster cluster k && not (ltb (find_l k l) (length l))) ≡ false
Known cluster (cleared k) l = Unit
Known cluster (asked k now v a) l = Unit
Known cluster (marked k now v) l = Unit

abbrev pub NoneNew : ℕ → ℕ → ℕ → List Happening → List Entry → Type 0
NoneNew form limit cluster [] l = Unit
NoneNew form limit cluster (turn u ∷ hs) l = NoneNew form limit cluster hs (turned form u l)
NoneNew form limit cluster (event e ∷ hs) l = Known cluster e l × NoneNew form limit cluster hs (after limit e l)

-- each record that is due fits the frame alone
abbrev pub DueAlone : ℕ → List Met → Type 0
DueAlone form [] = Unit
DueAlone form (m ∷ ms) = Each (λ a. one_frame m.turn (a ∷ [])) (due_of form m.turn.store m.turn.now m.entries) × DueAlone form ms

abbrev pub FairnessByLess : Type 0
FairnessByLess =
    (form limit cluster id : ℕ) (hs : List Happening) (l : List Entry)
    → NoneNew form limit cluster hs l
    → StoresOfBytes (turns_of form limit cluster hs l)
    → Handed form (turns_of form limit cluster hs l)
    → DueAlone form (turns_of form limit cluster hs l)
    → 1 ≤ length (turns_of form limit cluster hs l)
    → count (of_cluster cluster) l ≤ length (turns_of form limit cluster hs l)
    → Each (found form id) (turns_of form limit cluster hs l)
    → OneOf (reported form id) (turns_of form limit cluster hs l)
