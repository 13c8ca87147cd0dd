-- Definitions. THE REPORT TURN (document 02, request 3): "for one store it takes the due entries in ascending id, an id once, starting above the last id
-- reported (the caller's, at first none) and going round, puts them into one Report Attributes frame, marks those it wrote and stops at the first that
-- does not fit. No number counts as 0; an entry whose attribute is gone or not reportable is passed over. It gives back the last id it wrote or, if
-- none, the one handed in."
use Rattle.std.specs.Prelude.{ℕ, Bool, cond, ◌&&◌, List, [], ◌∷◌, ◌++◌, length, leb, ℤ, pos, Err, Ok, Result, Some}
use Rattle.frame.specs.declared.answer.Refusal.TheVariants.{ReplyTooLong, NothingToSend, NotAStore, NotATable}
use Rattle.frame.specs.Answer.{Outcome, replied, refused}
use Rattle.frame.specs.Encoded.{encode_all, fits}
use Rattle.store.specs.declared.lookup.Attribute.{Attribute}
use Rattle.frame.specs.declared.answer.Refusal.{Refusal}
use Rattle.store.specs.Contents.{cluster_of, attributes_of, reportable}
use Rattle.store.specs.Layout.{is_store}
use Rattle.store.specs.Value.{number_in}
use Rattle.reporting.specs.declared.entry.Key.{Key}
use Rattle.reporting.specs.declared.entry.Entry.{Entry}
use Rattle.reporting.specs.Entries.{mark_l}
use Rattle.reporting.specs.Due.{due_l}
use Rattle.reporting.specs.Table.{capacity}
use Rattle.reporting.specs.Carried.{table_in, is_table, table_bytes}
use Rattle.report.specs.Report.{encode, record_of, report_head}
use Rattle.report.specs.Round.{keep, round, fitting, last_of}

-- what the caller hands in beside the table's bytes; the cluster is the store's
pub record Turn : Type 0 where
  pub store : List ℕ
  pub sequence : ℕ
  pub last : ℕ
  pub now : ℕ
  pub room : ℕ

abbrev pub turn_for : List ℕ → ℕ → ℕ → ℕ → ℕ → Turn
turn_for s sequence last time room = record { store = s; sequence = sequence; last = last; now = time; room = room }

-- ---- one attribute

abbrev pub id_of : Attribute → ℕ
id_of a = a.name.0

-- what its entry is found by
abbrev pub key_of : ℕ → ℕ → Key
key_of cluster id = record { cluster = record { 0 = cluster }; attribute = record { 0 = id } }

-- "No number counts as 0"
abbrev pub or_zero : Result ℤ Refusal → ℤ
or_zero (Ok v) = v
or_zero (Err why) = pos 0

abbrev pub value_in : List ℕ → Attribute → ℤ
value_in s a = or_zero (number_in s (Some a))

-- it is reportable, and an ask for it is a yes
unfoldable pub is_due : List ℕ → ℕ → List Entry → Attribute → Bool
is_due s now l a = reportable a && due_l (key_of (cluster_of s) (id_of a)) now (value_in s a) l

-- its record: id (2), type (1), value
unfoldable pub record_in : List ℕ → Attribute → List ℕ
record_in s a = encode (record_of s (id_of a) a)

-- ---- all of them

-- "the due entries in ascending id, an id once": a store has its attributes in ascending id, each once; of equal keys the first entry counts, as
-- for an ask
abbrev pub due_of : ℕ → List ℕ → ℕ → List Entry → List Attribute
due_of form s now l = keep (is_due s now l) (attributes_of form s)

-- the records of these fit one frame
abbrev pub one_frame : Turn → List Attribute → Bool
one_frame u these = fits (record_in u.store) u.room (length (report_head u.sequence)) these

-- those that are written
abbrev pub written_of : ℕ → Turn → List Entry → List Attribute
written_of form u l = fitting (one_frame u) (round id_of u.last (due_of form u.store u.now l))

-- "marks those it wrote"
abbrev pub mark_each : List ℕ → ℕ → List Attribute → List Entry → List Entry
mark_each s now [] l = l
mark_each s now (a ∷ more) l = mark_each s now more (mark_l (key_of (cluster_of s) (id_of a)) now (value_in s a) l)

-- ---- the answer

-- what a turn may change: the table's bytes, and the last id
pub record After : Type 0 where
  pub table : List ℕ
  pub last : ℕ

abbrev pub after_turn : List ℕ → ℕ → After
after_turn bs last = record { table = bs; last = last }

-- the frame with these records: 5 if not even the first was written
abbrev pub framed : Turn → List ℕ → List Attribute → Outcome After
framed u bs [] = refused u.room ReplyTooLong (after_turn bs u.last)
framed u bs (a ∷ more) =
    replied u.room (report_head u.sequence ++ encode_all (record_in u.store) (a ∷ more))
    (after_turn (table_bytes capacity (mark_each u.store u.now (a ∷ more) (table_in bs))) (last_of id_of u.last (a ∷ more)))

-- 6 if nothing is due
abbrev pub sent : Turn → List ℕ → List Attribute → List Attribute → Outcome After
sent u bs [] written = refused u.room NothingToSend (after_turn bs u.last)
sent u bs (a ∷ more) written = framed u bs written

-- A TURN over the bytes of a table: 7, 8 and 5 for the header, "6 if nothing is due, then 5 if the first due record does not fit, nothing marked"
unfoldable pub turn_of : ℕ → Turn → List ℕ → Outcome After
turn_of form u bs =
    cond (is_store form u.store)
    (cond (is_table capacity bs)
    (cond (leb (length (report_head u.sequence)) u.room)
    (sent u bs (due_of form u.store u.now (table_in bs)) (written_of form u (table_in bs)))
    (refused u.room ReplyTooLong (after_turn bs u.last)))
    (refused u.room NotATable (after_turn bs u.last)))
    (refused u.room NotAStore (after_turn bs u.last))
