-- Inside. What the functions of a report turn say; nothing that a caller must believe.
use Rattle.std.specs.Prelude.{◌≡◌, ℕ, Bool, true, false, not, cond, List, [], ◌∷◌, ◌++◌, length, Result}
use Rattle.frame.specs.declared.answer.Refusal.TheVariants.{ReplyTooLong, NothingToSend}
use Rattle.frame.specs.declared.answer.Refusal.{Refusal}
use Rattle.frame.specs.Answer.{Outcome, no_state, seen, replied, refused}
use Rattle.frame.specs.Inside.Buffer.{Shows, Longer, Stays}
use Rattle.frame.specs.Encoded.{encode_all}
use Rattle.store.specs.declared.lookup.Attribute.{Attribute}
use Rattle.store.specs.Contents.{cluster_of, attributes_of}
use Rattle.reporting.specs.Entries.{mark_l}
use Rattle.reporting.specs.Table.{capacity}
use Rattle.reporting.specs.Carried.{is_table, table_in, table_read, read_t}
use Rattle.report.specs.declared.turn.Tried.{Tried}
use Rattle.report.specs.declared.turn.Tried.TheVariants as TriedV
use Rattle.report.specs.declared.turn.Swept.{Swept}
use Rattle.report.specs.Report.{report_head}
use Rattle.report.specs.Round.{above, last_of}
use Rattle.report.specs.Turn.{Turn, turn_for, id_of, key_of, value_in, is_due, record_in}
use Rattle.report.specs.Inside.Loop.{Sweep, sweep_one, sweep}

-- it is not due
pub record Passes (s : List ℕ) (a : Attribute) (time : ℕ) (bs d bs' d' : List ℕ) : Type 0 where
  pub not_due : is_due s time (table_in bs) a ≡ false
  pub table : bs' ≡ bs
  pub frame : d' ≡ d

-- its record stands behind the others, and it is marked
pub record Writes (s : List ℕ) (a : Attribute) (time : ℕ) (head : List ℕ) (w : List Attribute) (bs d : List ℕ) (o : ℕ) (bs' d' : List ℕ) : Type 0 where
  pub is-due : is_due s time (table_in bs) a ≡ true
  pub table : read_t capacity bs' ≡ table_read true (mark_l (key_of (cluster_of s) (id_of a)) time (value_in s a) (table_in bs))
  pub frame : Longer (record_in s) head (w ++ (a ∷ [])) (length d) o d'

-- its record does not fit
pub record Fills (s : List ℕ) (a : Attribute) (time : ℕ) (head : List ℕ) (w : List Attribute) (bs d bs' d' : List ℕ) : Type 0 where
  pub is-due : is_due s time (table_in bs) a ≡ true
  pub table : bs' ≡ bs
  pub frame : Stays (record_in s) head (w ++ (a ∷ [])) (length d) d d'

abbrev pub Ways : List ℕ → Attribute → ℕ → List ℕ → List Attribute → List ℕ → List ℕ → Tried → List ℕ → List ℕ → Type 0
Ways s a time head w bs d TriedV.Passed bs' d' = Passes s a time bs d bs' d'
Ways s a time head w bs d (TriedV.Longer o) bs' d' = Writes s a time head w bs d o bs' d'
Ways s a time head w bs d TriedV.Full bs' d' = Fills s a time head w bs d bs' d'

-- one attribute, whatever records the buffer showed before it, and behind whatever head
abbrev pub Tries : List ℕ → Attribute → ℕ → List ℕ → List ℕ → ℕ → Tried → List ℕ → List ℕ → Type 0
Tries s a time bs d out r bs' d' =
    (is_table capacity bs' ≡ true) × ((head : List ℕ) (w : List Attribute) → Shows d out (head ++ encode_all (record_in s) w) → Ways s a time head w bs d r bs' d')

-- ---- a pass

-- the bytes carry a pass that has come so far
pub record Stands (s : List ℕ) (handed : ℕ) (sequence : ℕ) (x : Sweep) (bs d : List ℕ) (c : Swept) : Type 0 where
  pub table : read_t capacity bs ≡ table_read true x.entries
  pub shows : Shows d c.out (report_head sequence ++ encode_all (record_in s) x.written)
  pub full : c.full ≡ x.full
  pub last : c.last ≡ last_of id_of handed x.written

abbrev pub next : Turn → Bool → Attribute → Sweep → Sweep
next u mine a x = cond x.full x (cond mine (sweep_one u a x) x)

-- one attribute
abbrev pub Steps : List ℕ → Attribute → Bool → ℕ → List ℕ → List ℕ → Swept → Swept → List ℕ → List ℕ → Type 0
Steps s a mine time bs d c r bs' d' =
    (is_table capacity bs' ≡ true)
    × ((sequence : ℕ) (handed : ℕ) (x : Sweep) → Stands s handed sequence x bs d c
    → Stands s handed sequence (next (turn_for s sequence handed time (length d)) mine a x) bs' d' r)

-- those above the last id, or the others
abbrev pub mine_of : Bool → ℕ → ℕ → Bool
mine_of upper last id = cond upper (above last id) (not (above last id))

-- every attribute
abbrev pub Sweeps : List ℕ → ℕ → Bool → ℕ → List ℕ → List ℕ → Swept → Swept → List ℕ → List ℕ → Type 0
Sweeps s handed upper time bs d c r bs' d' =
    (is_table capacity bs' ≡ true)
    × ((sequence : ℕ) (x : Sweep) → Stands s handed sequence x bs d c
    → Stands s handed sequence (sweep (λ a. mine_of upper handed (id_of a)) (turn_for s sequence handed time (length d)) (attributes_of 8 s) x) bs' d' r)

-- the answer by what was written: nothing, or these records
abbrev pub closing : ℕ → ℕ → List ℕ → Bool → List Attribute → Outcome (Unit {0})
closing space sequence s full [] = refused space (cond full ReplyTooLong NothingToSend) no_state
closing space sequence s full (a ∷ more) = replied space (report_head sequence ++ encode_all (record_in s) (a ∷ more)) no_state

-- the end, whatever records the buffer showed behind the header
abbrev pub Finishes : List ℕ → ℕ → Swept → Result ℕ Refusal → List ℕ → Type 0
Finishes d from c r d' =
    (s : List ℕ) (sequence : ℕ) (w : List Attribute) → from ≡ length (report_head sequence) → Shows d c.out (report_head sequence ++ encode_all (record_in s) w)
    → seen r d' no_state ≡ closing (length d) sequence s c.full w
