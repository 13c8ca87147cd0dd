-- Definitions. Writing and reading a saved form, on the bytes of a table: what each says, and the bytes afterwards (document 02, request 5: "Refusals: after 8, 13 for bytes
-- that are not a saved form, giving an empty table, or for a table not written; then 5 if it does not fit, buffer all zeros").
use Rattle.std.specs.Prelude.{Result, true, ℕ, cond, List, [], length, leb, Err, Ok}
use Rattle.frame.specs.declared.answer.Refusal.{Refusal}
use Rattle.frame.specs.declared.answer.Refusal.TheVariants.{ReplyTooLong, NotATable, NotASavedForm}
use Rattle.frame.specs.Answer.{Outcome, no_state, replied, refused}
use Rattle.reporting.specs.declared.entry.Entry.{Entry}
use Rattle.reporting.specs.Table.{capacity}
use Rattle.reporting.specs.Carried.{size_ok, table_bytes}
use Rattle.reporting.specs.Lent.{on_lent, ChangeLeft, left_as}
use Rattle.saved.specs.Saved.{marked, saved_bytes, is_savable, saved_in, is_saved, form_in}

-- a form into a buffer of so much room: 13 of a table that is not written, then 5
abbrev pub save_l : ℕ → List Entry → Outcome (Unit {0})
save_l room l =
    cond (is_savable l)
    (cond (leb (length (saved_bytes marked l)) room) (replied room (saved_bytes marked l) no_state) (refused room ReplyTooLong no_state))
    (refused room NotASavedForm no_state)

-- WRITING: 8 of bytes that are no table; the table stays as it is
unfoldable pub save_lent : List ℕ → ℕ → Outcome (Unit {0})
save_lent bs room = on_lent bs (refused room NotATable no_state) (save_l room)

-- what reading says, and the bytes afterwards, as of any other change of a table
abbrev pub restored : Result (Unit {0}) Refusal → List ℕ → ChangeLeft
restored (Ok done) bytes = left_as (Ok true) bytes
restored (Err why) bytes = left_as (Err why) bytes

-- Reading under a limit, over bytes as long as a table's, whatever they were: the form's entries and 0; of bytes that are not a saved form the empty table and 13. Bytes of
-- another length stay as they are, and get 8.
abbrev pub restore_under : ℕ → List ℕ → List ℕ → ChangeLeft
restore_under limit form bs =
    cond (size_ok limit bs)
    (cond (is_saved (form_in form) limit form)
    (left_as (Ok true) (table_bytes limit (saved_in (form_in form) form)))
    (left_as (Err NotASavedForm) (table_bytes limit [])))
    (left_as (Err NotATable) bs)

-- READING, into a table's bytes
unfoldable pub restore_lent : List ℕ → List ℕ → ChangeLeft
restore_lent form bs = restore_under capacity form bs
