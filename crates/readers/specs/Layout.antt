-- Definitions. How long a record is, by its first bytes (document 01, "Readers give .. 4 for a cut body"): the first trouble met counts.
use Rattle.frame.specs.declared.answer.Refusal.{Refusal}
use Rattle.std.specs.Prelude.{ℕ, ◌+◌, cond, List, length, get_or, leb, eqb, Err, Ok, Result}
use Rattle.types.specs.Extent.{extent_of}
use Rattle.types.specs.declared.extent.NoExtent.{NoExtent}
use Rattle.frame.specs.declared.answer.Refusal.TheVariants.{RecordCut, NotSuchAReply}
use Rattle.configure.specs.Request.{change_width}
use Rattle.readers.specs.declared.layout.Layout.{Layout}
use Rattle.readers.specs.declared.layout.Layout.TheVariants.{ReadStatus, Report, WriteFailure, ConfigureFailure, Setting, Discovered}

-- so many bytes, if they are there
unfoldable pub up_to : ℕ → List ℕ → Result ℕ Refusal
up_to n l = cond (leb n (length l)) (Ok n) (Err RecordCut)

-- up to the end of its value; a value without extent cannot be read either
abbrev pub by_extent : Result ℕ NoExtent → Result ℕ Refusal
by_extent (Ok q) = Ok q
by_extent (Err why) = Err RecordCut

-- a type at p, and a value behind it
unfoldable pub valued : ℕ → List ℕ → Result ℕ Refusal
valued p l = cond (leb (p + 1) (length l)) (by_extent (extent_of l (p + 1) (get_or l p 0))) (Err RecordCut)

-- a failure of n bytes begins with its status; 00 in a list of failures is 10, and met before a cut
unfoldable pub failure_length : ℕ → List ℕ → Result ℕ Refusal
failure_length n l = cond (eqb (get_or l 0 0) 0) (Err NotSuchAReply) (up_to n l)

-- THE LENGTH of the record that some bytes begin with
unfoldable pub length_of : Layout → List ℕ → Result ℕ Refusal
-- a read reply: id (2), status (1), and on success type and value
length_of ReadStatus l = cond (leb 3 (length l)) (cond (eqb (get_or l 2 0) 0) (valued 3 l) (Ok 3)) (Err RecordCut)
-- a report: id (2), type and value
length_of Report l = valued 2 l
-- a write reply's failure: status (1), id (2)
length_of WriteFailure l = failure_length 3 l
-- a configure reply's failure: status (1), direction (1), id (2)
length_of ConfigureFailure l = failure_length 4 l
-- a read configuration reply: status (1), direction (1), id (2), and on success type (1), minimum (2), maximum (2), change
length_of Setting l = cond (leb 4 (length l)) (cond (eqb (get_or l 0 0) 0) (up_to (9 + change_width (get_or l 4 0)) l) (Ok 4)) (Err RecordCut)
-- a discover reply: id (2), type (1)
length_of Discovered l = up_to 3 l
