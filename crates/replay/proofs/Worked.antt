-- A list and a frame that a reader can check by hand: each equation holds by computing. Assumes nothing.
use Rattle.std.specs.Prelude.{Some}
use mathlib.Core.Path.{◌≡◌, refl}
use mathlib.Core.Bool.{true}
use mathlib.Core.List.{List, [], ◌∷◌, ◌++◌}
use Prim.Native.Nat.{ℕ}
use lib.ListN.{set, replicate}
use Rattle.types.specs.Number.{le, unsigned_at}
use Rattle.types.specs.Ids.{size_of, is_analog, is_reportable}
use Rattle.frame.specs.Header.{frame_type_of, header_of, reply_head}
use Rattle.frame.specs.Reply.{padded}
use Rattle.frame.specs.Walk.{records_in, records_from, walk}
use Rattle.frame.specs.Encoded.{encode_all}
use Rattle.frame.specs.Shortened.{shortened_from, shortened_reply, shortened}
use Rattle.read.specs.Read.{read_of}
use Rattle.replay.specs.Bytes.{same}
use Rattle.replay.specs.Commands.{asked_of, store_says, answer_says, next, answers_from, of_command}
use Rattle.replay.specs.Line.{split, digit_of, hex}
use Rattle.replay.specs.Ours.{of_type}
use Rattle.replay.specs.Verdict.{ours, recorded, by_letter, judged}
use Rattle.replay.specs.Tally.{counted, closed, tally_from, tally_of}

-- `t 20 010101`: type 20 has one byte, is analog, and can be reported
abbrev line : List ℕ
line = 116 ∷ 32 ∷ 50 ∷ 48 ∷ 32 ∷ 48 ∷ 49 ∷ 48 ∷ 49 ∷ 48 ∷ 49 ∷ 10 ∷ []

-- `n 01000000`: one line stands before this
abbrev last : List ℕ
last = 110 ∷ 32 ∷ 48 ∷ 49 ∷ 48 ∷ 48 ∷ 48 ∷ 48 ∷ 48 ∷ 48 ∷ 10 ∷ []

-- t is letter 20
a_whole_list : tally_of (line ++ last) ≡ record { agree = set (replicate 32 0) 20 1; of = set (replicate 32 0) 20 1; lines = 1; first = 0; whole = true }
unfolding tally_from judged split by_letter recorded ours hex digit_of of_type size_of is_analog is_reportable same counted closed le
a_whole_list = refl

-- `002a00`, a read of no attribute, of the empty store of cluster 0, with a last room of 3: refusal 5 with room 0, 1 and 2, then `182a01`
a_frame : of_command (3 ∷ 4 ∷ 0 ∷ 0 ∷ 0 ∷ 0 ∷ 0 ∷ 0x00 ∷ 0x2a ∷ 0x00 ∷ [])
    ≡ Some (1 ∷ 5 ∷ 0 ∷ 0 ∷ 0 ∷ 0 ∷ 1 ∷ 0 ∷ 3 ∷ 0x18 ∷ 0x2a ∷ 0x01 ∷ 0 ∷ [])
unfolding of_command unsigned_at le asked_of header_of frame_type_of read_of reply_head shortened shortened_from shortened_reply records_from records_in walk encode_all padded store_says answer_says next answers_from same
a_frame = refl
