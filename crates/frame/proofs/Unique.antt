-- No second answer fits a contract: one theorem for each public function, of two results and exit buffers that meet it at the same
-- entry values. Assumes nothing.
use mathlib.Core.Path.{sym, ◌∙◌}
use Rattle.frame.specs.Claims.Unique.{RefusalNumberOnce, AnswerNumberOnce, ReplyLenOnce, RefuseOnce, FromBitsOnce, RawOnce, RefusalOfOnce, ListFailureOnce, ConcludeOnce}
use Rattle.frame.specs.Claims.Unique.{FrameTypeOnce, IsManufacturerSpecificOnce, ReadHeaderOnce, WriteResponseHeaderOnce, BeginReplyOnce, ClearOnce, PutRunOnce, PutBothOnce}
use Rattle.frame.specs.Claims.Unique.{PutByteOnce, PutU16Once, ToU8Once}
use Rattle.frame.proofs.Outcome.{only_answer, putting_same}

-- src/answer.rt
pub refusal_number_once : RefusalNumberOnce
refusal_number_once self r q e f = e ∙ sym f

pub answer_number_once : AnswerNumberOnce
answer_number_once self r q e f = e ∙ sym f

pub reply_len_once : ReplyLenOnce
reply_len_once self r q e f = e ∙ sym f

pub refuse_once : RefuseOnce
refuse_once reply why r q x y e f = only_answer _ r q x y e f

-- src/command_identifier.rt
pub from_bits_once : FromBitsOnce
from_bits_once b r q e f = e ∙ sym f

pub raw_once : RawOnce
raw_once self r q e f = e ∙ sym f

-- src/failures.rt
pub refusal_of_once : RefusalOfOnce
refusal_of_once why r q e f = e ∙ sym f

pub list_failure_once : ListFailureOnce
list_failure_once reply out status failure r q x y e f = putting_same r q x y (e ∙ sym f)

pub conclude_once : ConcludeOnce
conclude_once reply start done r q x y e f = only_answer _ r q x y e f

-- src/header.rt
pub frame_type_once : FrameTypeOnce
frame_type_once self r q e f = e ∙ sym f

pub is_manufacturer_specific_once : IsManufacturerSpecificOnce
is_manufacturer_specific_once self r q e f = e ∙ sym f

pub read_header_once : ReadHeaderOnce
read_header_once frame r q e f = e ∙ sym f

pub write_response_header_once : WriteResponseHeaderOnce
write_response_header_once reply request command r q x y e f = putting_same r q x y (e ∙ sym f)

pub begin_reply_once : BeginReplyOnce
begin_reply_once reply request command r q x y e f = putting_same r q x y (e ∙ sym f)

-- src/reply.rt
pub clear_once : ClearOnce
clear_once buffer x y e f = e ∙ sym f

pub put_run_once : PutRunOnce
put_run_once buffer at bytes r q x y e f = putting_same r q x y (e ∙ sym f)

pub put_both_once : PutBothOnce
put_both_once buffer at front back r q x y e f = putting_same r q x y (e ∙ sym f)

pub put_byte_once : PutByteOnce
put_byte_once buffer at b r q x y e f = putting_same r q x y (e ∙ sym f)

pub put_u16_once : PutU16Once
put_u16_once buffer at x r q u v e f = putting_same r q u v (e ∙ sym f)

-- src/status.rt
pub to_u8_once : ToU8Once
to_u8_once self r q e f = e ∙ sym f
