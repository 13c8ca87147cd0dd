-- The bench replies are read so (specs/Claims/Bench.antt), by computing. Assumes nothing.
use mathlib.Core.Path.{refl}
use Rattle.types.specs.Number.{le, unsigned_at, signed_of, signed_at}
use Rattle.types.specs.Ids.{size_of, shape_of, is_analog, is_signed}
use Rattle.types.specs.Value.{number_at}
use Rattle.types.specs.Extent.{upto, count, text, by_shape, value_at}
use Rattle.frame.specs.Header.{frame_type_of, header_of}
use Rattle.configure.specs.Request.{change_width}
use Rattle.readers.specs.Reading.{body_of, spans_in, spans_from, records_of}
use Rattle.readers.specs.Layout.{up_to, valued, failure_length, length_of}
use Rattle.readers.specs.Replies.{spans_of, read_record, read_reply_of, setting_record, configuration_reply_of, reported_record, report_frame_of}
use Rattle.readers.specs.Replies.{failures_from, failures_of, write_failure, write_reply_of, configure_failure, configure_reply_of}
use Rattle.readers.specs.Replies.{discovered_record, discovered_from, discover_reply_of, default_response_of}
use Rattle.readers.specs.Values.{value_in, read_reply_held, report_frame_held}
use Rattle.readers.specs.Claims.Bench.{BenchRepliesRead}

pub bench_replies_read : BenchRepliesRead
unfolding le unsigned_at signed_of signed_at size_of shape_of is_analog is_signed number_at upto count text by_shape value_at frame_type_of header_of change_width body_of spans_in spans_from records_of up_to valued failure_length length_of spans_of read_record read_reply_of setting_record configuration_reply_of reported_record report_frame_of failures_from failures_of write_failure write_reply_of configure_failure configure_reply_of discovered_record discovered_from discover_reply_of default_response_of value_in read_reply_held report_frame_held
bench_replies_read = (refl, (refl, (refl, (refl, (refl, (refl, (refl, (refl, (refl, (refl, (refl, (refl, (refl, (refl, (refl, (refl, (refl, (refl, (refl, (refl, (refl, (refl, (refl, (refl, (refl, (refl, (refl, (refl, (refl, (refl, (refl, (refl, (refl, (refl, (refl, (refl, (refl, (refl, (refl, (refl, (refl, (refl, (refl, (refl, (refl, (refl, (refl, (refl, (refl, (refl, (refl, (refl, (refl, (refl, (refl, (refl, (refl, (refl, (refl, (refl, (refl, (refl, (refl, (refl, (refl, (refl, (refl, (refl, (refl, (refl, (refl, (refl, (refl, (refl, (refl, (refl, (refl, (refl, (refl, (refl, (refl, (refl, (refl, (refl, (refl, (refl, (refl, (refl, (refl, (refl, (refl, tt)))))))))))))))))))))))))))))))))))))))))))))))))))))))))))))))))))))))))))))))))))))))))))
