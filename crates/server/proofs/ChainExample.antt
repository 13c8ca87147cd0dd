-- Chains over store T, computed. Assumes nothing.
use mathlib.Core.Path.{refl}
use Rattle.types.specs.Number.{all_zero, le, bytes_of, unsigned_at}
use Rattle.types.specs.Ids.{size_of, shape_of, is_analog, is_reportable}
use Rattle.types.specs.Extent.{upto, times, count, text, series, member, structure, by_shape, value_at, series_at, structure_at}
use Rattle.frame.specs.Header.{frame_type_of, header_of, reply_head}
use Rattle.frame.specs.CommandIdentifier.{command_of}
use Rattle.frame.specs.Reply.{padded}
use Rattle.frame.specs.Walk.{records_in, records_from, walk}
use Rattle.frame.specs.Encoded.{encode_all, fits}
use Rattle.frame.specs.Shortened.{with_record_for, shortened_from, shortened_reply, shortened}
use Rattle.store.specs.Contents.{attribute_at, attributes_from, attributes_of, find_in, find_of}
use Rattle.store.specs.Layout.{each, ascending, room_ok, is_text, length_ok, follow_on, end_from, unused_ok, is_store}
use Rattle.store.specs.Value.{used_of, value_of}
use Rattle.read.specs.Read.{id_at, encode, record_by, record_for, read_of}
use Rattle.server.specs.DefaultResponse.{default_reply, default_response}
use Rattle.server.specs.Serve.{commanded, typed, by_header, tabled, serve}
use Rattle.server.specs.UnsupportedCluster.{is_served, respond, unsupported_cluster}
use Rattle.report.specs.Report.{encode as encode-report, report_from, report_reply, report_of}
use Rattle.server.specs.Claims.Chain.{chain}
use Rattle.server.specs.Claims.ChainExample.{ChainsAre}

pub chains_are : ChainsAre
unfolding all_zero le bytes_of unsigned_at size_of shape_of is_analog is_reportable upto times count text series member structure by_shape value_at series_at structure_at frame_type_of header_of reply_head command_of padded records_in records_from walk encode_all fits with_record_for shortened_from shortened_reply shortened attribute_at attributes_from attributes_of find_in find_of each ascending room_ok is_text length_ok follow_on end_from unused_ok is_store used_of value_of id_at encode record_by record_for read_of default_reply default_response commanded typed by_header tabled serve is_served respond unsupported_cluster encode-report report_from report_reply report_of chain
chains_are = record { two = refl; second = refl; third = refl; nothing = refl; narrow = refl; clusters = refl; reported = refl; one = refl }
