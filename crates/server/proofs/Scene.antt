-- A scene over store T, computed. Assumes nothing.
use mathlib.Core.Path.{refl}
use Rattle.types.specs.Number.{all_zero, le, bytes_of, unsigned_at}
use Rattle.types.specs.Ids.{size_of, shape_of}
use Rattle.types.specs.Extent.{upto, times, count, text, series, member, structure, by_shape, value_at, series_at, structure_at}
use Rattle.frame.specs.Header.{frame_type_of, header_of, reply_head}
use Rattle.frame.specs.CommandIdentifier.{command_of}
use Rattle.frame.specs.Reply.{padded}
use Rattle.frame.specs.Walk.{records_in, records_from, walk}
use Rattle.frame.specs.Encoded.{encode_all, fits}
use Rattle.frame.specs.Failures.{done_with, pass_from, encode_failures, answered, concluded, headed}
use Rattle.store.specs.Contents.{attribute_at, attributes_from, attributes_of, find_in, find_of}
use Rattle.store.specs.Layout.{each, ascending, room_ok, is_text, length_ok, follow_on, end_from, unused_ok, is_store}
use Rattle.store.specs.Value.{fitted, stored}
use Rattle.store.specs.Write.{too_long, is_writable, check_of, write_of}
use Rattle.write.specs.Request.{record_at, records_at}
use Rattle.write.specs.Reply.{encode}
use Rattle.write.specs.Write.{written, checked, written_all, write_undivided}
use Rattle.write.specs.Claims.Last.{last_value}
use Rattle.server.specs.Serve.{commanded, typed, by_header, tabled, serve}
use Rattle.server.specs.Claims.Scene.{ScenesAre}

pub scenes_are : ScenesAre
unfolding all_zero le bytes_of unsigned_at size_of shape_of upto times count text series member structure by_shape value_at series_at structure_at frame_type_of header_of reply_head command_of padded records_in records_from walk encode_all fits done_with pass_from encode_failures answered concluded headed attribute_at attributes_from attributes_of find_in find_of each ascending room_ok is_text length_ok follow_on end_from unused_ok is_store fitted stored too_long is_writable check_of write_of record_at records_at encode written checked written_all write_undivided last_value commanded typed by_header tabled serve
scenes_are = record { all = refl; invalid = refl; nothing = refl; lamp = refl; name = refl; other = refl }
