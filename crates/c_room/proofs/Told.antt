-- What was told into a room that was free before: as many events as it has records, and their bytes.
use Rattle.std.proofs.Common.{◌≡◌, List, length}
use Rattle.track_sink.specs.TrackEvents.{TrackEventAt}
use Rattle.c_room.specs.declared.room.EventRoom.{EventRoom}
use Rattle.c_room.specs.TrackWritten.{track_writing}
use Rattle.c_room.specs.Written.{bytes_at, HasTaken}
use Rattle.c_room.specs.WrittenLaws.{written_count, written_used}

pub told_count : (x y : EventRoom) (told : List TrackEventAt) → HasTaken track_writing x y told → x.count ≡ 0 → y.count ≡ length told
told_count x y told taken e = written_count track_writing x y told taken e

pub told_used : (x y : EventRoom) (told : List TrackEventAt) → HasTaken track_writing x y told → x.used ≡ 0 → y.used ≡ length (bytes_at track_writing told)
told_used x y told taken e = written_used track_writing x y told taken e
