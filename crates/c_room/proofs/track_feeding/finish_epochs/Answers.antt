use Rattle.std.proofs.Common.{arith}
use Rattle.c_room.specs.TrackWritten.{track_writing}
use Rattle.c_room.proofs.Pieces.{has_room}
use Rattle.c_room.proofs.TrackPieces.{end_few}
use Rattle.c_room.proofs.track_feeding.finish_epochs.Goals as goal

pub unreachable-requires : goal.unreachable-requires
unreachable-requires g c =
    let s = c.requires.tells in
    let represents = s.2.represents in
    let stop = c.in-Err.ensures.stopped s.0 s.2.events represents in
    let few = end_few g.met.W.Watch.is_rule c.args.sink.now s.0 s.2.events stop.0 stop.1 stop.2 represents stop.4 in
    let room = c.requires.room in
    let ear = stop.3 in
    has_room track_writing c.args.room.now ear.between stop.2 ear.taken ear.next ear.rest 392 12614 few.0 few.1 (omega (arith, room.events)) (omega (arith, room.bytes)) ear.track_events_are ear.took_some ear.lost_then

pub returns-clause-reported : goal.returns-clause-reported
returns-clause-reported g c = λ fed reported h.
    let now = c.in-Ok.ensures.reported_at fed reported h in
    (now.0, now.2, now.1)
