use Rattle.std.proofs.Common.{arith}
use Rattle.c_room.specs.Written.{link_writing}
use Rattle.c_room.proofs.Gains.{last_of_columns}
use Rattle.c_room.proofs.Pieces.{has_room}
use Rattle.c_room.proofs.feeding.finish_sink.Goals as goal

pub unreachable-requires : goal.unreachable-requires
unreachable-requires g c =
    let s = c.requires.stands in
    let stop = c.in-Err.ensures.stopped s.0 s.1 in
    let few = last_of_columns g.H.Hears.grammar c.requires.bounded s.0 stop.0 stop.1 stop.2 in
    let one = c.requires.one in
    let within = c.requires.within in
    let ear = stop.3 in
    has_room link_writing c.args.room.now ear.between stop.1 ear.taken ear.next ear.rest 1 0 few.0 few.1 (omega (arith, one)) (omega (arith, within)) ear.events_are ear.took_some ear.broke_then
