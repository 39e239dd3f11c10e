use Rattle.std.proofs.Common.{◌+◌, ◌++◌, refl, subst, arith}
use Rattle.link_sink.specs.Sinks.{Fed}
use Rattle.track_sink.specs.TrackSinks.{EpochSinkTells, bits_fed, most_bits}
use Rattle.c_room.specs.Takes.{counts_to, grown_to}
use Rattle.c_room.specs.TrackWritten.{track_writing}
use Rattle.c_room.proofs.Pieces.{ArePieces, piece_can, piece_fed, piece_grown, has_room}
use Rattle.c_room.proofs.TrackPieces.{piece_few}
use Rattle.c_room.proofs.track_feeding.feed_epoch_piece.Goals as goal

pub feed_in_turn-requires-clause-lanes : goal.feed_in_turn-requires-clause-lanes
feed_in_turn-requires-clause-lanes g c =
    let l = c.requires.lanes in
    let e = c.piece-piece.ensures in
    piece_can (bits_fed c.args.sink.now) (most_bits c.args.sink.now) refl l.0 c.args.lanes c.args.at c.args.size c.piece-piece.result l.1 l.2 l.3 c.requires.whole c.requires.small (record { blue = e.blue; green = e.green; red = e.red })

pub unreachable-requires : goal.unreachable-requires
unreachable-requires g c =
    let l = c.requires.lanes in
    let s = c.requires.tells in
    let e = c.piece-piece.ensures in
    let sink = c.args.sink.now in
    let piece = c.piece-piece.result in
    let size = c.args.size in
    let pieces : ArePieces c.args.lanes c.args.at size piece = record { blue = e.blue; green = e.green; red = e.red } in
    let events = s.2.events in
    let represents = s.2.represents in
    let stop = c.in-Err.ensures.stopped s.0 events represents in
    let can = piece_can (bits_fed sink) (most_bits sink) refl l.0 c.args.lanes c.args.at size piece l.1 l.2 l.3 c.requires.whole c.requires.small pieces in
    let few = piece_few g.met.W.Watch.is_rule g.met.W.Watch.is_watch sink s.0 events c.args.lanes c.args.at size piece stop.0 represents pieces can stop.2 in
    let room = c.requires.room in
    let ear = stop.1 in
    has_room track_writing c.args.room.now ear.between stop.0 ear.taken ear.next ear.rest (size + 392) (size + 12614) few.0 few.1 (omega (arith, room.events)) (omega (arith, room.bytes))
    ear.track_events_are ear.took_some ear.lost_then

pub returns-clause-taken : goal.returns-clause-taken
returns-clause-taken g c = λ fed are.
    let e = c.piece-piece.ensures in
    piece_fed (bits_fed c.args.sink.now) (bits_fed c.feed_in_turn.new.self) fed c.args.lanes c.args.at c.args.size c.piece-piece.result (record { blue = e.blue; green = e.green; red = e.red }) c.in-Ok.ensures.more are

pub returns-clause-reported : goal.returns-clause-reported
returns-clause-reported g c = λ fed reported h.
    let e = c.piece-piece.ensures in
    let before = grown_to (counts_to c.args.at c.args.lanes.bits) fed c.args.lanes in
    let now = c.in-Ok.ensures.reported_at before reported h in
    let P : Fed → Type 0 = λ f. EpochSinkTells g.W.Watch.rule g.W.Watch.looked g.W.Watch.passed c.feed_in_turn.new.self f (reported ++ now.0) in (
      now.0,
      subst P (piece_grown fed c.args.lanes c.args.at c.args.size c.piece-piece.result (record { blue = e.blue; green = e.green; red = e.red })) now.2,
      now.1,
    )
