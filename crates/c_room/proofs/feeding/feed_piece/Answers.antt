use Rattle.std.proofs.Common.{◌+◌, ◌*◌, List, refl, subst, arith}
use Rattle.period_grammar.specs.Events.{EventAt}
use Rattle.link_sink.specs.Sinks.{Fed, grown_by, IsGainAt}
use Rattle.link_sink.specs.Streams.{StandsBy, bits_fed, most_bits}
use Rattle.c_room.specs.Rooms.{columns_of_bits}
use Rattle.c_room.specs.Takes.{counts_to, grown_to}
use Rattle.c_room.specs.Written.{link_writing, HasTaken}
use Rattle.c_room.proofs.Gains.{gain_of_columns}
use Rattle.c_room.proofs.Pieces.{piece_can, piece_grown, piece_grew, has_room}
use Rattle.c_room.proofs.feeding.feed_piece.Goals as goal

pub feed_in_turn-requires-clause-lanes : goal.feed_in_turn-requires-clause-lanes
feed_in_turn-requires-clause-lanes g c =
    let l = c.requires.lanes in
    let e = c.piece-piece.ensures in
    piece_can (bits_fed c.args.sink.now) (most_bits c.args.sink.now) refl l.0 c.args.lanes c.args.at c.args.size c.piece-piece.result l.1 l.2 l.3 c.requires.whole c.requires.small (record { blue = e.blue; green = e.green; red = e.red })

pub unreachable-requires : goal.unreachable-requires
unreachable-requires g c =
    let s = c.requires.stands in
    let e = c.piece-piece.ensures in
    let piece = c.piece-piece.result in
    let size = c.args.size in
    let stop = c.in-Err.ensures.stopped s.0 s.1 in
    let grew = piece_grew s.0 c.args.lanes c.args.at size piece (record { blue = e.blue; green = e.green; red = e.red }) in
    let gain = gain_of_columns g.H.Hears.grammar g.met.H.Hears.is_grammar size s.0 (grown_by s.0 piece) stop.0 grew stop.1 in
    let most = columns_of_bits size in
    let events = c.requires.bounded.events gain.before gain.more stop.0 gain.reported in
    let bytes = c.requires.bounded.bytes gain.before gain.more stop.0 gain.reported in
    let fits = c.requires.room in
    let few = gain.few in
    has_room link_writing c.args.room.now stop.2.between stop.0 stop.2.taken stop.2.next stop.2.rest (8 * most) (12288 + 3 * most) (omega (arith, events, few)) (omega (arith, bytes, few))
    (omega (arith, fits.events)) (omega (arith, fits.bytes)) stop.2.events_are stop.2.took_some stop.2.broke_then

pub returns-clause-stands : goal.returns-clause-stands
returns-clause-stands g c = λ fed h.
    let e = c.piece-piece.ensures in
    subst (λ (f : Fed). StandsBy g.H.Hears.goes_on c.feed_in_turn.new.self f)
    (piece_grown fed c.args.lanes c.args.at c.args.size c.piece-piece.result (record { blue = e.blue; green = e.green; red = e.red }))
    (c.in-Ok.ensures.fed (grown_to (counts_to c.args.at c.args.lanes.bits) fed c.args.lanes) h)

pub returns-clause-reported : goal.returns-clause-reported
returns-clause-reported g c = λ fed h.
    let e = c.piece-piece.ensures in
    let before = grown_to (counts_to c.args.at c.args.lanes.bits) fed c.args.lanes in
    subst (λ (f : Fed). (events : List EventAt) × IsGainAt g.H.Hears.grammar before f events × HasTaken link_writing c.args.room.now c.feed_in_turn.new.ear events)
    (piece_grown fed c.args.lanes c.args.at c.args.size c.piece-piece.result (record { blue = e.blue; green = e.green; red = e.red }))
    (c.in-Ok.ensures.reported_at before h)
