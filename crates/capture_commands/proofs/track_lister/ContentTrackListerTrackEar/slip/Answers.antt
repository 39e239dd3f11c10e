use Rattle.track_sink.specs.TrackEvents.{slip}
use Rattle.listing_writer.specs.Texts.{slip_text}
use Rattle.listing_writer.specs.ContentAdded.{Recalls}
use Rattle.capture_commands.specs.TrackListers.{line_lost, line_tracked, slip_is_line}
use Rattle.capture_commands.proofs.track_lister.ContentTrackListerTrackEar.slip.Goals as goal

pub returns-clause-ok : goal.returns-clause-ok
returns-clause-ok g c =
    let x = c.args.self.now.lister in
    let y = c.slip.new.self in
    line_tracked c.slip.result (slip c.args.lane c.args.place) (slip_text c.args.lane c.args.place) x.past y.past x.faults y.faults (g.K.Sink.held x.sink.now) (g.K.Sink.held y.sink.now) (slip_is_line c.args.lane c.args.place) c.slip.ensures.same c.slip.ensures.past c.slip.ensures.counted c.slip.ensures.whole

pub returns-clause-ok_at : goal.returns-clause-ok_at
returns-clause-ok_at g c = returns-clause-ok g c

pub returns-clause-err : goal.returns-clause-err
returns-clause-err g c =
    let x = c.args.self.now.lister in
    let y = c.slip.new.self in
    line_lost (Recalls x.past) c.slip.result x.faults y.faults (slip_text c.args.lane c.args.place) (g.K.Sink.held x.sink.now) (g.K.Sink.held y.sink.now) c.slip.ensures.same c.slip.ensures.uncounted c.slip.ensures.part
