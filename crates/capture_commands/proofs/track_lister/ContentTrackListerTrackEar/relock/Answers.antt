use Rattle.track_sink.specs.TrackEvents.{relock}
use Rattle.listing_writer.specs.Texts.{relock_text}
use Rattle.listing_writer.specs.ContentAdded.{Recalls}
use Rattle.capture_commands.specs.TrackListers.{line_lost, line_tracked, relock_is_line}
use Rattle.capture_commands.proofs.track_lister.ContentTrackListerTrackEar.relock.Goals as goal

pub returns-clause-ok : goal.returns-clause-ok
returns-clause-ok g c =
    let x = c.args.self.now.lister in
    let y = c.relock.new.self in
    line_tracked c.relock.result (relock c.args.place) (relock_text c.args.place) x.past y.past x.faults y.faults (g.K.Sink.held x.sink.now) (g.K.Sink.held y.sink.now) (relock_is_line c.args.place) c.relock.ensures.same c.relock.ensures.past c.relock.ensures.counted c.relock.ensures.whole

pub returns-clause-ok_at : goal.returns-clause-ok_at
returns-clause-ok_at g c = returns-clause-ok g c

pub returns-clause-err : goal.returns-clause-err
returns-clause-err g c =
    let x = c.args.self.now.lister in
    let y = c.relock.new.self in
    line_lost (Recalls x.past) c.relock.result x.faults y.faults (relock_text c.args.place) (g.K.Sink.held x.sink.now) (g.K.Sink.held y.sink.now) c.relock.ensures.same c.relock.ensures.uncounted c.relock.ensures.part
