use Rattle.std.proofs.Common.{arith}
use Rattle.track_sink.specs.TrackEvents.{relock}
use Rattle.capture_commands.specs.TrackText.{line_tracked, one_relock_fault}
use Rattle.capture_commands.proofs.track_lister.LinkTrackListerTrackEar.relock.Goals as goal

pub returns-clause-ok : goal.returns-clause-ok
returns-clause-ok g c =
    let x = c.args.self.now.lister in
    let y = c.relock.new.self in
    line_tracked c.relock.result (relock c.args.place) x.faults y.faults (g.K.Sink.held x.sink.now) (g.K.Sink.held y.sink.now) (one_relock_fault c.args.place) c.relock.ensures.same c.relock.ensures.counted c.relock.ensures.whole

pub returns-clause-ok_at : goal.returns-clause-ok_at
returns-clause-ok_at g c = returns-clause-ok g c

pub returns-clause-err : goal.returns-clause-err
returns-clause-err g c = grind arith
