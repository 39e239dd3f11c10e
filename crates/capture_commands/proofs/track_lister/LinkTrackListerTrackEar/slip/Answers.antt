use Rattle.std.proofs.Common.{arith}
use Rattle.track_sink.specs.TrackEvents.{slip}
use Rattle.capture_commands.specs.TrackText.{line_tracked, one_slip_fault}
use Rattle.capture_commands.proofs.track_lister.LinkTrackListerTrackEar.slip.Goals as goal

pub returns-clause-ok : goal.returns-clause-ok
returns-clause-ok g c =
    let x = c.args.self.now.lister in
    let y = c.slip.new.self in
    line_tracked c.slip.result (slip c.args.lane c.args.place) x.faults y.faults (g.K.Sink.held x.sink.now) (g.K.Sink.held y.sink.now) (one_slip_fault c.args.lane c.args.place) c.slip.ensures.same c.slip.ensures.counted c.slip.ensures.whole

pub returns-clause-ok_at : goal.returns-clause-ok_at
returns-clause-ok_at g c = returns-clause-ok g c

pub returns-clause-err : goal.returns-clause-err
returns-clause-err g c = grind arith
