use Rattle.capture_commands.proofs.Trackings.{loses_last, tracks_whole}
use Rattle.capture_commands.proofs.tracking.FedEpochsBlockSink.end.Goals as goal

pub returns-clause-heard : goal.returns-clause-heard
returns-clause-heard g c = λ fed first h.
    tracks_whole g.W.Watch.rule g.W.Watch.looked g.W.Watch.passed g.E.TrackEar.tracked g.met.E.TrackEar.tracked_both c.finish_epochs.result c.args.self.now.sink.now fed first c.args.ear.now c.finish_epochs.new.ear h (c.finish_epochs.ensures.reported fed h.0 h.1)

pub returns-clause-stopped : goal.returns-clause-stopped
returns-clause-stopped g c = λ fed first h.
    loses_last g.W.Watch.rule g.W.Watch.looked g.W.Watch.passed g.E.TrackEar.tracked g.E.TrackEar.lost g.met.E.TrackEar.tracked_both c.finish_epochs.result c.args.self.now.sink.now fed first c.args.ear.now c.finish_epochs.new.ear h (c.finish_epochs.ensures.stopped fed h.0 h.1)
