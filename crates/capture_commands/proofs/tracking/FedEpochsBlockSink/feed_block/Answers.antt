use Rattle.capture_commands.proofs.Trackings.{loses_past, tracks_more}
use Rattle.capture_commands.proofs.tracking.FedEpochsBlockSink.feed_block.Goals as goal

pub returns-clause-heard : goal.returns-clause-heard
returns-clause-heard g c = λ fed first h.
    tracks_more g.W.Watch.rule g.W.Watch.looked g.W.Watch.passed g.E.TrackEar.tracked g.met.E.TrackEar.tracked_both c.feed_epochs.result c.args.self.now.sink.now c.feed_epochs.new.sink fed _ first c.args.ear.now c.feed_epochs.new.ear h (c.feed_epochs.ensures.reported fed h.0 h.1)

pub returns-clause-stopped : goal.returns-clause-stopped
returns-clause-stopped g c = λ fed first h.
    loses_past g.W.Watch.rule g.W.Watch.looked g.W.Watch.passed g.E.TrackEar.tracked g.E.TrackEar.lost g.met.E.TrackEar.tracked_both c.feed_epochs.result c.args.self.now.sink.now fed _ first c.args.ear.now c.feed_epochs.new.ear h (c.feed_epochs.ensures.stopped fed h.0 h.1)
