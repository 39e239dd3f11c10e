use Rattle.std.proofs.Common.{◌-◌, ◌≤◌, ◌++◌, List}
use Rattle.link_sink.specs.Sinks.{Fed}
use Rattle.track_sink.specs.TrackEvents.{TrackEvent, TrackEventAt}
use Rattle.track_sink.specs.Trackers.{most_fed, HasReportedAt, Stands}
use Rattle.track_sink.proofs.follower.Follower.follow.Given as goal

abbrev pub invariant-loop-end : goal.invariant-loop-end
invariant-loop-end g l = record {
  later : g.E.Ear.faults l.initial.ear ≤ g.E.Ear.faults l.ear;
  reported :
      (fed : Fed) (reported : List TrackEvent) → Stands g.W.Watch.rule g.W.Watch.looked g.W.Watch.passed l.initial.self.tracker l.initial.self.watch fed reported
      → (more : List TrackEvent) × g.E.TrackEar.tracked l.initial.ear l.ear more × Stands g.W.Watch.rule g.W.Watch.looked g.W.Watch.passed l.self.tracker l.self.watch fed (reported ++ more);
  reported_at :
      (fed : Fed) (reported : List TrackEvent) (told : List TrackEventAt) → Stands g.W.Watch.rule g.W.Watch.looked g.W.Watch.passed l.initial.self.tracker l.initial.self.watch fed reported → HasReportedAt g.W.Watch.rule l.initial.self.tracker fed told
      → (more : List TrackEventAt) × g.E.TrackEar.tracked_at l.initial.ear l.ear more × HasReportedAt g.W.Watch.rule l.self.tracker fed (told ++ more);
}

abbrev pub decreases-loop-end : goal.decreases-loop-end
decreases-loop-end g l = most_fed l.self.tracker - l.self.tracker.start
