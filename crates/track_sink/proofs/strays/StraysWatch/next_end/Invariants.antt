use Rattle.std.proofs.Common.{◌-◌, ◌≤◌}
use Rattle.link_sink.specs.Sinks.{Fed}
use Rattle.track_sink.specs.Lents.{AreLent}
use Rattle.track_sink.specs.Seeking.{IsSought}
use Rattle.track_sink.proofs.strays.StraysWatch.next_end.Given as goal

abbrev pub invariant-loop-self : goal.invariant-loop-self
invariant-loop-self l = record {
  from : l.initial.self.seen ≤ l.self.seen;
  looked : (fed : Fed) → AreLent l.lanes fed → IsSought l.initial.self fed → IsSought l.self fed;
}

abbrev pub decreases-loop-self : goal.decreases-loop-self
decreases-loop-self l = l.end - l.self.seen
