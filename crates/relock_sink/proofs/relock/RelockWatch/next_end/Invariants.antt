use Rattle.std.proofs.Common.{◌≡◌, ◌-◌, ◌≤◌}
use Rattle.link_sink.specs.Sinks.{Fed}
use Rattle.track_sink.specs.Lents.{AreLent}
use Rattle.relock_sink.specs.Watches.{HasWatched}
use Rattle.relock_sink.proofs.relock.RelockWatch.next_end.Given as goal

abbrev pub invariant-stretches : goal.invariant-stretches
invariant-stretches l = record {
  seen : l.seen ≡ l.self.strays.seen;
  rises : l.initial.self.strays.seen ≤ l.self.strays.seen;
  looked : (fed : Fed) → AreLent l.lanes fed → HasWatched l.fn.self fed → HasWatched l.self fed;
}

abbrev pub decreases-stretches : goal.decreases-stretches
decreases-stretches l = l.all - l.seen
