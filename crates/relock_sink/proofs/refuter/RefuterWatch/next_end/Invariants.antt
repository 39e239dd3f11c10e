use Rattle.std.proofs.Common.{◌-◌, ◌≤◌}
use Rattle.link_sink.specs.Sinks.{Fed}
use Rattle.track_sink.specs.Lents.{AreLent}
use Rattle.relock_sink.specs.Refuters.{HasLooked}
use Rattle.relock_sink.proofs.refuter.RefuterWatch.next_end.Given as goal

abbrev pub invariant-stretches : goal.invariant-stretches
invariant-stretches l = record {
  rises : l.initial.self.shown ≤ l.self.shown;
  looked : (fed : Fed) → AreLent l.lanes fed → HasLooked l.fn.self fed → HasLooked l.self fed;
}

abbrev pub decreases-stretches : goal.decreases-stretches
decreases-stretches l = l.all - l.self.shown
