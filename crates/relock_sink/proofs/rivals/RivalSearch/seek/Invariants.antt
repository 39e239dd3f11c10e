use Rattle.std.proofs.Common.{◌-◌, ◌+◌, ◌≤◌}
use Rattle.link_sink.specs.Sinks.{Fed}
use Rattle.track_sink.specs.Epochs.{most_of}
use Rattle.track_sink.specs.Lents.{AreLent}
use Rattle.relock_sink.specs.RivalSearches.{HasSoughtRivals}
use Rattle.relock_sink.proofs.rivals.RivalSearch.seek.Given as goal

abbrev pub invariant-alignments : goal.invariant-alignments
invariant-alignments l = record {
  rises : l.initial.self.alignments.limit ≤ l.self.alignments.limit;
  within : l.self.alignments.limit ≤ l.limit;
  sought : (fed : Fed) → AreLent l.lanes fed → HasSoughtRivals l.fn.self fed → l.limit + 89 ≤ most_of fed → HasSoughtRivals l.self fed;
}

abbrev pub decreases-alignments : goal.decreases-alignments
decreases-alignments l = l.limit - l.self.alignments.limit
