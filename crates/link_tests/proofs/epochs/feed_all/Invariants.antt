use Rattle.std.proofs.Common.{◌≡◌, ◌-◌, ◌%◌, min, true}
use Rattle.std.specs.Prelude.{slice_index}
use Rattle.track_sink.specs.TrackSinks.{bits_fed}
use Rattle.link_tests.proofs.epochs.feed_all.Given as goal

abbrev pub invariant-loop-from : goal.invariant-loop-from
invariant-loop-from g l = record {
  open_still : l.sink.is_open ≡ true;
  whole : l.from % 8 ≡ 0;
  blue : bits_fed l.sink 0 ≡ min l.from (slice_index l.lanes.bits 0);
  green : bits_fed l.sink 1 ≡ min l.from (slice_index l.lanes.bits 1);
  red : bits_fed l.sink 2 ≡ min l.from (slice_index l.lanes.bits 2);
}

abbrev pub decreases-loop-from : goal.decreases-loop-from
decreases-loop-from g l = l.all - l.from
