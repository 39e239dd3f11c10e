use Rattle.std.proofs.Common.{◌≡◌, ◌⊎◌, ◌+◌, ◌-◌, ◌%◌, ◌<◌, ◌≤◌, ◌++◌, List, true}
use Rattle.link_sink.specs.Sinks.{Fed}
use Rattle.track_sink.specs.TrackEvents.{TrackEventAt}
use Rattle.track_sink.specs.TrackSinks.{EpochSinkTells, bits_fed}
use Rattle.c_room.specs.declared.lanes.BitCounts.{BitCounts}
use Rattle.c_room.specs.Takes.{most_of, counts_to, plus, grown_to, AreFed}
use Rattle.c_room.specs.TrackRooms.{FitsTrack, IsTrackFull}
use Rattle.c_room.specs.TrackWritten.{track_writing}
use Rattle.c_room.specs.Written.{HasTaken}
use Rattle.c_room.proofs.track_feeding.feed_epochs.Given as goal

abbrev pub invariant-loop-size : goal.invariant-loop-size
invariant-loop-size g l =
    let lanes = l.fn.lanes in
    let most = most_of lanes.bits in record {
      goes_on : l.sink.is_open ≡ true;
      within : l.at + l.size ≤ most;
      small : l.size ≤ 32768;
      whole : (l.at ≡ most) ⊎ (l.at % 8 ≡ 0);
      next : (l.at + l.size ≡ most) ⊎ (l.size % 8 ≡ 0);
      fits : 0 < l.size → FitsTrack l.room l.size;
      full : l.size ≡ 0 → l.at < most → IsTrackFull l.room;
      taken : (fed : BitCounts) → AreFed (bits_fed l.fn.sink) fed → AreFed (bits_fed l.sink) (plus fed (counts_to l.at lanes.bits));
      reported : (fed : Fed) (reported : List TrackEventAt) → EpochSinkTells g.W.Watch.rule g.W.Watch.looked g.W.Watch.passed l.fn.sink fed reported
          → (told : List TrackEventAt) × EpochSinkTells g.W.Watch.rule g.W.Watch.looked g.W.Watch.passed l.sink (grown_to (counts_to l.at lanes.bits) fed lanes) (reported ++ told) × HasTaken track_writing l.fn.room l.room told;
    }

abbrev pub decreases-loop-size : goal.decreases-loop-size
decreases-loop-size g l = most_of l.fn.lanes.bits - l.at
