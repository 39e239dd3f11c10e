use Rattle.std.proofs.Common.{◌≡◌, ◌⊎◌, ◌+◌, ◌-◌, ◌%◌, ◌<◌, ◌≤◌, List, true}
use Rattle.period_grammar.specs.Events.{EventAt}
use Rattle.link_sink.specs.Sinks.{Fed, IsGainAt}
use Rattle.link_sink.specs.Streams.{StandsBy, bits_fed}
use Rattle.c_room.specs.declared.lanes.BitCounts.{BitCounts}
use Rattle.c_room.specs.Rooms.{Fits, IsFull}
use Rattle.c_room.specs.Takes.{most_of, counts_to, plus, grown_to, AreFed}
use Rattle.c_room.specs.Written.{link_writing, HasTaken}
use Rattle.c_room.proofs.feeding.feed_lanes.Given as goal

abbrev pub invariant-loop-size : goal.invariant-loop-size
invariant-loop-size g l =
    let lanes = l.fn.lanes in
    let most = most_of lanes.bits in record {
      goes_on : l.sink.is_open ≡ true;
      within : l.at + l.size ≤ most;
      small : l.size ≤ 32768;
      whole : (l.at ≡ most) ⊎ (l.at % 8 ≡ 0);
      next : (l.at + l.size ≡ most) ⊎ (l.size % 8 ≡ 0);
      fits : 0 < l.size → Fits l.room l.size;
      full : l.size ≡ 0 → l.at < most → IsFull l.room;
      taken : (fed : BitCounts) → AreFed (bits_fed l.fn.sink) fed → AreFed (bits_fed l.sink) (plus fed (counts_to l.at lanes.bits));
      stands : (fed : Fed) → StandsBy g.H.Hears.goes_on l.fn.sink fed → StandsBy g.H.Hears.goes_on l.sink (grown_to (counts_to l.at lanes.bits) fed lanes);
      reported : (fed : Fed) → StandsBy g.H.Hears.goes_on l.fn.sink fed
          → (events : List EventAt) × IsGainAt g.H.Hears.grammar fed (grown_to (counts_to l.at lanes.bits) fed lanes) events × HasTaken link_writing l.fn.room l.room events;
    }

abbrev pub decreases-loop-size : goal.decreases-loop-size
decreases-loop-size g l = most_of l.fn.lanes.bits - l.at
