-- What C keeps: a sink, and how many bits of each lane it was fed.
use Rattle.std.specs.Prelude.{◌≡◌, ◌<◌, true}
use Rattle.tmds_word.specs.declared.TheConstants.{MOST_BITS}
use Rattle.link_sink.specs.Sinks.{Fed}
use Rattle.c_room.specs.Sinks.{goes_on, StandsFor, HasTakenBits}
use Rattle.c_room.specs.Takes.{MayTakeLanes, AreFew}
use Rattle.c_room.specs.declared.kept.Kept.{Kept}
use Rattle.c_room.specs.declared.lanes.CallerLanes.{CallerLanes}

-- as long as its sink is open, it stands for these bits
pub record Stands (kept : Kept) (fed : Fed) : Type 0 where
  pub bits : goes_on kept.sink ≡ true → HasTakenBits kept.sink kept.fed
  pub sink : goes_on kept.sink ≡ true → StandsFor kept.sink fed
  pub blue : kept.fed.blue < MOST_BITS
  pub green : kept.fed.green < MOST_BITS
  pub red : kept.fed.red < MOST_BITS

-- it may take these bits of lanes that are lent
pub record IsReady (kept : Kept) (lanes : CallerLanes) : Type 0 where
  pub goes_on : goes_on kept.sink ≡ true
  pub may : MayTakeLanes kept.fed lanes
  pub few : AreFew kept.fed lanes.bits
