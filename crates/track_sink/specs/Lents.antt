-- Bits of three lanes that are lent to what looks through them.
use Rattle.std.specs.Prelude.{◌≡◌, ℕ, ◌+◌, ◌*◌, ◌<◌, ◌≤◌, Bool, List, length, take, drop}
use Rattle.tmds_word.specs.Bits.{bytes_bits}
use Rattle.tmds_word.specs.declared.TheConstants.{MOST_BITS}
use Rattle.link_sink.specs.Sinks.{Fed}
use Rattle.track_sink.specs.Epochs.{most_of}
use Rattle.track_sink.specs.declared.TheConstants.{ROOM}
use Rattle.track_sink.specs.declared.watch.LentBits.{LentBits}
use Rattle.track_sink.specs.declared.watch.LentLanes.{LentLanes}

-- there is room for a load of eight bytes behind them
pub record HasRoom (lane : LentBits) : Type 0 where
  pub few : lane.skip < 8
  pub behind : lane.skip + lane.count + 16 ≤ 8 * length lane.bytes.now
  pub within : length lane.bytes.now ≤ ROOM

-- all bits of a lane from a place on are lent
pub record IsLent (lane : LentBits) (base : ℕ) (xs : List Bool) : Type 0 where
  pub bits : take lane.count (drop lane.skip (bytes_bits lane.bytes.now)) ≡ drop base xs
  pub many : lane.count ≡ length (drop base xs)
  pub room : HasRoom lane

-- all bits of three lanes from a place on, which one of them reaches
pub record AreLent (lanes : LentLanes) (fed : Fed) : Type 0 where
  pub blue : IsLent lanes.blue lanes.base fed.blue
  pub green : IsLent lanes.green lanes.base fed.green
  pub red : IsLent lanes.red lanes.base fed.red
  pub within : lanes.base ≤ most_of fed
  pub small : most_of fed < MOST_BITS
