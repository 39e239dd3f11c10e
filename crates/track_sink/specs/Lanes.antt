-- Three lanes of an epoch: what they hold.
use Rattle.std.specs.Prelude.{◌≡◌, ℕ, [], length, take, drop, min}
use Rattle.link_sink.specs.Sinks.{Fed}
use Rattle.track_sink.specs.declared.lane.HeldLane.{HeldLane}
use Rattle.track_sink.specs.declared.lanes.HeldLanes.{HeldLanes}

-- no bit was fed to a lane
pub record IsFresh (lane : HeldLane) : Type 0 where
  pub held : lane.held.bits ≡ []
  pub fed : lane.fed ≡ 0

pub record AreFresh (lanes : HeldLanes) : Type 0 where
  pub blue : IsFresh lanes.blue
  pub green : IsFresh lanes.green
  pub red : IsFresh lanes.red

-- the first bits of a lane are released, or all where there are fewer
pub record IsReleased (before now : HeldLane) (bits count : ℕ) : Type 0 where
  pub many : count ≡ min (length before.held.bits) bits
  pub held : now.held.bits ≡ drop bits before.held.bits
  pub released : now.held.released ≡ take bits before.held.bits
  pub fed : now.fed ≡ before.fed

-- the lanes of an epoch are held from a place of it on
pub record AreHeld (lanes : HeldLanes) (base : ℕ) (fed : Fed) : Type 0 where
  pub blue : lanes.blue.held.bits ≡ drop base fed.blue
  pub green : lanes.green.held.bits ≡ drop base fed.green
  pub red : lanes.red.held.bits ≡ drop base fed.red
