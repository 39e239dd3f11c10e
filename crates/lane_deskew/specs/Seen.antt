-- What a deskew shows: where its lanes are aligned, once they are, and what it keeps of each lane.
use Rattle.std.specs.Prelude.{ℕ, ◌+◌, ◌*◌, ◌^◌, ◌<◌, Bool, Option}
use Rattle.lane_deskew.specs.Keeping.{Stored}
use Rattle.lane_deskew.specs.declared.lane.DeskewLane.{DeskewLane}
use Rattle.lane_deskew.specs.declared.Aligned.{Aligned}

-- a lane: the characters of it that are kept, the place of its first one, how many it has pushed, and whether it gets
-- no more. The places of all of them fit
pub record Held : Type 0 where
  pub kept : Stored
  pub lock : ℕ
  pub count : ℕ
  pub ended : Bool
  pub small : lock + 10 * count < 2 ^ 63

-- three of them, and the edges of their first full alignment, once it is found
pub record Seen : Type 0 where
  pub blue : Held
  pub green : Held
  pub red : Held
  pub found : Option Aligned

-- what is shown of a lane
abbrev pub held_of : DeskewLane → Held
held_of lane = record { kept = lane.kept; lock = lane.lock; count = lane.count; ended = lane.ended; small = lane.small }
