-- What contracts see of a line.
use Rattle.island_pack.specs.declared.ranges.TheConstants.{PIXEL_LIMIT}
use Rattle.std.specs.Prelude.{◌≡◌, ℕ, ◌*◌, min, List, length, ◌<◌, Some}
use Rattle.period_grammar.specs.declared.lane.LaneJudge.{LaneJudge}

pub record LineSeen : Type 0 where
  pub bytes : List ℕ
  pub count : ℕ
  pub blue : LaneJudge
  pub green : LaneJudge
  pub red : LaneJudge

-- the numbers of a lane of this many words
pub record IsSized (lane : LaneJudge) (n : ℕ) : Type 0 where
  pub judge : lane.judge.count ≡ n
  pub first : (i : ℕ) → lane.first ≡ Some i → i < n

pub record IsInRange (line : LineSeen) : Type 0 where
  pub bytes : length line.bytes ≡ 3 * min line.count PIXEL_LIMIT
  pub blue : IsSized line.blue (min line.count PIXEL_LIMIT)
  pub green : IsSized line.green (min line.count PIXEL_LIMIT)
  pub red : IsSized line.red (min line.count PIXEL_LIMIT)
