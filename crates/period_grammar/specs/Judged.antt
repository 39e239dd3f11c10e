-- What the judge of a lane stands for.
use Rattle.std.specs.Prelude.{◌≡◌, ℕ, Bool, true, false, List, Option, Some, None}
use Rattle.tmds_code.specs.Pasts.{IsJudgeAfter}
use Rattle.period_grammar.specs.Coding.{first_uncoded}
use Rattle.period_grammar.specs.declared.lane.LaneJudge.{LaneJudge}

abbrev pub first_next : Option ℕ → Bool → ℕ → Option ℕ
first_next (Some i) right n = Some i
first_next None true n = None
first_next None false n = Some n

pub record IsLaneAfter (lane : LaneJudge) (ws : List ℕ) : Type 0 where
  pub judge : IsJudgeAfter lane.judge ws
  pub first : lane.first ≡ first_uncoded ws
