-- Columns kept as three rows of bits, one of each lane.
use Rattle.std.specs.Prelude.{ℕ, List}
use Rattle.tmds_word.specs.Column.{Column}

-- what is seen of lanes: the columns taken so far, and how many calls were refused
pub record Collected : Type 0 where
  pub columns : List Column
  pub refusals : ℕ
