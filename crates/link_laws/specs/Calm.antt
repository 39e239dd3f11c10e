-- Lanes of columns received with sparse damage.
use Rattle.tmds_word.specs.Column.{Column, blues, greens, reds}
use Rattle.std.specs.Prelude.{List}
use Rattle.lane_align.specs.Laws.{IsCalm}
use Rattle.link_laws.specs.LaneEnds.{damaged}
use Rattle.island_pack.specs.Periods.{Period}
use Rattle.link_laws.specs.Laws.{ReceivedOf}

-- on each lane the characters that are not as they were sent are marked: of any eleven in a row at most two are, and each
-- other one is a control character or has at most five transitions
pub record AreCalm (sent received : List Column) : Type 0 where
  pub blue : IsCalm (blues received) (damaged (blues sent) (blues received))
  pub green : IsCalm (greens received) (damaged (greens sent) (greens received))
  pub red : IsCalm (reds received) (damaged (reds sent) (reds received))

-- lanes of columns received with sparse damage, wherever it lies, are calm
abbrev pub LanesAreCalm : Type 0
LanesAreCalm = (ps : List Period) (sent received : List Column) → ReceivedOf ps sent received → AreCalm sent received
