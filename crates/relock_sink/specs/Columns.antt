-- The columns at the edges of an alignment, of lanes that are lent.
use Rattle.std.specs.Prelude.{◌≡◌, ℕ, ◌+◌, ◌-◌, true, false, List, [], ◌∷◌, slice_index, Option, Some}
use Rattle.tmds_word.specs.Bits.{window}
use Rattle.tmds_word.specs.Column.{Column}
use Rattle.lane_deskew.specs.Aligned.{column_from}
use Rattle.alignment_search.specs.Alignments.{least}
use Rattle.link_sink.specs.Sinks.{Fed}
use Rattle.track_sink.specs.Lents.{HasRoom}
use Rattle.track_sink.specs.declared.watch.LentLanes.{LentLanes}
use Rattle.relock_sink.specs.Bands.{AreSo}
use Rattle.relock_sink.specs.Relocks.{is_announced}

-- the column of the characters at three places
abbrev pub column_here : Fed → List ℕ → Option Column
column_here fed places = column_from (window fed.blue (slice_index places 0)) (window fed.green (slice_index places 1)) (window fed.red (slice_index places 2))

-- and of those after them
abbrev pub column_after : Fed → List ℕ → Option Column
column_after fed places = column_here fed ((slice_index places 0 + 10) ∷ (slice_index places 1 + 10) ∷ (slice_index places 2 + 10) ∷ [])

-- where both columns are whole, a period opens
abbrev pub IsOpened : Fed → List ℕ → Type 0
IsOpened fed edges = (g h : Column) → column_here fed edges ≡ Some g → column_after fed edges ≡ Some h → is_announced g h ≡ true

-- both are whole, and none opens: the epoch is left at a place
pub record IsDoubted (fed : Fed) (edges : List ℕ) (place : ℕ) : Type 0 where
  pub columns : AreSo (column_here fed edges) (column_after fed edges) is_announced false
  pub at : place ≡ least edges - 119

pub record HaveRoom (lanes : LentLanes) : Type 0 where
  pub blue : HasRoom lanes.blue
  pub green : HasRoom lanes.green
  pub red : HasRoom lanes.red
