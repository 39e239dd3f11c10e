-- The columns of three lanes that are aligned at three edges: column 0 is that of the first of the twelve
-- control words before each edge.
use Rattle.std.specs.Prelude.{ℕ, ◌+◌, ◌-◌, ◌*◌, Bool, List, slice_index, Option, Some, None}
use Rattle.tmds_word.specs.Bits.{window}
use Rattle.tmds_word.specs.Column.{Column}
use Rattle.tmds_word.specs.Words.{columns_of}
use Rattle.lane_align.specs.Words.{words_from}

-- three characters, where there are three
abbrev pub column_from : Option ℕ → Option ℕ → Option ℕ → Option Column
column_from (Some blue) (Some green) (Some red) = Some (record { blue = blue; green = green; red = red })
column_from _ _ _ = None

-- where the character of column j begins on a lane with an edge
abbrev pub place : ℕ → ℕ → ℕ
place e j = e - 120 + 10 * j

-- column j, where all three lanes have a whole window for it
unfoldable pub aligned_column : List Bool → List Bool → List Bool → ℕ → ℕ → ℕ → ℕ → Option Column
aligned_column xs ys zs d e f j = column_from (window xs (place d j)) (window ys (place e j)) (window zs (place f j))

-- the same at a list of three edges, lane 0 first
abbrev pub column_at : List Bool → List Bool → List Bool → List ℕ → ℕ → Option Column
column_at xs ys zs edges j = aligned_column xs ys zs (slice_index edges 0) (slice_index edges 1) (slice_index edges 2) j

-- the columns that three lanes carry from the runs before three edges on
unfoldable pub aligned_columns : List Bool → List Bool → List Bool → ℕ → ℕ → ℕ → List Column
aligned_columns xs ys zs d e f = columns_of (words_from xs (d - 120)) (words_from ys (e - 120)) (words_from zs (f - 120))
