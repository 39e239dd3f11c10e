-- A column: the characters that the three lanes carry at one time.
-- DVI 1.0, section 3.1, and HDMI 1.4, section 5.1: channel 0 carries blue, channel 1 green, channel 2 red.
use Rattle.std.specs.Prelude.{ℕ, List, map, slice_index}

pub record Column : Type 0 where
  pub blue : ℕ
  pub green : ℕ
  pub red : ℕ

-- the column of three characters, lane 0 first
abbrev pub column_of : List ℕ → Column
column_of words = record { blue = slice_index words 0; green = slice_index words 1; red = slice_index words 2 }

-- the characters of each lane
abbrev pub blues : List Column → List ℕ
blues columns = map (λ c. c.blue) columns

abbrev pub greens : List Column → List ℕ
greens columns = map (λ c. c.green) columns

abbrev pub reds : List Column → List ℕ
reds columns = map (λ c. c.red) columns
