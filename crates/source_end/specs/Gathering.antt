-- What is written of a raster's parts so far.
use Rattle.std.specs.Prelude.{◌≡◌, ℕ, ◌+◌, ◌*◌, ◌/◌, List, [], ◌∷◌, ◌++◌, map, length}
use Rattle.island_pack.specs.Periods.{ControlRun, Period}
use Rattle.island_pack.specs.Runs.{longest}
use Rattle.source_end.specs.declared.gathering.Gathering.{Gathering}
use Rattle.source_end.specs.ItemPeriods.{period_of}
use Rattle.source_end.specs.Raster.{Part, column, pixels, packets, gathered}

abbrev pub part_size : Part → ℕ
part_size (column v) = 1
part_size (pixels bytes) = 2 + length bytes / 3
part_size (packets x) = 4 + 32 * length x.packets

-- how many columns parts take
unfoldable pub size : List Part → ℕ
size [] = 0
size (p ∷ ps) = part_size p + size ps

-- Whole periods and the runs of a control period that goes on hold parts: those periods are what the earlier parts make,
-- to which no later part adds, and those runs are the longest runs of the columns after them.
pub record Holds (periods : List Period) (runs : List ControlRun) (parts : List Part) : Type 0 where
  pub earlier : List Part
  pub values : List ℕ
  pub parts_are : parts ≡ earlier ++ map column values
  pub periods_are : periods ≡ gathered earlier
  pub runs_are : runs ≡ longest values
  pub apart : (later : List Part) → gathered (earlier ++ later) ≡ gathered earlier ++ gathered later

abbrev pub Has : Gathering → List Part → Type 0
Has g parts = Holds (map period_of g.items.items) g.period parts

-- Parts whose first ones make periods that were taken out, to which no later part adds, and whose others a gathering has.
pub record Parted (periods : List Period) (g : Gathering) (parts : List Part) : Type 0 where
  pub earlier : List Part
  pub rest : List Part
  pub parts_are : parts ≡ earlier ++ rest
  pub periods_are : periods ≡ gathered earlier
  pub apart : (later : List Part) → gathered (earlier ++ later) ≡ gathered earlier ++ gathered later
  pub held : Has g rest
