-- Control columns that were handed on to a gathering.
use Rattle.std.specs.Prelude.{ℕ, ◌+◌, ◌^◌, ◌<◌, List, ◌++◌, map, length}
use Rattle.source_end.specs.declared.gathering.Gathering.{Gathering}
use Rattle.source_end.specs.Gathering.{size, Has}
use Rattle.source_end.specs.Raster.{Part, column}

-- from the first state to the second it took control columns of these values, as long as all of its columns fit 32 bits
abbrev pub Took : Gathering → Gathering → List ℕ → Type 0
Took x y values = (parts : List Part) → Has x parts → size parts + length values < 2 ^ 32 → Has y (parts ++ map column values)
