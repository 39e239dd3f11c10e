-- What holds of every stream of periods.
use Rattle.std.specs.Prelude.{List}
use Rattle.tmds_word.specs.Column.{Column}
use Rattle.island_pack.specs.Periods.{Period}
use Rattle.island_pack.specs.Conforming.{IsConforming}
use Rattle.island_pack.specs.Spelling.{Spells}

-- every conforming list of periods is spelled by some columns
abbrev pub ConformingIsSpelled : Type 0
ConformingIsSpelled = (periods : List Period) → IsConforming periods → (columns : List Column) × Spells periods columns
