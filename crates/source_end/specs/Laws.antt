-- What follows from the definitions.
use Rattle.std.specs.Prelude.{◌≡◌, List, length}
use Rattle.tmds_word.specs.Column.{Column}
use Rattle.island_pack.specs.Periods.{Period, columns_of}
use Rattle.island_pack.specs.Spelling.{Spells}
use Rattle.source_end.specs.DviPeriods.{DviSpells, dvi_columns_of}

-- columns that spell periods are as many as the periods take
unfoldable pub SpelledAsMany : Type 0
SpelledAsMany = (periods : List Period) (columns : List Column) → Spells periods columns → length columns ≡ columns_of periods

-- the same without guard bands
unfoldable pub DviSpelledAsMany : Type 0
DviSpelledAsMany = (periods : List Period) (columns : List Column) → DviSpells periods columns → length columns ≡ dvi_columns_of periods
