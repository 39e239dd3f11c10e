-- Columns that are lent as the characters of three lanes.
use Rattle.std.specs.Prelude.{List}
use Rattle.tmds_word.specs.Column.{Column}
use Rattle.tmds_word.specs.Words.{columns_of}
use Rattle.tmds_word.specs.declared.columns.Columns.{Columns}

-- the columns, one after another
unfoldable pub columns_in : Columns → List Column
columns_in lent = columns_of lent.blue.now lent.green.now lent.red.now
