-- The columns of a line of pixels.
use Rattle.std.specs.Prelude.{Bool, not}
use Rattle.tmds_word.specs.Column.{Column}
use Rattle.terc4.specs.Columns.{is_control_column}

-- whether a column after a video period's guard goes on with its line
unfoldable pub is_pixel : Column → Bool
is_pixel c = not (is_control_column c)
