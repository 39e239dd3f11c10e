-- The kind of a column.
use Rattle.std.specs.Prelude.{if◌then◌else◌}
use Rattle.tmds_word.specs.Column.{Column}
use Rattle.terc4.specs.declared.columns.ColumnKind.{ColumnKind}
use Rattle.terc4.specs.declared.columns.ColumnKind.TheVariants.{Control, VideoGuard, IslandGuard, Other}
use Rattle.terc4.specs.Columns.{is_control_column, is_video_guard, is_island_guard}

-- the first of these that holds: a column with two control words is a control column, whatever the third is
unfoldable pub kind_of : Column → ColumnKind
kind_of c =
    if is_control_column c then Control
    else if is_video_guard c then VideoGuard
    else if is_island_guard c then IslandGuard
    else Other
