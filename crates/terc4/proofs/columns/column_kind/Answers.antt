use Rattle.std.proofs.Common.{sym}
use Rattle.terc4.proofs.Choices.{control_kind, video_kind, island_kind, other_kind}
use Rattle.terc4.proofs.columns.column_kind.Goals as goal

pub returns-then-is_control_column : goal.returns-then-is_control_column
returns-then-is_control_column c = control_kind _ (sym c.if-is_control_column.ensures)

pub returns-then-is_video_guard : goal.returns-then-is_video_guard
returns-then-is_video_guard c = video_kind _ (sym c.if-is_control_column.ensures) (sym c.if-is_video_guard.ensures)

pub returns-then-is_island_guard : goal.returns-then-is_island_guard
returns-then-is_island_guard c = island_kind _ (sym c.if-is_control_column.ensures) (sym c.if-is_video_guard.ensures) (sym c.if-is_island_guard.ensures)

pub returns-else-is_island_guard : goal.returns-else-is_island_guard
returns-else-is_island_guard c = other_kind _ (sym c.if-is_control_column.ensures) (sym c.if-is_video_guard.ensures) (sym c.if-is_island_guard.ensures)
