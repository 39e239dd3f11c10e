use Rattle.std.proofs.Common.{arith}
use Rattle.terc4.specs.Tables.{video_guard}
use Rattle.column_rows.proofs.Filled.{equal_columns}
use Rattle.column_rows.proofs.rows.lay_video_guard.Goals as goal

pub returns : goal.returns
unfolding video_guard
returns c = grind (arith, equal_columns, c.fill.ensures, c.fill-2.ensures, c.fill-3.ensures, c.requires.green, c.requires.red)
