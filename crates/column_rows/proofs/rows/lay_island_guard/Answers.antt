use Rattle.std.proofs.Common.{arith}
use Rattle.terc4.specs.Tables.{island_guard}
use Rattle.column_rows.proofs.Filled.{equal_columns}
use Rattle.column_rows.proofs.rows.lay_island_guard.Goals as goal

pub returns : goal.returns
unfolding island_guard
returns c = grind (arith, equal_columns, c.fill.ensures, c.fill-2.ensures, c.fill-3.ensures, c.terc.ensures, c.value.ensures.value, c.requires.green, c.requires.red)
