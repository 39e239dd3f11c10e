use Rattle.std.proofs.Common.{arith}
use Rattle.column_rows.proofs.Filled.{equal_columns}
use Rattle.column_rows.proofs.rows.lay_control.Goals as goal

pub returns : goal.returns
returns c = grind (arith, equal_columns, c.fill.ensures, c.fill-2.ensures, c.fill-3.ensures, c.control.ensures, c.control-2.ensures, c.control-3.ensures, c.value.ensures.value, c.value-2.ensures.value, c.value-3.ensures.value, c.requires.green, c.requires.red)
