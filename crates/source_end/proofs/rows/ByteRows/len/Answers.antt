use Rattle.std.proofs.Common.{arith}
use Rattle.source_end.proofs.RowEnds.{length-rows}
use Rattle.source_end.proofs.rows.ByteRows.len.Goals as goal

pub returns : goal.returns
returns c = grind (arith, length-rows)
