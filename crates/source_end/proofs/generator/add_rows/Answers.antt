use Rattle.std.proofs.Common.{arith}
use Rattle.source_end.proofs.Generated.{same_length, adds_none, no_row, rows_added}
use Rattle.source_end.proofs.generator.add_rows.Goals as goal

pub loop-y-init : goal.loop-y-init
loop-y-init c = grind (arith, no_row, adds_none)

pub loop-y-preserved : goal.loop-y-preserved
loop-y-preserved c = grind (arith, same_length, rows_added)
