use Rattle.std.proofs.Common.{arith}
use Rattle.source_end.proofs.Gathered.{row_held}
use Rattle.source_end.proofs.gathering.Gathering.row.Goals as goal

pub returns : goal.returns
returns c parts h = grind (arith, row_held)
