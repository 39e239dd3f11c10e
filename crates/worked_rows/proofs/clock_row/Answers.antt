use Rattle.worked_rows.proofs.Fields.{clock_row}
use Rattle.worked_rows.proofs.clock_row.Goals as goal

pub returns : goal.returns
returns c = clock_row
