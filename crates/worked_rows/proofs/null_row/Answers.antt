use Rattle.worked_rows.proofs.Fields.{null_row}
use Rattle.worked_rows.proofs.null_row.Goals as goal

pub returns : goal.returns
returns c = null_row
