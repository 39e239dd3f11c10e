use Rattle.worked_rows.proofs.Slipped.{late_row}
use Rattle.worked_rows.proofs.late_row.Goals as goal

pub returns : goal.returns
returns c = late_row
