use Rattle.worked_rows.proofs.Fields.{avi_row}
use Rattle.worked_rows.proofs.avi_row.Goals as goal

pub returns : goal.returns
returns c = avi_row
