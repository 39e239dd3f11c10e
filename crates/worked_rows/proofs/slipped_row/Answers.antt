use Rattle.worked_rows.proofs.Slipped.{slipped_row}
use Rattle.worked_rows.proofs.slipped_row.Goals as goal

pub returns : goal.returns
returns c = slipped_row
