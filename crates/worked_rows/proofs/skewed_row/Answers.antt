use Rattle.worked_rows.proofs.Taps.{skewed_row}
use Rattle.worked_rows.proofs.skewed_row.Goals as goal

pub returns : goal.returns
returns c = skewed_row
