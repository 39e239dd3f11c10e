use Rattle.worked_rows.proofs.Taps.{cut_row}
use Rattle.worked_rows.proofs.cut_row.Goals as goal

pub returns : goal.returns
returns c = cut_row
