use Rattle.worked_rows.proofs.Codes.{black_row}
use Rattle.worked_rows.proofs.black_row.Goals as goal

pub returns : goal.returns
returns c = black_row
