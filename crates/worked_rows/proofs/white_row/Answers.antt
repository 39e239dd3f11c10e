use Rattle.worked_rows.proofs.Codes.{white_row}
use Rattle.worked_rows.proofs.white_row.Goals as goal

pub returns : goal.returns
returns c = white_row
