use Rattle.worked_rows.proofs.Packets.{two_row}
use Rattle.worked_rows.proofs.two_row.Goals as goal

pub returns : goal.returns
returns c = two_row
