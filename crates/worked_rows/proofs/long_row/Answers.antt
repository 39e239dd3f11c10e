use Rattle.worked_rows.proofs.Packets.{long_row}
use Rattle.worked_rows.proofs.long_row.Goals as goal

pub returns : goal.returns
returns c = long_row
