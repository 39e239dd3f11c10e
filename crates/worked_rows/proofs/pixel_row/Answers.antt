use Rattle.worked_rows.proofs.Taps.{pixel_row}
use Rattle.worked_rows.proofs.pixel_row.Goals as goal

pub returns : goal.returns
returns c = pixel_row
