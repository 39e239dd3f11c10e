use Rattle.worked_rows.proofs.Taps.{noise_row}
use Rattle.worked_rows.proofs.noise_row.Goals as goal

pub returns : goal.returns
returns c = noise_row
